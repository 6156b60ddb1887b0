use Rattle.std.proofs.Common.{◌≡◌, ◌∙◌, sym, ap, arith, rules, length}
use Rattle.std.specs.Prelude.{map}
use Rattle.std.specs.Vec.{vec_len}
use Rattle.std.proofs.lemmas.List.{length-map}
use Rattle.omf_layout.specs.Inner.Known.{with_place}
use Rattle.omf_layout.proofs.SeveralLaws.KnownLaws.{changed-past, row-changed}
use Rattle.omf_layout.proofs.several.places.put_lying.Goals as goal

pub returns-then-number-len : goal.returns-then-number-len
returns-then-number-len c =
    let x = c.args.lying.now in
    let rows = c.args.rows.now in
    let many : vec_len rows ≡ length rows.items = search rules in
    row-changed (with_place x.0.index x.1) rows.items x.0.«module» c.index_mut.result.now c.put_place.new.row (omega (arith, c.if-number-len.true, c.len.ensures, many))
    (c.put_place.ensures ∙ ap (λ r. with_place x.0.index x.1 r.items) c.index_mut.ensures.value)

pub returns-else-number-len : goal.returns-else-number-len
returns-else-number-len c =
    let x = c.args.lying.now in
    let rows = c.args.rows.now in
    let many : vec_len rows ≡ length rows.items = search rules in
    sym (changed-past (with_place x.0.index x.1) (map (λ r. r.items) rows.items) x.0.«module» (omega (arith, c.if-number-len.false, c.len.ensures, many, length-map rows.items (λ r. r.items))))
