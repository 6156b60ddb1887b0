use Rattle.std.proofs.Common.{◌≡◌, ◌∙◌, sym, arith, rules, length}
use Rattle.std.specs.Vec.{vec_len}
use Rattle.omf_layout.proofs.SeveralLaws.KnownLaws.{put-none, put-past, put-kept, put-here}
use Rattle.omf_layout.proofs.several.places.put_place.Goals as goal
use Rattle.omf_layout.proofs.several.places.put_place.Goals.{then-index-eq0-via-then-index-eq0, then-index-eq0-via-else-index-eq0+then-index-len, then-index-eq0-via-else-index-eq0+else-index-len+then-is_some}

pub returns-then-index-eq0 : goal.returns-then-index-eq0
returns-then-index-eq0 c =
    let i = c.args.index in
    let k = c.from-index.result in
    let p = c.args.place in
    let row = c.args.row.now in
    let many : vec_len row ≡ length row.items = search rules in
    elim c.then-index-eq0.branch [
      | then-index-eq0-via-then-index-eq0 w ↦ put-none i k p row.items c.from-index.ensures (omega (arith, w.if-index-eq0.true))
      | then-index-eq0-via-else-index-eq0+then-index-len w ↦ put-past i k p row.items c.from-index.ensures (omega (arith, w.if-index-eq0.false)) (omega (arith, w.if-index-len.true, w.len.ensures, many))
      | then-index-eq0-via-else-index-eq0+else-index-len+then-is_some w ↦
          put-kept i k p row.items c.from-index.ensures w.index.result.now (omega (arith, w.if-index-eq0.false)) w.index.ensures (sym w.is_some.ensures ∙ w.if-is_some.true)
    ]

pub returns : goal.returns
returns c =
    let row = c.args.row.now in
    let many : vec_len row ≡ length row.items = search rules in
    put-here c.args.index c.from-index.result c.args.place row.items c.from-index.ensures c.index.result.now (omega (arith, c.if-index-eq0.false)) (omega (arith, c.if-index-len.false, c.len.ensures, many)) c.index.ensures
    (sym c.is_some.ensures ∙ c.if-is_some.false)
