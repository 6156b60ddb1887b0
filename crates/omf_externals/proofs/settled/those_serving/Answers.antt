use Rattle.std.proofs.Common.{◌+◌, ◌∙◌, ◌∷◌, [], ap, drop, get_or}
use Rattle.std.specs.Prelude.{filter}
use Rattle.std.proofs.lemmas.List.Elements.{filter-append}
use Rattle.omf_check.specs.Module.{recs_of}
use Rattle.omf_placement.proofs.WeakLaws.{entries_more, no_entries}
use Rattle.omf_externals.specs.Unresolved.{rows_seen, serves}
use Rattle.omf_placement.proofs.StepLaws.{none_left}
use Rattle.omf_externals.proofs.SettledLaws.{next_at, no_pair}
use Rattle.omf_externals.proofs.settled.those_serving.Goals as goal

pub loop-pair-preserved : goal.loop-pair-preserved
loop-pair-preserved c = λ rows h.
    let m = recs_of c.args.«module».now.bytes in
    let among = rows_seen rows (c.args.number, m) in
    let f = serves among c.args.given.now m in
    let ps = c.args.pairs.now in
    let k = c.loop-pair.pair-index in
    let p = get_or ps k no_pair in
    entries_more c.loop-pair.serving.items c.put_serving.new.serving.items (filter f (p ∷ [])) (filter f (drop k ps)) (filter f (drop (k + 1) ps)) _
    (c.in_ok-put_serving.ensures among h c.in_ok-own.ensures) (ap (filter f) (next_at ps k no_pair c.loop-pair-test.true) ∙ filter-append f (p ∷ []) (drop (k + 1) ps)) (c.loop-pair.invariant rows h)

pub returns : goal.returns
returns c = λ rows h.
    let m = recs_of c.args.«module».now.bytes in
    let f = serves (rows_seen rows (c.args.number, m)) c.args.given.now m in
    no_entries c.loop-pair.serving.items _ _ (ap (filter f) (none_left c.args.pairs.now c.loop-pair.pair-index c.loop-pair-test.false)) (c.loop-pair.invariant rows h)
