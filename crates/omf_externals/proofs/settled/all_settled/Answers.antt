use Rattle.std.proofs.Common.{◌∙◌, ◌++◌, ◌∷◌, [], ap}
use Rattle.std.specs.List.{enumerate_from}
use Rattle.omf_check.specs.Module.{records_in, typed_modules}
use Rattle.omf_check.specs.WellFormed.{recs}
use Rattle.omf_externals.specs.Unresolved.{all_rows, all_settled, settled_in}
use Rattle.omf_placement.proofs.StepLaws.{no_more_mapped, one_mapped}
use Rattle.omf_externals.proofs.NameLaws.{next-one, none-left}
use Rattle.omf_externals.proofs.settled.all_settled.Goals as goal

pub loop-j-init : goal.loop-j-init
loop-j-init c = λ h. ap (λ xs. xs ++ all_settled (typed_modules c.args.modules.now) c.args.by_hand.now) c.new-settled.ensures.items

pub loop-j-preserved : goal.loop-j-preserved
loop-j-preserved c = λ h.
    let ms = typed_modules c.args.modules.now in
    let j = c.loop-j.j in
    let m = recs (records_in c.index-modules-j.result.bytes) in
    one_mapped (settled_in (all_rows ms) c.args.by_hand.now) c.loop-j.settled.items c.push.new.self.items (j, m) _ _ _
    (c.in_ok-push.ensures.items ∙ ap (λ x. c.loop-j.settled.items ++ x ∷ []) (c.in_ok-settled_in.ensures (all_rows ms) h))
    (ap (enumerate_from j) (next-one c.args.modules.now j c.index-modules-j.result c.index-modules-j.is c.loop-j-test.true)) (c.loop-j.invariant h)

pub returns : goal.returns
returns c = λ h.
    let ms = typed_modules c.args.modules.now in
    no_more_mapped (settled_in (all_rows ms) c.args.by_hand.now) c.loop-j.settled.items _ _ (ap (enumerate_from c.loop-j.j) (none-left c.args.modules.now c.loop-j.j c.loop-j-test.false)) (c.loop-j.invariant h)
