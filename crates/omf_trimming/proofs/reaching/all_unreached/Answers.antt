use Rattle.std.proofs.Common.{◌∙◌, ap, map, refl}
use Rattle.omf_check.specs.Module.{typed_modules}
use Rattle.omf_trimming.specs.Inner.Reaching.{unmarked_from}
use Rattle.omf_trimming.proofs.UnreachedLaws.{are-unreached, if-ok}
use Rattle.omf_trimming.proofs.reaching.all_unreached.Goals as goal

pub returns : goal.returns
returns c =
    let tm = typed_modules c.args.modules.now in
    let walk = c.in_ok-walk.walk in
    let w = c.in_ok-walk.ensures c.args.left_out tm refl c.in_ok-program.ensures (c.deref.ensures.value ∙ c.in_ok-first.ensures) in
    if-ok c.all_unmarked.result (λ v. are-unreached c.args.left_out tm walk.marks.items walk.queue.items (map (λ gone. gone.items) v.items) w) c.all_unmarked.ensures (ap (map (unmarked_from 0)) c.deref-2.ensures.value)
