use Rattle.std.proofs.Common.{◌∙◌, ap, sym, None}
use Rattle.std.specs.Prelude.{slice_get}
use Rattle.omf_image.specs.Limits.{profile_limits}
use Rattle.omf_check.specs.Module.{records_in}
use Rattle.omf_check.specs.WellFormed.{recs}
use Rattle.omf_reloc.specs.Inner.ReachSteps.{pieces_far}
use Rattle.omf_reloc.proofs.FarLaws.{far-walked}
use Rattle.omf_reloc.proofs.reaching.far_fault.Goals as goal

pub loop-place-init : goal.loop-place-init
loop-place-init c =
    let pl = c.args.placement.now in
    let m = recs (records_in c.args.module.now.bytes) in
    let p = c.pieces_of-place-items in
    ap (λ xs. slice_get (pieces_far pl None xs) 0) c.into_iter-place-iterator.ensures.into_iter_gives
    ∙ ap (λ fs. slice_get fs 0) (sym (far-walked pl profile_limits m p.ensures.holds p.result p.ensures.listed p.ensures.places))
