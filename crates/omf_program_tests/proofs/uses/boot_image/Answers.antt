use Rattle.std.proofs.Common.{◌≡◌, ℕ, refl, subst, None, Some, sym}
use Rattle.std.proofs.lemmas.Result.{err_from_is_err_and}
use Rattle.omf_check.specs.Module.{recs_of, records_in}
use Rattle.omf_check.specs.WellFormed.{recs}
use Rattle.omf_image.specs.Limits.{profile_limits}
use Rattle.omf_image.specs.Overlay.{byte_at}
use Rattle.omf_placement.specs.Placement.{Places}
use Rattle.omf_reloc.specs.Image.{image}
use Rattle.omf_reloc.specs.Reach.{reach_fault}
use Rattle.omf_program_tests.proofs.uses.boot_image.Goals as goal

pub returns-in_err-reach : goal.returns-in_err-reach
returns-in_err-reach c =
    let e = err_from_is_err_and c.from_residual-in_err-reach.result c.from_residual-in_err-reach.ensures.1 in
    rw (e.1, e.2) (
    subst (λ (pl : Places). reach_fault pl (recs (records_in c.args.module.now.bytes)) ≡ Some c.in_err-reach.field-0.0) c.in_ok-placement.ensures (sym c.in_err-reach.ensures))

pub returns : goal.returns
returns c =
    let m = recs_of c.args.module.now.bytes in
    let there = c.in_ok-placement.ensures in (
      subst (λ (pl : Places). reach_fault pl m ≡ None) there (sym c.in_ok-reach.ensures),
      λ (segment x : ℕ). subst (λ (pl : Places). byte_at c.in_ok-relocate.field-0 segment x ≡ image profile_limits pl m segment x) there (c.in_ok-relocate.ensures.bytes segment x),
    )
