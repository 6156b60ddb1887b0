use Rattle.std.proofs.Common.{◌≡◌, ◌∙◌, List, subst, sym, ap, Some, None}
use Rattle.std.specs.Prelude.{option_map, slice_get}
use Rattle.omf_image.specs.Overlay.{Laid, byte_at, IsRunShown}
use Rattle.omf_image.specs.Inner.Sorted.{laid_run, laid_runs, in_segment, AreSorted}
use Rattle.omf_image.proofs.SortedLaws.{run_at_is, run_bytes_over, run_fits}
use Rattle.omf_image.proofs.image.Image.run_with_bytes.Goals as goal

pub returns-in_err-run : goal.returns-in_err-run
returns-in_err-run c =
    let ls : List Laid = c.args.self.now in
    let sorted : AreSorted 0 ls = subst (λ xs. AreSorted 0 xs) c.self.view_is c.self.invariant in
    let found : None ≡ slice_get (in_segment c.args.segment ls) c.args.k =
    c.in_err-run.ensures ∙ ap (λ xs. slice_get (in_segment c.args.segment xs) c.args.k) (ap laid_runs c.deref.ensures.value ∙ c.self.view_is) in
    subst (λ o. IsRunShown (byte_at ls c.args.segment) c.args.k (option_map (λ run. (run.0, run.1.now)) o)) (sym c.from_residual.ensures) (run_at_is c.args.segment c.args.k ls None sorted found)

pub returns : goal.returns
returns c =
    let ls : List Laid = c.args.self.now in
    let sorted : AreSorted 0 ls = subst (λ xs. AreSorted 0 xs) c.self.view_is c.self.invariant in
    let run : Laid = laid_run c.in_ok-run.run'.now in
    let found : Some run ≡ slice_get (in_segment c.args.segment ls) c.args.k =
    c.in_ok-run.ensures ∙ ap (λ xs. slice_get (in_segment c.args.segment xs) c.args.k) (ap laid_runs c.deref.ensures.value ∙ c.self.view_is) in
    subst (λ bs. IsRunShown (byte_at ls c.args.segment) c.args.k (Some (c.in_ok-run.run'.now.first, bs))) (sym c.as_slice.ensures)
    (run_at_is c.args.segment c.args.k ls (Some run) sorted found, run_bytes_over c.args.segment c.args.k ls run sorted (sym found), run_fits 0 c.args.segment c.args.k ls run sorted (sym found))
