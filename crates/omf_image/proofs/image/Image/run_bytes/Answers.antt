use Rattle.std.proofs.Common.{◌≡◌, List, subst, sym, ap, ◌∙◌, Some, None}
use Rattle.std.specs.Prelude.{slice_get}
use Rattle.std.specs.Option.{option_copied}
use Rattle.omf_image.specs.Overlay.{Laid, byte_at, AreBytesAt}
use Rattle.omf_image.specs.Inner.Sorted.{laid_run, laid_runs, in_segment, AreSorted}
use Rattle.omf_image.proofs.SortedLaws.{bytes_at_is}
use Rattle.omf_image.proofs.image.Image.run_bytes.Goals as goal

pub returns-in_err-find_run : goal.returns-in_err-find_run
returns-in_err-find_run c =
    let ls : List Laid = c.args.self.now in
    let sorted : AreSorted 0 ls = subst (λ xs. AreSorted 0 xs) c.self.view_is c.self.invariant in
    let found : None ≡ slice_get (in_segment c.args.segment ls) c.args.k =
    c.in_err-find_run.ensures ∙ ap (λ xs. slice_get (in_segment c.args.segment xs) c.args.k) (ap laid_runs c.deref.ensures.value ∙ c.self.view_is) in
    subst (λ r. AreBytesAt (byte_at ls c.args.segment) c.args.k (option_copied r)) (sym c.from_residual.ensures) (bytes_at_is c.args.segment c.args.k ls None sorted found)

pub returns : goal.returns
returns c =
    let ls : List Laid = c.args.self.now in
    let sorted : AreSorted 0 ls = subst (λ xs. AreSorted 0 xs) c.self.view_is c.self.invariant in
    let run : Laid = laid_run c.in_ok-find_run.field-0.now in
    let found : Some run ≡ slice_get (in_segment c.args.segment ls) c.args.k =
    c.in_ok-find_run.ensures ∙ ap (λ xs. slice_get (in_segment c.args.segment xs) c.args.k) (ap laid_runs c.deref.ensures.value ∙ c.self.view_is) in
    subst (λ r. AreBytesAt (byte_at ls c.args.segment) c.args.k (Some r)) (sym c.as_slice.ensures) (bytes_at_is c.args.segment c.args.k ls (Some run) sorted found)
