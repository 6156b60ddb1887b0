use Rattle.std.proofs.Common.{◌≡◌, ◌+◌, ◌≤◌, List, subst, sym, ap, ◌∙◌, Some, None}
use Rattle.std.specs.Prelude.{slice_get}
use Rattle.omf_image.specs.Overlay.{Laid, byte_at, IsRunAt}
use Rattle.omf_image.specs.Inner.Sorted.{laid_run, laid_runs, in_segment, AreSorted}
use Rattle.omf_image.proofs.SortedLaws.{run_at_is, run_fits}
use Rattle.omf_image.proofs.image.Image.run_at.Goals as goal

pub returns-in_err-find_run-clause-maximal : goal.returns-in_err-find_run-clause-maximal
returns-in_err-find_run-clause-maximal c =
    let ls : List Laid = c.args.self.now in
    let sorted : AreSorted 0 ls = subst (λ xs. AreSorted 0 xs) c.self.view_is c.self.invariant in
    let found : None ≡ slice_get (in_segment c.args.segment ls) c.args.k =
    c.in_err-find_run.ensures ∙ ap (λ xs. slice_get (in_segment c.args.segment xs) c.args.k) (ap laid_runs c.deref.ensures.value ∙ c.self.view_is) in
    subst (λ r. IsRunAt (byte_at ls c.args.segment) c.args.k r) (sym c.from_residual.ensures) (run_at_is c.args.segment c.args.k ls None sorted found)

pub returns-clause-maximal : goal.returns-clause-maximal
returns-clause-maximal c =
    let ls : List Laid = c.args.self.now in
    let sorted : AreSorted 0 ls = subst (λ xs. AreSorted 0 xs) c.self.view_is c.self.invariant in
    let run : Laid = laid_run c.in_ok-find_run.field-0.now in
    let found : Some run ≡ slice_get (in_segment c.args.segment ls) c.args.k =
    c.in_ok-find_run.ensures ∙ ap (λ xs. slice_get (in_segment c.args.segment xs) c.args.k) (ap laid_runs c.deref.ensures.value ∙ c.self.view_is) in
    subst (λ r. IsRunAt (byte_at ls c.args.segment) c.args.k (Some r)) (sym c.run.ensures) (run_at_is c.args.segment c.args.k ls (Some run) sorted found)

pub returns-clause-within : goal.returns-clause-within
returns-clause-within c =
    let ls : List Laid = c.args.self.now in
    let sorted : AreSorted 0 ls = subst (λ xs. AreSorted 0 xs) c.self.view_is c.self.invariant in
    let run : Laid = laid_run c.in_ok-find_run.field-0.now in
    let found : Some run ≡ slice_get (in_segment c.args.segment ls) c.args.k =
    c.in_ok-find_run.ensures ∙ ap (λ xs. slice_get (in_segment c.args.segment xs) c.args.k) (ap laid_runs c.deref.ensures.value ∙ c.self.view_is) in
    subst (λ r. r.first + r.len ≤ 4294967296) (sym c.run.ensures) (run_fits 0 c.args.segment c.args.k ls run sorted (sym found))
