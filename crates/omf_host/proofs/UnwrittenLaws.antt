-- The line of an output that could not be written.
use Rattle.std.proofs.Common.{◌≡◌, ℕ, List, [], ◌++◌, Result, Ok, Err, IfOk, ap, subst, ◌∙◌}
use Rattle.std.specs.Prelude.{codes}
use Rattle.omf_frame.specs.Device.{Device}
use Rattle.omf_host.specs.Lines.{AddsFailure, failure_line}
use Rattle.omf_host.specs.Streams.{IsTold, IsToldUnwritten}

-- a line that is made in an empty text is the one that is written
pub told_unwritten : {T E : Type 0} (r : Result T E) (name line text grown : List ℕ) (old new : Device) → AddsFailure (codes "write") (codes "standard output") text grown → text ≡ [] → line ≡ grown → IfOk r (λ _. IsTold name line old new) → IfOk r (λ _. IsToldUnwritten name old new)
told_unwritten (Ok x) name line text grown old new added empty same h =
    (added.0, subst (λ (t : List ℕ). IsTold name t old new) (same ∙ added.1 ∙ ap (λ (t : List ℕ). t ++ failure_line (codes "write") (codes "standard output") added.0) empty) h)
told_unwritten (Err e) name line text grown old new added empty same h = h
