-- A text that `push_str` appends after another.
use Rattle.std.proofs.Common.{Result, Ok, Err, ◌≡◌, ℕ, List, ◌++◌, ap, ◌∙◌}
use Rattle.std.specs.Prelude.{is_ok, if◌then◌else◌}
use Rattle.std.proofs.lemmas.List.{append_assoc}
use Rattle.omf_frame.specs.Bytes.{AddsText}

pub pushed : {A E : Type 0} (r : Result A E) (old mid new a b : List ℕ) → mid ≡ old ++ a → new ≡ (if is_ok r then mid ++ b else mid) → AddsText r old new (a ++ b)
pushed (Ok x) old mid new a b first second = second ∙ ap (λ (t : List ℕ). t ++ b) first ∙ append_assoc old a b
pushed (Err e) old mid new a b first second = tt
