-- Texts of several parts.
use Rattle.std.proofs.Common.{◌≡◌, ℕ, List, [], ◌++◌, Result, Ok, Err, sym, ap, ◌∙◌, append_assoc}
use Rattle.std.proofs.lemmas.List.{append-nil}
use Rattle.omf_frame.specs.Bytes.{AddsText}

-- a second part was written after the first
pub two_written : {A E : Type 0} (r : Result A E) (old mid new a b : List ℕ) → mid ≡ old ++ a → AddsText r mid new b → AddsText r old new (a ++ (b ++ []))
two_written (Ok x) old mid new a b first second =
    second ∙ ap (λ (t : List ℕ). t ++ b) first ∙ append_assoc old a b ∙ ap (λ (t : List ℕ). old ++ (a ++ t)) (sym (append-nil b))
two_written (Err e) old mid new a b first second = second

regroup : (o a b c : List ℕ) → (o ++ (a ++ (b ++ []))) ++ c ≡ o ++ (a ++ (b ++ (c ++ [])))
regroup o a b c =
    append_assoc o (a ++ (b ++ [])) c
    ∙ ap (λ (t : List ℕ). o ++ t) (append_assoc a (b ++ []) c ∙ ap (λ (t : List ℕ). a ++ t) (append_assoc b [] c ∙ ap (λ (t : List ℕ). b ++ t) (sym (append-nil c))))

-- a third part was written after two
pub three_written : {A E : Type 0} (r : Result A E) (old mid new a b c : List ℕ) → mid ≡ old ++ (a ++ (b ++ [])) → AddsText r mid new c → AddsText r old new (a ++ (b ++ (c ++ [])))
three_written (Ok x) old mid new a b c first second = second ∙ ap (λ (t : List ℕ). t ++ c) first ∙ regroup old a b c
three_written (Err e) old mid new a b c first second = second
