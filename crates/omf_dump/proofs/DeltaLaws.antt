-- The fields of an INCDEF.
use Rattle.std.proofs.Common.{◌≡◌, ℕ, ◌+◌, ◌*◌, ◌≤◌, List, [], ◌∷◌, ◌++◌, Result, Ok, Err, ap, append_assoc, arith, drop, length, slice_index_or, subst, sym, ◌∙◌}
use Rattle.std.specs.Prelude.{codes}
use Rattle.std.proofs.lemmas.List.{append-nil}
use Rattle.omf_frame.specs.Bytes.{AddsText}
use Rattle.omf_dump.specs.Comments.{delta_fields, line_fields}
use Rattle.omf_dump.specs.Fields.{Signed}
use Rattle.omf_dump.specs.Render.{fields_text, value_text}
use Rattle.omf_dump.specs.declared.format.Format.{Format}

pub line_written : {A E : Type 0} (r : Result A E) (old new : List ℕ) (f : Format) (bytes : List ℕ) (n : ℕ) → 2 ≤ length bytes → n ≡ slice_index_or bytes 0 0 + 256 * slice_index_or bytes 1 0
    → AddsText r old new (value_text f (codes "line-delta") (Signed n)) → AddsText r old new (fields_text f (line_fields bytes))
line_written r old new f [] n l e h = absurd (omega (arith, l))
line_written r old new f (x ∷ []) n l e h = absurd (omega (arith, l))
line_written r old new f (x ∷ y ∷ bs) n l e h =
    subst (AddsText r old new) (ap (λ k. value_text f (codes "line-delta") (Signed k)) e ∙ sym (append-nil (value_text f (codes "line-delta") (Signed (x + 256 * y))))) h

pub both_written : {A E : Type 0} (r : Result A E) (old mid new a b : List ℕ) → mid ≡ old ++ a → AddsText r mid new b → AddsText r old new (a ++ b)
both_written (Ok x) old mid new a b first second = second ∙ ap (λ (t : List ℕ). t ++ b) first ∙ append_assoc old a b
both_written (Err e) old mid new a b first second = second

pub deltas_written : {A E : Type 0} (r : Result A E) (old mid new : List ℕ) (f : Format) (bytes rest : List ℕ) (n : ℕ) → 2 ≤ length bytes → n ≡ slice_index_or bytes 0 0 + 256 * slice_index_or bytes 1 0 → rest ≡ drop 2 bytes
    → mid ≡ old ++ value_text f (codes "external-delta") (Signed n) → AddsText r mid new (fields_text f (line_fields rest)) → AddsText r old new (fields_text f (delta_fields bytes))
deltas_written r old mid new f [] rest n l e same first second = absurd (omega (arith, l))
deltas_written r old mid new f (x ∷ []) rest n l e same first second = absurd (omega (arith, l))
deltas_written r old mid new f (x ∷ y ∷ bs) rest n l e same first second =
    both_written r old mid new (value_text f (codes "external-delta") (Signed (x + 256 * y))) (fields_text f (line_fields bs))
    (first ∙ ap (λ k. old ++ value_text f (codes "external-delta") (Signed k)) e) (subst (λ t. AddsText r mid new (fields_text f (line_fields t))) same second)
