-- A LINSYM, and the LINNUM in its place.
use Rattle.std.proofs.Common.{◌≡◌, inl, inr, ℕ, ◌+◌, ◌%◌, Bool, true, false, cond, List, [], Option, Some, None, Result, Ok, Err, refl, ap, subst}
use Rattle.std.specs.Prelude.{◌||◌, ◌==◌}
use Rattle.std.proofs.lemmas.Bool.{eqb-true, or_cases}
use Rattle.omf_frame.specs.Fault.{Fault}
use Rattle.omf_frame.specs.Framing.{Raw, raw_of}
use Rattle.omf_records.specs.Inner.Reads.{and_then}
use Rattle.omf_check.specs.Tables.{entry}
use Rattle.omf_lowering.specs.Comdats.{instance_at, instance_of, text_by}
use Rattle.omf_lowering.specs.Inner.Readers.{linsym_whole}
use Rattle.omf_lowering.specs.Layouts.{NamedLines}
use Rattle.omf_lowering.specs.Patches.{piece_in}
use Rattle.omf_lowering.specs.Symbols.{is_linsym, linnum_or, lines_by, lines_in, with_linnum}
use Rattle.omf_lowering.specs.Values.{Instance, Tables}

-- without COMDATs before it, a record stays
unnamed : (l : NamedLines) (x : Result (List ℕ) Fault) → lines_in l (and_then x (λ text. and_then (instance_at l.name (instance_of [] text)) (λ i. Ok i.segment))) ≡ None
unnamed l (Ok text) = refl
unnamed l (Err f) = refl

by_read : (t : Tables) (x : Result NamedLines Fault) → lines_by t [] x ≡ None
by_read t (Ok l) = unnamed l (text_by l.name (entry t.names l.name.item))
by_read t (Err f) = refl

none_if : (b : Bool) (x : Option (List ℕ)) → x ≡ None → cond b x None ≡ None
none_if true x e = e
none_if false x e = refl

pub stays : (t : Tables) (r : Raw) → with_linnum t [] r ≡ r
stays t r = ap (linnum_or r) (none_if (is_linsym r.kind) (lines_by t [] (linsym_whole.read 3 r.body)) (by_read t (linsym_whole.read 3 r.body)))

-- neither has data
of_linsym : (P : ℕ → Type 0) → P 0xC4 → P 0xC5 → (k : ℕ) → is_linsym k ≡ true → P k
of_linsym P even odd k e =
    elim (or_cases (0xC4 == k) ((0xC5 == k) || false) e) [
      | inl p ↦ subst P (eqb-true 0xC4 k p) even
      | inr q ↦ elim (or_cases (0xC5 == k) false q) [
        | inl p ↦ subst P (eqb-true 0xC5 k p) odd
        | inr p ↦ absurd cc
      ]
    ]

same_data : (n : ℕ) (r : Raw) (o : Option (List ℕ)) → is_linsym r.kind ≡ true → piece_in n (linnum_or r o) ≡ piece_in n r
same_data n r None e = refl
same_data n r (Some body) e =
    of_linsym (λ k. piece_in n (raw_of (0x94 + k % 2) body) ≡ piece_in n (record { kind = k; body = r.body; checksum = r.checksum })) refl refl r.kind e

same_by : (n : ℕ) (r : Raw) (o : Option (List ℕ)) (b : Bool) → is_linsym r.kind ≡ b → piece_in n (linnum_or r (cond b o None)) ≡ piece_in n r
same_by n r o true e = same_data n r o e
same_by n r o false e = refl

pub piece_same : (n : ℕ) (t : Tables) (instances : List Instance) (r : Raw) → piece_in n (with_linnum t instances r) ≡ piece_in n r
piece_same n t instances r = same_by n r (lines_by t instances (linsym_whole.read 3 r.body)) (is_linsym r.kind) refl
