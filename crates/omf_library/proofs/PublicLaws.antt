-- The names of the PUBDEFs among records, one after another.
use Rattle.std.proofs.Common.{◌≡◌, ℕ, zero, suc, ◌+◌, ◌*◌, ◌<◌, ◌≤◌, List, [], ◌∷◌, ◌++◌, length, drop, refl, ap, sym, ◌∙◌, append_assoc, arith}
use Rattle.std.specs.Prelude.{flat_map}
use Rattle.std.proofs.lemmas.List.{length-drop}
use Rattle.omf_frame.specs.Framing.{Raw, after_front, front_record, present}
use Rattle.omf_check.specs.Module.{records_from, records_in}
use Rattle.omf_library.specs.LibraryMembers.{publics_in, publics_of}

pub after_shorter : (b : ℕ) (bytes : List ℕ) → length (after_front (b ∷ bytes)) ≤ length bytes
after_shorter b [] = omega arith
after_shorter b (c ∷ []) = omega arith
after_shorter b (c ∷ d ∷ rest) = let e = length-drop (c + 256 * d) rest in omega (arith, e)

-- How long the bytes are does not matter.
enough : (n m : ℕ) (bytes : List ℕ) → length bytes ≤ n → length bytes ≤ m → records_from n bytes ≡ records_from m bytes
enough zero zero bytes h k = refl
enough zero (suc m) [] h k = refl
enough zero (suc m) (b ∷ bytes) h k = absurd (omega (arith, h))
enough (suc n) zero [] h k = refl
enough (suc n) zero (b ∷ bytes) h k = absurd (omega (arith, k))
enough (suc n) (suc m) [] h k = refl
enough (suc n) (suc m) (b ∷ bytes) h k =
    let less = after_shorter b bytes in
    ap (λ rs. front_record (present (b ∷ bytes)) ∷ rs) (enough n m (after_front (b ∷ bytes)) (omega (arith, h, less)) (omega (arith, k, less)))

pub records_step : (b : ℕ) (bytes : List ℕ) → records_in (b ∷ bytes) ≡ front_record (present (b ∷ bytes)) ∷ records_in (after_front (b ∷ bytes))
records_step b bytes =
    let less = after_shorter b bytes in
    ap (λ rs. front_record (present (b ∷ bytes)) ∷ rs) (enough (length bytes) (length (after_front (b ∷ bytes))) (after_front (b ∷ bytes)) less (omega arith))

-- The names of the first record, and those of the others.
pub publics_step : (bytes : List ℕ) → publics_in bytes ≡ publics_of (front_record (present bytes)).kind (front_record (present bytes)).body ++ publics_in (after_front bytes)
publics_step [] = refl
publics_step (b ∷ bytes) = ap (λ rs. flat_map (λ r. publics_of r.kind r.body) rs) (records_step b bytes)

pub names_more : (old new first rest next all : List (List ℕ)) → new ≡ old ++ first → rest ≡ first ++ next → old ++ rest ≡ all → new ++ next ≡ all
names_more old new first rest next all n r e = ap (λ xs. xs ++ next) n ∙ append_assoc old first next ∙ ap (λ xs. old ++ xs) (sym r) ∙ e
