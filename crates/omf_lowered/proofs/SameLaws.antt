-- The first record that is the same as another one.
use Rattle.std.proofs.Common.{◌≡◌, ℕ, ◌+◌, ◌<◌, ◌≤◌, false, List, [], ◌∷◌, ◌++◌, get_or, sym, ap, subst, ◌∙◌, arith, length, length-append, append-nil, take}
use Rattle.std.specs.Prelude.{flat_map, Some, slice_get}
use Rattle.std.proofs.lemmas.Grind.{flat_map-append}
use Rattle.std.proofs.lemmas.List.{take_more, take_all}
use Rattle.std.proofs.lemmas.List.Elements.{All-more}
use Rattle.std.proofs.lemmas.List.Folds.{length-flat_map-take}
use Rattle.omf_frame.specs.Framing.{Raw, raw_bytes}
use Rattle.omf_explicit.specs.Modules.{IsModule}
use Rattle.omf_lowered.specs.Places.{AreUnlike, is_same}

raw_size : (r : Raw) → length (raw_bytes r) ≡ length r.body + 4
raw_size r = omega (arith, length-append r.body (r.checksum ∷ []))

one_size : (r : Raw) → length (flat_map raw_bytes (r ∷ [])) ≡ length r.body + 4
one_size r = ap length (append-nil (raw_bytes r)) ∙ raw_size r

-- one record more
pub offset_more : (rs : List Raw) (i start : ℕ) (r : Raw) → r ≡ get_or rs i r → i < length rs → start ≡ length (flat_map raw_bytes (take i rs)) → start + (length r.body + 4) ≡ length (flat_map raw_bytes (take (i + 1) rs))
offset_more rs i start r e h s =
    let parts : take (i + 1) rs ≡ take i rs ++ r ∷ [] = take_more rs i r h ∙ ap (λ x. take i rs ++ x ∷ []) (sym e) in
    let size = ap length (ap (flat_map raw_bytes) parts ∙ flat_map-append raw_bytes (take i rs) (r ∷ [])) in
    omega (arith, s, size, length-append (flat_map raw_bytes (take i rs)) (flat_map raw_bytes (r ∷ [])), one_size r)

pub unlike_more : (rs : List Raw) (x : Raw) (i : ℕ) (r : Raw) → r ≡ get_or rs i r → i < length rs → AreUnlike (take i rs) x → is_same r x ≡ false → AreUnlike (take (i + 1) rs) x
unlike_more rs x i r e h u other = All-more (λ y. is_same y x ≡ false) rs i r h u (subst (λ y. is_same y x ≡ false) e other)

pub offset_within : (rs : List Raw) (i start : ℕ) (r : Raw) → r ≡ get_or rs i r → i < length rs → start ≡ length (flat_map raw_bytes (take i rs)) → start + (length r.body + 4) ≤ length (flat_map raw_bytes rs)
offset_within rs i start r e h s =
    let here : length (raw_bytes (get_or rs i r)) ≡ length r.body + 4 = ap (λ x. length (raw_bytes x)) (sym e) ∙ raw_size r in
    omega (arith, s, here, length-flat_map-take raw_bytes rs i r h)

-- the records of a module are in the input
pub records_inside : (input rest : List ℕ) (rs : List Raw) → IsModule input rs rest → length (flat_map raw_bytes rs) ≤ length input
records_inside input rest rs m =
    let size = ap length m.begins.spelled in
    let all = ap length (ap (flat_map raw_bytes) m.are ∙ flat_map-append raw_bytes m.before (m.end ∷ [])) in
    let last = ap length (append-nil (raw_bytes m.end)) in
    omega (arith, size, all, last, length-append (flat_map raw_bytes m.before) (flat_map raw_bytes (m.end ∷ [])), length-append (flat_map raw_bytes m.before) (raw_bytes m.end ++ rest), length-append (raw_bytes m.end) rest)
