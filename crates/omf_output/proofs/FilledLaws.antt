-- What lies there only if there are bytes.
use Rattle.std.proofs.Common.{◌≡◌, ℕ, zero, suc, ◌+◌, ◌<◌, ◌≤◌, List, [], ◌∷◌, ◌++◌, Bool, true, false, length, take, drop, map, max, refl, sym, ◌∙◌, ap, append-nil, arith, mod-lt, subst, true≢false}
use Rattle.std.specs.Prelude.{All, flat_map, fold, nat_lt, ◌/◌}
use Rattle.std.proofs.lemmas.Bool.{agree_below_at, lt-ltb, ltb-true}
use Rattle.std.proofs.lemmas.List.Elements.{All-nil, All-cons, All-head}
use Rattle.omf_image.specs.Inner.Expanding.{expanded}
use Rattle.omf_image.specs.Limits.{profile_limits}
use Rattle.omf_image.specs.Painting.{Fits}
use Rattle.omf_image.specs.declared.painting.Extent.{Extent}
use Rattle.omf_placement.specs.Placement.{Places}
use Rattle.omf_records.specs.Inner.Names.{location_size}
use Rattle.omf_records.specs.Values.{location_type, width}
use Rattle.omf_reloc.specs.Laws.{AreInside, location_end}
use Rattle.omf_reloc.specs.Plain.{PlainFixup}
use Rattle.omf_output.specs.Exe.Filled.{has_any, only_if}
use Rattle.omf_output.specs.Inner.Laying.{end_of, extent_end, overlaid}

pub same-only : {A : Type 0} (b : Bool) (x y : A) → (b ≡ true → x ≡ y) → only_if b x ≡ only_if b y
same-only true x y h = ap (λ z. z ∷ []) (h refl)
same-only false x y h = refl

pub map-only : {A B : Type 0} (f : A → B) (b : Bool) (x : A) → map f (only_if b x) ≡ only_if b (f x)
map-only f true x = refl
map-only f false x = refl

pub all-only : {A : Type 0} (P : A → Type 0) (b : Bool) (x : A) → P x → All P (only_if b x)
all-only P true x h = All-cons P x [] h (All-nil P)
all-only P false x h = All-nil P

pub only-all : {A : Type 0} (P : A → Type 0) (b : Bool) (x : A) (xs : List A) → b ≡ true → All P (only_if b x ++ xs) → P x
only-all P true x xs e h = All-head P x xs h
only-all P false x xs e h = absurd cc

-- Blocks that expand to bytes are not none.
pub from-expanded : (kind : ℕ) (bytes : List ℕ) → has_any (expanded (width kind) profile_limits bytes) ≡ true → has_any bytes ≡ true
from-expanded kind [] e = e
from-expanded kind (b ∷ bs) e = lt-ltb 0 (suc (length bs)) (omega arith)

pub none-left : (bytes : List ℕ) → length bytes ≡ 0 → bytes ≡ []
none-left [] e = refl
none-left (b ∷ bs) e = absurd (omega (arith, e))

pub none-there : (bytes : List ℕ) → has_any bytes ≡ false → bytes ≡ []
none-there [] e = refl
none-there (b ∷ bs) e = absurd (true≢false (sym (lt-ltb 0 (suc (length bs)) (omega arith)) ∙ e))

-- A location has a byte at least, so no fixup lies in no bytes.
pub end-above : (f : ℕ × PlainFixup) → 0 < location_end f
end-above f =
    let t = location_type f.1.locat in
    let size : 0 < location_size t = ltb-true 0 (location_size t) (agree_below_at (λ n. nat_lt 0 (location_size n)) (λ _. true) 16 t refl (mod-lt (f.1.locat / 1024) (omega arith))) in
    omega (arith, size)

pub none-inside : (n : ℕ) (fs : List (ℕ × PlainFixup)) → n ≡ 0 → AreInside n fs → fs ≡ []
none-inside n [] e h = refl
none-inside n (f ∷ fs) e h =
    let low : location_end f ≤ n = All-head (λ g. location_end g ≤ n) f fs h in
    let above = end-above f in
    absurd (omega (arith, low, above, e))

take-drop : (at : ℕ) (bytes : List ℕ) → take at bytes ++ drop at bytes ≡ bytes
take-drop zero bytes = refl
take-drop (suc at) [] = refl
take-drop (suc at) (b ∷ bs) = ap (λ l. b ∷ l) (take-drop at bs)

-- No bytes in the place of others.
pub none-overlaid : (at : ℕ) (bytes : List ℕ) → take at bytes ++ [] ++ drop (at + 0) bytes ≡ bytes
none-overlaid at bytes = let same : at + 0 ≡ at = omega arith in ap (λ l. l ++ drop (at + 0) bytes) (append-nil (take at bytes)) ∙ ap (λ n. take at bytes ++ drop n bytes) same ∙ take-drop at bytes

pub nothing_overlaid : (at : ℕ) (bytes image : List ℕ) → length bytes ≤ 0 → image ≡ overlaid at bytes image
nothing_overlaid at bytes image h = sym (ap (λ bs. overlaid at bs image) (none-left bytes (omega (arith, h))) ∙ none-overlaid at image)

-- The end of an extent that has bytes, and of one that has none; and of the extents of a record.
one-max : (n : ℕ) → n ≡ fold max 0 (n ∷ [])
one-max n = omega arith

pub end_there : (pl : Places) (e : Extent) (n : ℕ) → n ≡ extent_end pl e → 0 < e.len → n ≡ fold max 0 (end_of pl e)
end_there pl e n h l = h ∙ one-max (extent_end pl e) ∙ sym (ap (λ b. fold max 0 (only_if b (extent_end pl e))) (lt-ltb 0 e.len l))

pub no_end : (pl : Places) (e : Extent) → e.len ≤ 0 → 0 ≡ fold max 0 (end_of pl e)
no_end pl e h = let none : e.len ≡ 0 = omega (arith, h) in sym (ap (λ n. fold max 0 (only_if (nat_lt 0 n) (extent_end pl e))) none)

pub one_end : (pl : Places) (e : Extent) (es : List Extent) (n : ℕ) → e ∷ [] ≡ es → n ≡ fold max 0 (end_of pl e) → n ≡ fold max 0 (flat_map (end_of pl) es)
one_end pl e es n h k = k ∙ sym (ap (fold max 0) (append-nil (end_of pl e))) ∙ ap (λ xs. fold max 0 (flat_map (end_of pl) xs)) h

pub none_end : (pl : Places) (es : List Extent) → [] ≡ es → 0 ≡ fold max 0 (flat_map (end_of pl) es)
none_end pl es h = ap (λ xs. fold max 0 (flat_map (end_of pl) xs)) h

pub fits_one : (e : Extent) (es : List Extent) → e ∷ [] ≡ es → All Fits es → Fits e
fits_one e es h all = All-head Fits e [] (subst (All Fits) (sym h) all)
