-- What fixups add stays inside their locations.
use Rattle.std.proofs.Common.{◌≡◌, ◌⊎◌, ℕ, ◌+◌, ◌-◌, ◌<◌, ◌≤◌, List, [], ◌∷◌, ◌++◌, refl, sym, ◌∙◌, ap, subst, inl, inr, ⊎_elim, Bool, true, false, cond, length, take, drop, arith, length-append, length-take, length-drop, get_or-take, get_or-drop, mod-lt}
use Rattle.std.specs.Prelude.{slice_index, All, Result, Ok, Err, Option, Some, None, ◌==◌, ◌/◌, nat_le, filter, fold}
use Rattle.std.specs.List.{list_all}
use Rattle.std.proofs.lemmas.Bool.{leb-true, and_parts, agree_below_at}
use Rattle.std.proofs.lemmas.List.{get_or-append_right}
use Rattle.std.proofs.lemmas.List.Elements.{All-nil, All-cons, All-head, All-tail}
use Rattle.std.proofs.Math.ListN.{get_or-append}
use Rattle.byteorder.specs.Numbers.{length-bytes_low_first}
use Rattle.omf_image.specs.Inner.Names.{sum_bytes}
use Rattle.omf_image.specs.Parts.{Addition, add_part, add_parts}
use Rattle.omf_records.specs.Inner.Names.{location_size}
use Rattle.omf_records.specs.Values.{DataItem, location_type, location_offset, is_segment_relative}
use Rattle.omf_reloc.specs.Inner.Names.{additions, AreElsewhere, location_start, map_ok, first_or, if_named}
use Rattle.omf_reloc.specs.declared.fault.Cause.{Cause}
use Rattle.omf_reloc.specs.declared.fault.Cause.TheVariants as cause
use Rattle.omf_reloc.specs.Additions.{self_relative_additions}
use Rattle.omf_reloc.specs.Image.{added}
use Rattle.omf_reloc.specs.Laws.{location_end, AreInside, StaysInside}
use Rattle.omf_reloc.specs.Offsets.{outcome, outcome_at, additions_in, named, from_location, is_near}
use Rattle.omf_check.specs.Tables.{entry}
use Rattle.omf_placement.specs.declared.frame.Frame.{Frame}
use Rattle.omf_placement.specs.declared.frame.Placed.{Placed}
use Rattle.omf_placement.specs.Placement.{Places}
use Rattle.omf_reloc.specs.Plain.{PlainFixup}

length-sum_bytes : (n : ℕ) (bytes : List ℕ) (v : ℕ) → length (sum_bytes n bytes v) ≡ n
length-sum_bytes n bytes v = length-bytes_low_first 0 n _

-- three pieces in a row
length-three : (a b c : List ℕ) → length (a ++ b ++ c) ≡ length a + length b + length c
length-three a b c = omega (arith, length-append (a ++ b) c, length-append a b)

-- A part inside the data keeps the length.
length-add_part : (bytes : List ℕ) (pos n v : ℕ) → pos + n ≤ length bytes → length (add_part bytes pos n v) ≡ length bytes
length-add_part bytes pos n v h = omega (
  arith,
  h,
  length-three (take pos bytes) (sum_bytes n (drop pos bytes) v) (drop (pos + n) bytes),
  length-take pos bytes,
  length-drop (pos + n) bytes,
  length-sum_bytes n (drop pos bytes) v,
)

-- It changes no byte elsewhere.
index-left : (a b : List ℕ) (x : ℕ) → x < length a → slice_index (a ++ b) x ≡ slice_index a x
index-left a b x h = get_or-append a b 0 x h

index-right : (a b : List ℕ) (n x : ℕ) → length a ≡ n → n ≤ x → slice_index (a ++ b) x ≡ slice_index b (x - n)
index-right a b n x e h = get_or-append_right a b n x 0 e h

index-add_part : (bytes : List ℕ) (pos n v x : ℕ) → pos + n ≤ length bytes → (x < pos) ⊎ (pos + n ≤ x)
    → slice_index (add_part bytes pos n v) x ≡ slice_index bytes x
index-add_part bytes pos n v x h (inl l) =
    let front = take pos bytes in
    let mid = sum_bytes n (drop pos bytes) v in
    let f : length front ≡ pos = omega (arith, length-take pos bytes, h) in
    index-left (front ++ mid) (drop (pos + n) bytes) x (omega (arith, f, l, length-append front mid))
    ∙ index-left front mid x (omega (arith, f, l))
    ∙ get_or-take pos bytes x 0 l
index-add_part bytes pos n v x h (inr l) =
    let front = take pos bytes in
    let mid = sum_bytes n (drop pos bytes) v in
    let f : length front ≡ pos = omega (arith, length-take pos bytes, h) in
    let m : length (front ++ mid) ≡ pos + n = omega (arith, f, length-append front mid, length-sum_bytes n (drop pos bytes) v) in
    index-right (front ++ mid) (drop (pos + n) bytes) (pos + n) x m l
    ∙ get_or-drop (pos + n) bytes (x - (pos + n)) 0
    ∙ ap (slice_index bytes) (omega (arith, l))

-- All the parts of a location stay inside its size.
abbrev pub fits : ℕ → List Addition → Bool
fits size parts = list_all (λ p. nat_le (p.offset + p.size) size) parts

length-add_parts : (size pos : ℕ) (parts : List Addition) (bytes : List ℕ) → fits size parts ≡ true → pos + size ≤ length bytes
    → length (add_parts pos parts bytes) ≡ length bytes
length-add_parts size pos [] bytes f h = refl
length-add_parts size pos (p ∷ ps) bytes f h =
    let inside = leb-true (p.offset + p.size) size (and_parts (nat_le (p.offset + p.size) size) (fits size ps) f).0 in
    let rest = (and_parts (nat_le (p.offset + p.size) size) (fits size ps) f).1 in
    let first = length-add_part bytes (pos + p.offset) p.size p.value (omega (arith, inside, h)) in
    length-add_parts size pos ps (add_part bytes (pos + p.offset) p.size p.value) rest (omega (arith, first, h)) ∙ first

index-add_parts : (size pos : ℕ) (parts : List Addition) (bytes : List ℕ) (x : ℕ) → fits size parts ≡ true → pos + size ≤ length bytes
    → (x < pos) ⊎ (pos + size ≤ x) → slice_index (add_parts pos parts bytes) x ≡ slice_index bytes x
index-add_parts size pos [] bytes x f h away = refl
index-add_parts size pos (p ∷ ps) bytes x f h away =
    let inside = leb-true (p.offset + p.size) size (and_parts (nat_le (p.offset + p.size) size) (fits size ps) f).0 in
    let rest = (and_parts (nat_le (p.offset + p.size) size) (fits size ps) f).1 in
    let first = length-add_part bytes (pos + p.offset) p.size p.value (omega (arith, inside, h)) in
    index-add_parts size pos ps (add_part bytes (pos + p.offset) p.size p.value) x rest (omega (arith, first, h)) away
    ∙ index-add_part bytes (pos + p.offset) p.size p.value x (omega (arith, inside, h)) (⊎_elim (λ l. inl (omega (arith, l))) (λ l. inr (omega (arith, l, inside))) away)

-- What a fixup adds stays inside the size of its location.
fits-additions : (t o s : ℕ) → t < 16 → fits (location_size t) (additions t o s) ≡ true
fits-additions t o s = agree_below_at (λ n. fits (location_size n) (additions n o s)) (λ _. true) 16 t refl

fits-self_relative : (t o l : ℕ) → t < 16 → fits (location_size t) (self_relative_additions t o l) ≡ true
fits-self_relative t o l = agree_below_at (λ n. fits (location_size n) (self_relative_additions n o l)) (λ _. true) 16 t refl

abbrev Fit : ℕ → Result (List Addition) Cause → Type 0
Fit t (Ok parts) = fits (location_size t) parts ≡ true
Fit t (Err c) = Unit {0}

fit-cond : (t : ℕ) (b : Bool) (x y : Result (List Addition) Cause) → Fit t x → Fit t y → Fit t (cond b x y)
fit-cond t true x y f g = f
fit-cond t false x y f g = g

fit-map_ok : (t s : ℕ) (r : Result ℕ Cause) → t < 16 → Fit t (map_ok (λ o. additions t o s) r)
fit-map_ok t s (Ok o) h = fits-additions t o s h
fit-map_ok t s (Err c) h = tt

fit-near : (t l : ℕ) (r : Result ℕ Cause) → t < 16 → Fit t (map_ok (λ near. self_relative_additions t near l) r)
fit-near t l (Ok o) h = fits-self_relative t o l h
fit-near t l (Err c) h = tt

fit-from_location : (t : ℕ) (os : List ℕ) (l : Option ℕ) → t < 16 → Fit t (from_location t os l)
fit-from_location t [] l h = tt
fit-from_location t (o ∷ os) None h = tt
fit-from_location t (o ∷ os) (Some l) h = fit-near t l (first_or cause.Distance (filter (is_near t l) (o ∷ os))) h

fit-additions_in : (here : Option Placed) (offset : ℕ) (f : ℕ × PlainFixup) (frame : Frame) (address : ℕ) → Fit (location_type f.1.locat) (additions_in here offset f frame address)
fit-additions_in here offset f frame address =
    let t = location_type f.1.locat in
    let h : t < 16 = mod-lt (f.1.locat / 1024) (omega arith) in
    fit-cond t (is_segment_relative f.1.locat) _ _ (fit-cond t (t == 2) _ _ (fits-additions t 0 _ h) (fit-map_ok t _ _ h)) (fit-from_location t _ _ h)

fit-named : (here : Option Placed) (offset : ℕ) (f : ℕ × PlainFixup) (o : Option (Frame × Placed)) → Fit (location_type f.1.locat) (if_named (additions_in here offset f) o)
fit-named here offset f None = tt
fit-named here offset f (Some x) = fit-additions_in here offset f x.0 x.1.address

fit-outcome_at : (pl : Places) (segment offset : ℕ) (f : ℕ × PlainFixup) → Fit (location_type f.1.locat) (outcome_at pl segment offset f)
fit-outcome_at pl segment offset f = fit-named (entry pl.segments segment) offset f (named pl segment f.1.reference)

fit-outcome : (pl : Places) (d : DataItem) (f : ℕ × PlainFixup) → Fit (location_type f.1.locat) (outcome pl d f)
fit-outcome pl d f = fit-outcome_at pl d.segment.item d.offset.item f

-- Each part that a fixup adds to is inside the data if its location is.
abbrev Inside : ℕ → ℕ → Addition → Type 0
Inside pos size a = pos + a.offset + a.size ≤ size

all-inside : (t pos size : ℕ) (parts : List Addition) → fits t parts ≡ true → pos + t ≤ size → All (Inside pos size) parts
all-inside t pos size [] f h = All-nil (Inside pos size)
all-inside t pos size (p ∷ ps) f h =
    let inside = leb-true (p.offset + p.size) t (and_parts (nat_le (p.offset + p.size) t) (fits t ps) f).0 in
    let rest = (and_parts (nat_le (p.offset + p.size) t) (fits t ps) f).1 in
    All-cons (Inside pos size) p ps (omega (arith, inside, h)) (all-inside t pos size ps rest h)

pub parts_inside : (pl : Places) (segment offset : ℕ) (f : ℕ × PlainFixup) (parts : List Addition) (size : ℕ) → outcome_at pl segment offset f ≡ Ok parts
    → location_end f ≤ size → All (λ a. location_start f + a.offset + a.size ≤ size) parts
parts_inside pl segment offset f parts size e h =
    let t = location_type f.1.locat in
    all-inside (location_size t) (location_start f) size parts (subst (Fit t) e (fit-outcome_at pl segment offset f)) h

length-added : (t pos : ℕ) (r : Result (List Addition) Cause) (bytes : List ℕ) → Fit t r → pos + location_size t ≤ length bytes → length (added pos r bytes) ≡ length bytes
length-added t pos (Ok parts) bytes f h = length-add_parts (location_size t) pos parts bytes f h
length-added t pos (Err c) bytes f h = refl

index-added : (t pos : ℕ) (r : Result (List Addition) Cause) (bytes : List ℕ) (x : ℕ) → Fit t r → pos + location_size t ≤ length bytes
    → (x < pos) ⊎ (pos + location_size t ≤ x) → slice_index (added pos r bytes) x ≡ slice_index bytes x
index-added t pos (Ok parts) bytes x f h away = index-add_parts (location_size t) pos parts bytes x f h away
index-added t pos (Err c) bytes x f h away = refl

abbrev patched_from : Places → DataItem → List ℕ → List (ℕ × PlainFixup) → List ℕ
patched_from pl d bytes fixups = fold (λ bs f. added (location_offset f.1.locat) (outcome pl d f) bs) bytes fixups

length-patched : (pl : Places) (d : DataItem) (fixups : List (ℕ × PlainFixup)) (bytes : List ℕ) (size : ℕ) → length bytes ≡ size → AreInside size fixups
    → length (patched_from pl d bytes fixups) ≡ size
length-patched pl d [] bytes size e inside = e
length-patched pl d (f ∷ fs) bytes size e inside =
    let here : location_end f ≤ size = All-head (λ g. location_end g ≤ size) f fs inside in
    let first = length-added (location_type f.1.locat) (location_offset f.1.locat) (outcome pl d f) bytes (fit-outcome pl d f) (omega (arith, e, here)) in
    length-patched pl d fs (added (location_offset f.1.locat) (outcome pl d f) bytes) size (first ∙ e) (All-tail (λ g. location_end g ≤ size) f fs inside)

index-patched : (pl : Places) (d : DataItem) (fixups : List (ℕ × PlainFixup)) (bytes : List ℕ) (size x : ℕ) → length bytes ≡ size → AreInside size fixups → AreElsewhere x fixups
    → slice_index (patched_from pl d bytes fixups) x ≡ slice_index bytes x
index-patched pl d [] bytes size x e inside away = refl
index-patched pl d (f ∷ fs) bytes size x e inside away =
    let here : location_end f ≤ size = All-head (λ g. location_end g ≤ size) f fs inside in
    let there : (x < location_start f) ⊎ (location_end f ≤ x) = All-head (λ g. (x < location_start g) ⊎ (location_end g ≤ x)) f fs away in
    let fit = fit-outcome pl d f in
    let first = length-added (location_type f.1.locat) (location_offset f.1.locat) (outcome pl d f) bytes fit (omega (arith, e, here)) in
    index-patched pl d fs (added (location_offset f.1.locat) (outcome pl d f) bytes) size x (first ∙ e) (All-tail (λ g. location_end g ≤ size) f fs inside)
    (All-tail (λ g. (x < location_start g) ⊎ (location_end g ≤ x)) f fs away)
    ∙ index-added (location_type f.1.locat) (location_offset f.1.locat) (outcome pl d f) bytes x fit (omega (arith, e, here)) there

pub stays_inside : (pl : Places) (d : DataItem) (fixups : List (ℕ × PlainFixup)) → AreInside (length d.bytes) fixups → StaysInside pl d fixups
stays_inside pl d fixups inside = record {
  size = length-patched pl d fixups d.bytes (length d.bytes) refl inside;
  elsewhere = λ x away. index-patched pl d fixups d.bytes (length d.bytes) x refl inside away;
}

-- So there is room for each part, at a location's place in the data.
pub room-for : (pl : Places) (segment offset size : ℕ) (f : ℕ × PlainFixup) (parts : List Addition) (start n : ℕ) → Ok parts ≡ outcome_at pl segment offset f → location_end f ≤ size
    → start ≡ location_start f → n ≡ size → All (λ a. start + a.offset + a.size ≤ n) parts
room-for pl segment offset size f parts start n e h s t =
    subst (λ k. All (Inside start k) parts) (sym t) (subst (λ k. All (Inside k size) parts) (sym s) (parts_inside pl segment offset f parts size (sym e) h))
