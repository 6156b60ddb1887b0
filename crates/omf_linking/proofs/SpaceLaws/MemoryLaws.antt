-- What is laid in memory, and which two segments overlap.
use Rattle.std.proofs.Common.{◌≡◌, ℕ, ◌+◌, ◌-◌, ◌<◌, ◌≤◌, List, [], ◌∷◌, ◌++◌, length, take, drop, get_or, add-one, map, refl, sym, ap, subst, ◌∙◌, Bool, true, false, ◌&&◌, arith, nat_le, Option, Some, None, if◌then◌else◌}
use Rattle.std.specs.Prelude.{◌==◌, All, Ok, filter_map, option_map, slice_get, is_some, replicate}
use Rattle.std.specs.Option.{option_or}
use Rattle.std.specs.List.{last_or, cons_option}
use Rattle.std.proofs.lemmas.Bool.{eqb-true}
use Rattle.std.proofs.lemmas.List.Elements.{All-head, All-tail, All-nil, All-cons}
use Rattle.std.proofs.lemmas.List.{length-replicate, map-append, take_all}
use Rattle.std.proofs.lemmas.Grind.{take_at_read}
use Rattle.std.proofs.Math.Seq.{drop-cons}
use Rattle.omf_frame.specs.Bytes.{last}
use Rattle.omf_image.specs.Overlay.{Laid, byte_of, byte_at, IsLaidOver, AreLaidOver}
use Rattle.omf_image.specs.Painting.{extent, zeros, all_zeros, Fits}
use Rattle.omf_image.specs.declared.painting.Extent.{Extent}
use Rattle.omf_image.proofs.PaintLaws.{same_are_lost}
use Rattle.omf_image.proofs.TurnLaws.{images_are}
use Rattle.omf_linking.specs.declared.space.stretch.Owner.{Owner}
use Rattle.omf_linking.specs.declared.space.stretch.Stretch.{Stretch}
use Rattle.omf_linking.specs.Space.Memory.{piece, pieces, Lies, Share, share_of, shares, memory_byte, HasNoOther, IsMemory, IsFirstOverlap}
use Rattle.omf_linking.specs.Inner.Laying.{laid_piece, laid_pieces, extent_in, extents_in, overlap_with, excluded}

-- ---- what one stretch has at an address

abbrev share : Stretch → ℕ → Share
share s b = record { owner = s.owner; common = s.common; byte = b }

share_there : (s : Stretch) (o : Option Share) (a : ℕ) → share_of a (piece s) ≡ o → is_some o ≡ true → (b : ℕ) × (share_of a (piece s) ≡ Some (share s b))
share_there s o a e h = by (nat_le s.address a) refl (slice_get s.bytes.now (a - s.address)) refl
  where
    by : (t : Bool) → nat_le s.address a ≡ t → (x : Option ℕ) → slice_get s.bytes.now (a - s.address) ≡ x → (b : ℕ) × (share_of a (piece s) ≡ Some (share s b))
    by true f (Some b) g = (b, rw (f, g) refl)
    by true f None g = let none : share_of a (piece s) ≡ None = rw (f, g) refl in let gone : is_some o ≡ false = ap is_some (sym e ∙ none) in absurd cc
    by false f x g = let none : share_of a (piece s) ≡ None = rw f refl in let gone : is_some o ≡ false = ap is_some (sym e ∙ none) in absurd cc

share_gone : (o : Option Share) → is_some o ≡ false → o ≡ None
share_gone None h = refl
share_gone (Some s) h = absurd cc

-- ---- the first two that overlap at an address, one stretch after another

pub skip : (a : ℕ) (s : Stretch) (rest : List Stretch) (first : Option (Owner × Bool)) → is_some (share_of a (piece s)) ≡ false
    → overlap_with first (shares (pieces rest) a) ≡ overlap_with first (shares (pieces (s ∷ rest)) a)
skip a s rest first h =
    let same : shares (pieces (s ∷ rest)) a ≡ shares (pieces rest) a = rw (share_gone (share_of a (piece s)) h) refl in
    ap (overlap_with first) (sym same)

pub one_known : (s : Share) (ss : List Share) (first : Option (Owner × Bool)) → excluded first s.owner s.common ≡ None → overlap_with (option_or first (Some (s.owner, s.common))) ss ≡ overlap_with first (s ∷ ss)
one_known s ss None h = refl
one_known s ss (Some o) h = by (o.1 && s.common) refl h
  where
    by : (t : Bool) → o.1 && s.common ≡ t → if◌then◌else◌ {A = Option (Owner × Owner)} t None (Some (o.0, s.owner)) ≡ None
        → overlap_with (Some o) ss ≡ overlap_with (Some o) (s ∷ ss)
    by true e h = rw e refl
    by false e h = absurd cc

module _ (a : ℕ) (s : Stretch) (rest : List Stretch) (first : Option (Owner × Bool)) (h : is_some (share_of a (piece s)) ≡ true) where
  there : (b : ℕ) × (shares (pieces (s ∷ rest)) a ≡ share s b ∷ shares (pieces rest) a)
  there = let x = share_there s (share_of a (piece s)) a refl h in (x.0, ap (λ (o : Option Share). cons_option o (shares (pieces rest) a)) x.1)

  pub known : excluded first s.owner s.common ≡ None → overlap_with (option_or first (Some (s.owner, s.common))) (shares (pieces rest) a) ≡ overlap_with first (shares (pieces (s ∷ rest)) a)
  known n = one_known (share s there.0) (shares (pieces rest) a) first n ∙ ap (overlap_with first) (sym there.1)

module _ (a i : ℕ) (ss : List Stretch) (d : Stretch) (inside : i < length ss) where
  next : drop i ss ≡ get_or ss i d ∷ drop (i + 1) ss
  next = rw (add-one, drop-cons ss i d inside) refl

  pub known_next : (first now : Option (Owner × Bool)) (whole : Option (Owner × Owner)) (has : Bool) → has ≡ is_some (share_of a (piece (get_or ss i d))) → has ≡ true
      → excluded first (get_or ss i d).owner (get_or ss i d).common ≡ None → now ≡ option_or first (Some ((get_or ss i d).owner, (get_or ss i d).common))
      → overlap_with first (shares (pieces (drop i ss)) a) ≡ whole → overlap_with now (shares (pieces (drop (i + 1) ss)) a) ≡ whole
  known_next first now whole has e found none n h =
      ap (λ (o : Option (Owner × Bool)). overlap_with o (shares (pieces (drop (i + 1) ss)) a)) n
      ∙ known a (get_or ss i d) (drop (i + 1) ss) first (sym e ∙ found) none
      ∙ ap (λ (xs : List Stretch). overlap_with first (shares (pieces xs) a)) (sym next) ∙ h

-- ---- stretches laid over zeros

pub extents_fit : (ss : List Stretch) → All Lies ss → All Fits (extents_in ss)
extents_fit [] h = All-nil Fits
extents_fit (s ∷ ss) h = let lies : Lies s = All-head Lies s ss h in All-cons Fits (extent_in s) (extents_in ss) lies.1 (extents_fit ss (All-tail Lies s ss h))

laid_more : (base old new : List Laid) (ls : List Laid) (l : Laid) → AreLaidOver base ls old → IsLaidOver old l new → AreLaidOver base (ls ++ l ∷ []) new
laid_more base old new [] l h k = (new, subst (λ (x : List Laid). IsLaidOver x l new) (sym h) k, refl)
laid_more base old new (m ∷ ls) l h k = (h.0, h.1, laid_more h.0 old new ls l h.2 k)

same_extents : (ss : List Stretch) → map extent (all_zeros (extents_in ss)) ≡ map extent (laid_pieces ss)
same_extents [] = refl
same_extents (s ∷ ss) =
    let long : length {A = ℕ} (replicate (length s.bytes.now) 0) ≡ length s.bytes.now = length-replicate (length s.bytes.now) 0 in
    let first : extent (zeros (extent_in s)) ≡ extent_in s = rw long refl in
    ap (λ (e : Extent). e ∷ map extent (all_zeros (extents_in ss))) first ∙ ap (λ (es : List Extent). extent_in s ∷ es) (same_extents ss)

pub zeros_lost : (ss : List Stretch) (image : List Laid) → AreLaidOver [] (all_zeros (extents_in ss) ++ laid_pieces ss) image → AreLaidOver [] (laid_pieces ss) image
zeros_lost ss image h = same_are_lost (all_zeros (extents_in ss)) (laid_pieces ss) image (same_extents ss) h

module _ (i : ℕ) (ss : List Stretch) where
  pub laid_next : (d : Stretch) (base old new : List Laid) (bytes : List ℕ) → i < length ss → bytes ≡ (get_or ss i d).bytes.now
      → IsLaidOver old (record { segment = 0; offset = (get_or ss i d).address; bytes = bytes }) new
      → AreLaidOver base (laid_pieces (take i ss)) old → AreLaidOver base (laid_pieces (take (i + 1) ss)) new
  laid_next d base old new bytes inside same h k =
      let s = get_or ss i d in
      let more : take (i + 1) ss ≡ take i ss ++ s ∷ [] = (take_at_read ss i d inside).1 in
      let all : laid_pieces (take i ss) ++ laid_piece s ∷ [] ≡ laid_pieces (take (i + 1) ss) = sym (map-append laid_piece (take i ss) (s ∷ [])) ∙ ap laid_pieces (sym more) in
      let piece : IsLaidOver old (laid_piece s) new = subst (λ (bs : List ℕ). IsLaidOver old (record { segment = 0; offset = s.address; bytes = bs }) new) same h in
      subst (λ (ls : List Laid). AreLaidOver base ls new) all (laid_more base old new (laid_pieces (take i ss)) (laid_piece s) k piece)

  pub all_laid : (base image : List Laid) → length ss ≤ i → AreLaidOver base (laid_pieces (take i ss)) image → AreLaidOver base (laid_pieces ss) image
  all_laid base image past h = subst (λ (xs : List Stretch). AreLaidOver base (laid_pieces xs) image) (take_all i ss past) h

-- ---- the bytes of what was laid

abbrev byte_in : Share → ℕ
byte_in s = s.byte

one_byte : (a : ℕ) (s : Stretch) → byte_of 0 a (laid_piece s) ≡ option_map byte_in (share_of a (piece s))
one_byte a s = by (nat_le s.address a) refl (slice_get s.bytes.now (a - s.address)) refl
  where
    by : (t : Bool) → nat_le s.address a ≡ t → (x : Option ℕ) → slice_get s.bytes.now (a - s.address) ≡ x → byte_of 0 a (laid_piece s) ≡ option_map byte_in (share_of a (piece s))
    by true f (Some b) g = rw (f, g) refl
    by true f None g = rw (f, g) refl
    by false f x g = rw f refl

mapped_more : {X A B : Type 0} (f : A → B) (g : X → Option A) (k : X → Option B) (x : X) (xs : List X) (o : Option A) → g x ≡ o → k x ≡ option_map f o → filter_map k xs ≡ map f (filter_map g xs) → filter_map k (x ∷ xs) ≡ map f (filter_map g (x ∷ xs))
mapped_more f g k x xs None e h rest = rw (e, h) rest
mapped_more f g k x xs (Some a) e h rest = rw (e, h) (ap (λ ys. f a ∷ ys) rest)

all_bytes : (a : ℕ) (ss : List Stretch) → filter_map (byte_of 0 a) (laid_pieces ss) ≡ map byte_in (shares (pieces ss) a)
all_bytes a [] = refl
all_bytes a (s ∷ ss) = by (share_of a (piece s)) refl (one_byte a s) (all_bytes a ss)
  where
    by : (o : Option Share) → share_of a (piece s) ≡ o → byte_of 0 a (laid_piece s) ≡ option_map byte_in (share_of a (piece s)) → filter_map (byte_of 0 a) (laid_pieces ss) ≡ map byte_in (shares (pieces ss) a)
        → filter_map (byte_of 0 a) (laid_pieces (s ∷ ss)) ≡ map byte_in (shares (pieces (s ∷ ss)) a)
    by None e h rest = let none : byte_of 0 a (laid_piece s) ≡ None = h ∙ ap (option_map byte_in) e in rw (e, none) rest
    by (Some x) e h rest = let one : byte_of 0 a (laid_piece s) ≡ Some x.byte = h ∙ ap (option_map byte_in) e in rw (e, one) (ap (λ (bs : List ℕ). x.byte ∷ bs) rest)

last_mapped : (o : Option Share) (ss : List Share) → last_or (option_map byte_in o) (map byte_in ss) ≡ option_map byte_in (last_or o ss)
last_mapped o [] = refl
last_mapped o (s ∷ ss) = last_mapped (Some s) ss

byte_there : (ss : List Stretch) (image : List Laid) → AreLaidOver [] (laid_pieces ss) image → (a : ℕ) → byte_at image 0 a ≡ memory_byte (shares (pieces ss) a)
byte_there ss image h a = (images_are (laid_pieces ss) image h).0 0 a ∙ ap last (all_bytes a ss) ∙ last_mapped None (shares (pieces ss) a)

-- all of them were laid in segment 0
none_in : (segment a : ℕ) → 0 < segment → (ss : List Stretch) → filter_map (byte_of segment a) (laid_pieces ss) ≡ []
none_in segment a low [] = refl
none_in segment a low (s ∷ ss) = by (0 == segment) refl (none_in segment a low ss)
  where
    by : (t : Bool) → (0 == segment) ≡ t → filter_map (byte_of segment a) (laid_pieces ss) ≡ [] → filter_map (byte_of segment a) (laid_pieces (s ∷ ss)) ≡ []
    by true e rest = let same : 0 ≡ segment = eqb-true 0 segment e in absurd (omega (arith, same, low))
    by false e rest = rw e rest

no_other : (ss : List Stretch) (image : List Laid) → AreLaidOver [] (laid_pieces ss) image → HasNoOther image
no_other ss image h segment a low = (images_are (laid_pieces ss) image h).0 segment a ∙ ap last (none_in segment a low ss)

pub is_memory : (ss : List Stretch) (o : Option ℕ) (image : List Laid) → o ≡ None → IsFirstOverlap (shares (pieces ss)) o → AreLaidOver [] (laid_pieces ss) image → IsMemory (shares (pieces ss)) (Ok image)
is_memory ss o image e first h = (subst (IsFirstOverlap (shares (pieces ss))) e first, byte_there ss image h, no_other ss image h)
