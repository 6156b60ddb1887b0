-- Pieces laid before others that cover all their places; and images of zeros.
use Rattle.std.proofs.Common.{◌≡◌, inl, inr, ℕ, zero, suc, ◌-◌, Bool, true, false, List, [], ◌∷◌, ◌++◌, length, map, Option, Some, None, refl, sym, ◌∙◌, ap, subst, arith, append_assoc}
use Rattle.std.specs.Prelude.{IsSome, Contains, slice_get, replicate, option_to_list, nat_le, ◌==◌, ◌&&◌, if◌then◌else◌}
use Rattle.std.specs.List.Sorted.{IsPermutation}
use Rattle.std.proofs.lemmas.List.{map-append}
use Rattle.std.proofs.lemmas.List.Sorted.{Contains-permutation, IsPermutation-sym, length_permutation}
use Rattle.std.specs.Option.{option_or}
use Rattle.omf_image.specs.declared.painting.Extent.{Extent}
use Rattle.omf_image.specs.Overlay.{Laid, byte_of, byte_at, IsLaidOver, AreLaidOver}
use Rattle.omf_image.specs.Inner.Joined.{runs_of}
use Rattle.omf_image.specs.Painting.{extent, zeros, all_zeros}
use Rattle.omf_image.specs.Laws.{CoveredPiecesAreLost, SamePlacesAreLost}
use Rattle.omf_image.proofs.RunLaws.{contains_first, contains_more, contains_here, contains_none, byte_some, some_byte, byte_at-append, joined_are_runs, runs_unique}
use Rattle.omf_image.proofs.SortedLaws.{byte_first, byte_append, or_left, or_right, or_either, option_or-assoc}
use Rattle.omf_image.proofs.TurnLaws.{bytes_in_turn, are_runs_as, images_are}

-- one of two, where it is there whenever the other is
or_lost : {A : Type 0} (o p : Option A) → (IsSome p → IsSome o) → option_or o p ≡ o
or_lost (Some x) p h = refl
or_lost None None h = refl
or_lost None (Some x) h = absurd (let q = h refl in cc)

lost_bytes : (ahead laid : List Laid) → ((segment x : ℕ) → IsSome (byte_at ahead segment x) → IsSome (byte_at laid segment x))
    → (segment x : ℕ) → byte_at (ahead ++ laid) segment x ≡ byte_at laid segment x
lost_bytes ahead laid h segment x = byte_append ahead laid segment x ∙ or_lost (byte_at laid segment x) (byte_at ahead segment x) (h segment x)

pub covered_are_lost : CoveredPiecesAreLost
covered_are_lost ahead laid h = (
  lost_bytes ahead laid h,
  λ segment. runs_unique (byte_at laid segment) (runs_of (ahead ++ laid) segment) (runs_of laid segment)
      (are_runs_as (byte_at (ahead ++ laid) segment) (byte_at laid segment) (lost_bytes ahead laid h segment) (runs_of (ahead ++ laid) segment) (joined_are_runs (ahead ++ laid) segment))
      (joined_are_runs laid segment),
)

-- ---- pieces over the same intervals

same_place : (segment x : ℕ) (l m : Laid) → extent l ≡ extent m → IsSome (byte_of segment x l) → IsSome (byte_of segment x m)
same_place segment x l m e h =
    let i = byte_some segment x l h in
    let s : l.segment ≡ m.segment = ap (λ (t : Extent). t.segment) e in
    let f : l.offset ≡ m.offset = ap (λ (t : Extent). t.first) e in
    let n : length l.bytes ≡ length m.bytes = ap (λ (t : Extent). t.len) e in
    some_byte segment x m (sym s ∙ i.0) (omega (arith, i.1, f), omega (arith, i.1, f, n))

pub same_places : (ls ms : List Laid) → map extent ls ≡ map extent ms → (segment x : ℕ) → IsSome (byte_at ls segment x) → IsSome (byte_at ms segment x)
same_places [] ms e segment x h = absurd cc
same_places (l ∷ ls) [] e segment x h = absurd cc
same_places (l ∷ ls) (m ∷ ms) e segment x h =
    let first : extent l ≡ extent m = cc in
    let others : map extent ls ≡ map extent ms = cc in
    subst IsSome (sym (byte_first m ms segment x))
    (elim (or_either (byte_at ls segment x) (byte_of segment x l) (subst IsSome (byte_first l ls segment x) h)) [
      | inl s ↦ or_left (byte_at ms segment x) (byte_of segment x m) (same_places ls ms others segment x s)
      | inr s ↦ or_right (byte_at ms segment x) (byte_of segment x m) (same_place segment x l m first s)
    ])

-- ---- an image with the bytes of some pieces is one made by laying them

laid_after : (done old ls image : List Laid) → ((segment x : ℕ) → byte_at old segment x ≡ byte_at done segment x)
    → ((segment x : ℕ) → byte_at image segment x ≡ byte_at (done ++ ls) segment x) → (ls ≡ [] → old ≡ image) → AreLaidOver old ls image
laid_after done old [] image same all none = none refl
laid_after done old (l ∷ []) image same all none =
    (image, λ s x. all s x ∙ byte_at-append done l s x ∙ ap (λ o. option_or (byte_of s x l) o) (sym (same s x)), refl)
laid_after done old (l ∷ m ∷ ls) image same all none = (
  done ++ l ∷ [],
  λ s x. byte_at-append done l s x ∙ ap (λ o. option_or (byte_of s x l) o) (sym (same s x)),
  laid_after (done ++ l ∷ []) (done ++ l ∷ []) (m ∷ ls) image (λ s x. refl) (λ s x. all s x ∙ ap (λ z. byte_at z s x) (sym (append_assoc done (l ∷ []) (m ∷ ls)))) (λ e. absurd cc),
)

pub laid_by_bytes : (ls image : List Laid) → ((segment x : ℕ) → byte_at image segment x ≡ byte_at ls segment x) → (ls ≡ [] → image ≡ []) → AreLaidOver [] ls image
laid_by_bytes ls image all none = laid_after [] [] ls image (λ s x. refl) all (λ e. sym (none e))

no_more : (ahead laid image : List Laid) → map extent ahead ≡ map extent laid → AreLaidOver [] (ahead ++ laid) image → laid ≡ [] → image ≡ []
no_more [] [] image e h none = sym h
no_more [] (l ∷ laid) image e h none = absurd cc
no_more (a ∷ ahead) [] image e h none = absurd cc
no_more (a ∷ ahead) (l ∷ laid) image e h none = absurd cc

pub same_are_lost : SamePlacesAreLost
same_are_lost ahead laid image e h =
    laid_by_bytes laid image
    (λ s x. (images_are (ahead ++ laid) image h).0 s x ∙ lost_bytes ahead laid (same_places ahead laid e) s x) (no_more ahead laid image e h)

-- ---- one piece more

pub laid_more : (old mid new ls : List Laid) (l : Laid) → AreLaidOver old ls mid → IsLaidOver mid l new → AreLaidOver old (ls ++ l ∷ []) new
laid_more old mid new [] l h k = (new, subst (λ z. IsLaidOver z l new) (sym h) k, refl)
laid_more old mid new (m ∷ ls) l (next, one, h) k = (next, one, laid_more next mid new ls l h k)

-- after other pieces
laid_behind : (front ls ms : List Laid) (l : Laid) → IsLaidOver ls l ms → IsLaidOver (front ++ ls) l (front ++ ms)
laid_behind front ls ms l h segment x =
    byte_append front ms segment x ∙ ap (λ o. option_or o (byte_at front segment x)) (h segment x)
    ∙ option_or-assoc (byte_of segment x l) (byte_at ls segment x) (byte_at front segment x)
    ∙ ap (λ o. option_or (byte_of segment x l) o) (sym (byte_append front ls segment x))

-- over an image with the same bytes
laid_as : (old same : List Laid) (l : Laid) → ((segment x : ℕ) → byte_at same segment x ≡ byte_at old segment x) → IsLaidOver old l (same ++ l ∷ [])
laid_as old same l e segment x = byte_at-append same l segment x ∙ ap (λ o. option_or (byte_of segment x l) o) (e segment x)

zeros_more : (es : List Extent) (e : Extent) → all_zeros (es ++ e ∷ []) ≡ all_zeros es ++ zeros e ∷ []
zeros_more es e = map-append zeros es (e ∷ [])

pub painted_joined : (done : List Extent) (image : List Laid) (last : Option Extent) (next both : Extent) → AreLaidOver [] (all_zeros done) (image ++ all_zeros (option_to_list last))
    → IsLaidOver (all_zeros (option_to_list last)) (zeros next) (zeros both ∷ []) → AreLaidOver [] (all_zeros (done ++ next ∷ [])) (image ++ zeros both ∷ [])
painted_joined done image last next both h k =
    subst (λ ls. AreLaidOver [] ls (image ++ zeros both ∷ [])) (sym (zeros_more done next))
    (laid_more [] (image ++ all_zeros (option_to_list last)) (image ++ zeros both ∷ []) (all_zeros done) (zeros next) h
    (laid_behind image (all_zeros (option_to_list last)) (zeros both ∷ []) (zeros next) k))

pub painted_apart : (done : List Extent) (image new : List Laid) (last : Option Extent) (next : Extent) → AreLaidOver [] (all_zeros done) (image ++ all_zeros (option_to_list last))
    → AreLaidOver image (all_zeros (option_to_list last)) new → AreLaidOver [] (all_zeros (done ++ next ∷ [])) (new ++ zeros next ∷ [])
painted_apart done image new last next h k =
    subst (λ ls. AreLaidOver [] ls (new ++ zeros next ∷ [])) (sym (zeros_more done next))
    (laid_more [] (image ++ all_zeros (option_to_list last)) (new ++ zeros next ∷ []) (all_zeros done) (zeros next) h
    (laid_as (image ++ all_zeros (option_to_list last)) new (zeros next) (bytes_in_turn image image (all_zeros (option_to_list last)) new (λ s x. refl) k)))

-- ---- zeros in another order

abbrev zero_byte : ℕ
zero_byte = 0

zero_in : (n k : ℕ) → IsSome (slice_get (replicate n zero_byte) k) → slice_get (replicate n zero_byte) k ≡ Some zero_byte
zero_in zero k h = absurd cc
zero_in (suc n) zero h = refl
zero_in (suc n) (suc k) h = zero_in n k h

zero_of : (e : Extent) (segment x : ℕ) → IsSome (byte_of segment x (zeros e)) → byte_of segment x (zeros e) ≡ Some zero_byte
zero_of e segment x = by ((e.segment == segment) && nat_le e.first x)
  where
    by : (b : Bool) → IsSome (if b then slice_get (replicate e.len zero_byte) (x - e.first) else None) → (if b then slice_get (replicate e.len zero_byte) (x - e.first) else None) ≡ Some zero_byte
    by true h = zero_in e.len (x - e.first) h
    by false h = absurd cc

zero_or : (o p : Option ℕ) → (IsSome o → o ≡ Some zero_byte) → (IsSome p → p ≡ Some zero_byte) → IsSome (option_or o p) → option_or o p ≡ Some zero_byte
zero_or None p f g h = g h
zero_or (Some n) p f g h = f refl

zero_at : (es : List Extent) (segment x : ℕ) → IsSome (byte_at (all_zeros es) segment x) → byte_at (all_zeros es) segment x ≡ Some zero_byte
zero_at [] segment x h = absurd cc
zero_at (e ∷ es) segment x h =
    byte_first (zeros e) (all_zeros es) segment x
    ∙ zero_or (byte_at (all_zeros es) segment x) (byte_of segment x (zeros e)) (zero_at es segment x) (zero_of e segment x) (subst IsSome (byte_first (zeros e) (all_zeros es) segment x) h)

abbrev Covering : List Extent → ℕ → ℕ → Type 0
Covering es segment x = (e : Extent) × Contains es e × IsSome (byte_of segment x (zeros e))

covering : (es : List Extent) (segment x : ℕ) → IsSome (byte_at (all_zeros es) segment x) → Covering es segment x
covering [] segment x h = absurd cc
covering (e ∷ es) segment x h =
    elim (or_either (byte_at (all_zeros es) segment x) (byte_of segment x (zeros e)) (subst IsSome (byte_first (zeros e) (all_zeros es) segment x) h)) [
      | inl s ↦ let c = covering es segment x s in (c.0, contains_more c.0 e es c.1, c.2)
      | inr s ↦ (e, contains_here e es, s)
    ]

covered_by : (es : List Extent) (segment x : ℕ) (e : Extent) → Contains es e → IsSome (byte_of segment x (zeros e)) → IsSome (byte_at (all_zeros es) segment x)
covered_by [] segment x e c s = absurd (contains_none e c)
covered_by (f ∷ es) segment x e c s =
    subst IsSome (sym (byte_first (zeros f) (all_zeros es) segment x))
    (elim (contains_first e f es c) [
      | inl q ↦ or_right (byte_at (all_zeros es) segment x) (byte_of segment x (zeros f)) (subst (λ g. IsSome (byte_of segment x (zeros g))) q s)
      | inr d ↦ or_left (byte_at (all_zeros es) segment x) (byte_of segment x (zeros f)) (covered_by es segment x e d s)
    ])

moved : (es fs : List Extent) → IsPermutation es fs → (segment x : ℕ) → IsSome (byte_at (all_zeros es) segment x) → IsSome (byte_at (all_zeros fs) segment x)
moved es fs p segment x h = let c = covering es segment x h in covered_by fs segment x c.0 (Contains-permutation es fs c.0 p c.1) c.2

both_zero : (o p : Option ℕ) → (IsSome o → o ≡ Some zero_byte) → (IsSome p → p ≡ Some zero_byte) → (IsSome o → IsSome p) → (IsSome p → IsSome o) → o ≡ p
both_zero None None f g h k = refl
both_zero None (Some n) f g h k = absurd (let q = k refl in cc)
both_zero (Some m) None f g h k = absurd (let q = h refl in cc)
both_zero (Some m) (Some n) f g h k = f refl ∙ sym (g refl)

zeros_moved : (es fs : List Extent) → IsPermutation es fs → (segment x : ℕ) → byte_at (all_zeros es) segment x ≡ byte_at (all_zeros fs) segment x
zeros_moved es fs p segment x =
    both_zero (byte_at (all_zeros es) segment x) (byte_at (all_zeros fs) segment x) (zero_at es segment x) (zero_at fs segment x)
    (moved es fs p segment x) (moved fs es (IsPermutation-sym es fs p) segment x)

-- ---- the whole image

none_left : (es fs : List Extent) → IsPermutation es fs → all_zeros es ≡ [] → fs ≡ []
none_left [] [] p e = refl
none_left [] (f ∷ fs) p e = absurd (let n = length_permutation [] (f ∷ fs) p in omega (arith, n))
none_left (e ∷ es) fs p q = absurd cc

none_painted : (fs : List Extent) (image new : List Laid) (last : Option Extent) → AreLaidOver [] (all_zeros fs) (image ++ all_zeros (option_to_list last))
    → AreLaidOver image (all_zeros (option_to_list last)) new → fs ≡ [] → new ≡ []
none_painted [] [] new None h k e = sym k
none_painted [] [] new (Some l) h k e = absurd cc
none_painted [] (i ∷ image) new last h k e = absurd cc
none_painted (f ∷ fs) image new last h k e = absurd cc

pub all_painted : (es fs : List Extent) (image new : List Laid) (last : Option Extent) → IsPermutation es fs → AreLaidOver [] (all_zeros fs) (image ++ all_zeros (option_to_list last))
    → AreLaidOver image (all_zeros (option_to_list last)) new → AreLaidOver [] (all_zeros es) new
all_painted es fs image new last p h k =
    laid_by_bytes (all_zeros es) new
    (λ s x. bytes_in_turn image image (all_zeros (option_to_list last)) new (λ t y. refl) k s x
    ∙ (images_are (all_zeros fs) (image ++ all_zeros (option_to_list last)) h).0 s x ∙ sym (zeros_moved es fs p s x))
    (λ e. none_painted fs image new last h k (none_left es fs p e))
