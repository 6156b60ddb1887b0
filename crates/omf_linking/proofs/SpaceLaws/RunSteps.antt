-- The runs of a segment, one after another, as stretches.
use Rattle.std.proofs.Common.{◌≡◌, ◌⊎◌, inl, inr, ℕ, suc, ◌+◌, ◌-◌, ◌^◌, ◌<◌, ◌≤◌, true, false, List, [], ◌∷◌, ◌++◌, length, map, Option, Some, None, nat_le, nat_lt, refl, sym, ap, subst, ◌∙◌, ap₂, arith, append_assoc, append-nil, if◌then◌else◌}
use Rattle.std.specs.Prelude.{Err, IsSome, IsNone, filter_map, option_map, slice_get}
use Rattle.std.specs.List.{cons_option}
use Rattle.std.proofs.lemmas.Bool.Decides.{leb_tells}
use Rattle.std.proofs.lemmas.List.{map-append}
use Rattle.std.proofs.lemmas.List.Elements.{filter_map-append}
use Rattle.omf_image.specs.declared.run.Run.{Run}
use Rattle.omf_image.specs.Overlay.{AreBytesOver}
use Rattle.omf_image.proofs.RunLaws.{some_or_none, some_within, within_some}
use Rattle.omf_linking.specs.declared.space.stretch.Stretch.{Stretch}
use Rattle.omf_linking.specs.Space.Memory.{Piece, piece, pieces, Lies, Share, share_of, shares}
use Rattle.omf_linking.specs.declared.space.fault.MemoryFault.{MemoryFault}
use Rattle.omf_linking.specs.declared.space.fault.MemoryFault.TheVariants as fault
use Rattle.omf_linking.specs.Inner.Runs.{IsStretchAt, IsAdded, run_piece, HasMore}
use Rattle.omf_linking.specs.Space.Segments.{SegmentAt, share_in, IsWithin, IsBeyond}
use Rattle.omf_linking.proofs.SpaceLaws.CoverLaws.{AreAll}

-- ---- what a segment and a piece have at an address

not_le : (a b : ℕ) → b < a → nat_le a b ≡ false
not_le a b h = elim (leb_tells a b) [ inl t ↦ absurd (omega (arith, t.1, h)) | inr t ↦ t.0 ]

is_le : (a b : ℕ) → a ≤ b → nat_le a b ≡ true
is_le a b h = elim (leb_tells a b) [ inl t ↦ t.0 | inr t ↦ absurd (omega (arith, t.1, h)) ]

pub none_is : {A : Type 0} (o : Option A) → IsNone o → o ≡ None
none_is None h = refl
none_is (Some x) h = absurd cc

pub none_some : {A : Type 0} (o : Option A) → o ≡ None → IsSome o → ⊥
none_some None e h = cc
none_some (Some x) e h = cc

no_element : (bs : List ℕ) (i : ℕ) → length bs ≤ i → slice_get bs i ≡ None
no_element bs i h = none_is (slice_get bs i) (some_or_none (slice_get bs i) (λ e. let low = some_within bs i e in omega (arith, low, h)))

abbrev pub share : SegmentAt → ℕ → Share
share s b = record { owner = s.owner; common = s.common; byte = b }

pub in_from : (a : ℕ) (s : SegmentAt) → s.address ≤ a → share_in a s ≡ option_map (share s) (s.byte (a - s.address))
in_from a s h = rw (is_le s.address a h) refl

pub in_below : (a : ℕ) (s : SegmentAt) → a < s.address → share_in a s ≡ None
in_below a s h = rw (not_le s.address a h) refl

module _ (a : ℕ) (s : SegmentAt) (first : ℕ) (bytes : List ℕ) where
  of_from : s.address + first ≤ a → share_of a (run_piece s first bytes) ≡ option_map (share s) (slice_get bytes (a - (s.address + first)))
  of_from h = rw (is_le (s.address + first) a h) refl

  of_below : a < s.address + first → share_of a (run_piece s first bytes) ≡ None
  of_below h = rw (not_le (s.address + first) a h) refl

-- ---- a segment with its bytes before an offset only

abbrev pub front : ℕ → SegmentAt → SegmentAt
front e s = record { owner = s.owner; common = s.common; address = s.address; byte = λ x. if nat_lt x e then s.byte x else None }

front_in : (e x : ℕ) (s : SegmentAt) → x < e → (front e s).byte x ≡ s.byte x
front_in e x s h = rw (is_le (suc x) e h) refl

front_out : (e x : ℕ) (s : SegmentAt) → e ≤ x → (front e s).byte x ≡ None
front_out e x s h = let past : e < suc x = omega (arith, h) in rw (not_le (suc x) e past) refl

pub mapped : {A B : Type 0} (f : A → B) (o p : Option A) → o ≡ p → option_map f o ≡ option_map f p
mapped f o p e = ap (option_map f) e

module _ (a e : ℕ) (s : SegmentAt) (from : s.address ≤ a) where
  front_share : a - s.address < e → share_in a (front e s) ≡ option_map (share s) (s.byte (a - s.address))
  front_share h = in_from a (front e s) from ∙ mapped (share s) ((front e s).byte (a - s.address)) (s.byte (a - s.address)) (front_in e (a - s.address) s h)

  front_none : e ≤ a - s.address → share_in a (front e s) ≡ None
  front_none h = in_from a (front e s) from ∙ mapped (share s) ((front e s).byte (a - s.address)) None (front_out e (a - s.address) s h)

-- ---- one more run

abbrev IsJoined : Option Share → Option Share → Option Share → Type 0
IsJoined o p q = ((o ≡ q) × (p ≡ None)) ⊎ ((o ≡ None) × (p ≡ q))

joined : (o p q : Option Share) → IsJoined o p q → cons_option o [] ++ cons_option p [] ≡ cons_option q []
joined o p q (inl (e, none)) = ap₂ (λ (x y : Option Share). cons_option x [] ++ cons_option y []) e none ∙ append-nil (cons_option q [])
joined o p q (inr (none, e)) = ap₂ (λ (x y : Option Share). cons_option x [] ++ cons_option y []) none e

module _ (s : SegmentAt) (edge first : ℕ) (bytes : List ℕ) (rest : List Run) (all : AreAll s.byte edge (record { first = first; len = length bytes } ∷ rest))
    (over : AreBytesOver s.byte (record { first = first; len = length bytes }) bytes) where
  abbrev end : ℕ
  end = first + length bytes

  before_run : (a : ℕ) → s.address ≤ a → a - s.address < first → IsJoined (share_in a (front edge s)) (share_of a (run_piece s first bytes)) (share_in a (front end s))
  before_run a from lt =
      let none : share_of a (run_piece s first bytes) ≡ None = of_below a s first bytes (omega (arith, from, lt)) in
      let here : share_in a (front end s) ≡ option_map (share s) (s.byte (a - s.address)) = front_share a end s from (omega (arith, lt)) in
      elim (leb_tells (suc (a - s.address)) edge) [
        | inl t ↦ inl (front_share a edge s from (omega (arith, t.1)) ∙ sym here, none)
        | inr t ↦ let gone : s.byte (a - s.address) ≡ None = none_is (s.byte (a - s.address)) (all.1 (a - s.address) (omega (arith, t.1)) lt) in
            inl (front_none a edge s from (omega (arith, t.1)) ∙ sym (here ∙ mapped (share s) (s.byte (a - s.address)) None gone), none)
      ]

  in_run : (a : ℕ) → s.address ≤ a → first ≤ a - s.address → IsJoined (share_in a (front edge s)) (share_of a (run_piece s first bytes)) (share_in a (front end s))
  in_run a from le =
      let none : share_in a (front edge s) ≡ None = front_none a edge s from (omega (arith, le, all.0)) in
      let i : ℕ = a - s.address - first in
      let at : a - (s.address + first) ≡ i = omega (arith, from, le) in
      let here : share_of a (run_piece s first bytes) ≡ option_map (share s) (slice_get bytes i)
      = of_from a s first bytes (omega (arith, from, le)) ∙ ap (λ (n : ℕ). option_map (share s) (slice_get bytes n)) at in
      elim (leb_tells (suc (a - s.address)) end) [
        | inl t ↦ let place : first + i ≡ a - s.address = omega (arith, le) in
            let same : s.byte (a - s.address) ≡ slice_get bytes i = ap s.byte (sym place) ∙ over.each i (omega (arith, t.1, le)) in
            inr (none, here ∙ sym (front_share a end s from (omega (arith, t.1)) ∙ mapped (share s) (s.byte (a - s.address)) (slice_get bytes i) same))
        | inr t ↦ let gone : slice_get bytes i ≡ None = no_element bytes i (omega (arith, t.1, le)) in
            inr (none, here ∙ mapped (share s) (slice_get bytes i) None gone ∙ sym (front_none a end s from (omega (arith, t.1))))
      ]

  at_run : (a : ℕ) → IsJoined (share_in a (front edge s)) (share_of a (run_piece s first bytes)) (share_in a (front end s))
  at_run a = elim (leb_tells s.address a) [
    | inl t ↦ elim (leb_tells (suc (a - s.address)) first) [
      | inl u ↦ before_run a t.1 (omega (arith, u.1))
      | inr u ↦ in_run a t.1 (omega (arith, u.1))
    ]
    | inr t ↦ let low : a < s.address = t.1 in
        inl (in_below a (front edge s) low ∙ sym (in_below a (front end s) low), of_below a s first bytes (omega (arith, low)))
  ]

shares_more : (now : List Stretch) (t : Stretch) (a : ℕ) → shares (pieces (now ++ t ∷ [])) a ≡ shares (pieces now) a ++ cons_option (share_of a (piece t)) []
shares_more now t a = ap (filter_map (share_of a)) (map-append piece now (t ∷ [])) ∙ filter_map-append (share_of a) (map piece now) (piece t ∷ [])

-- ---- the runs so far

-- stretches have what others have, and then what a segment has before an offset; all that it has after it is in the runs that are left
pub record SoFar (old : List Stretch) (s : SegmentAt) (left : List Run) (now : List Stretch) : Type 0 where
  pub edge : ℕ
  pub fits : (x : ℕ) → x < edge → s.address + x < 2 ^ 32
  pub all : AreAll s.byte edge left
  pub more : HasMore old (front edge s) now

pub no_runs_yet : (old : List Stretch) (s : SegmentAt) (runs : List Run) → AreAll s.byte 0 runs → SoFar old s runs old
no_runs_yet old s runs all = record {
  edge = 0;
  fits = λ x lt. absurd (omega (arith, lt));
  all = all;
  more = λ a. sym (ap (λ (o : Option Share). shares (pieces old) a ++ cons_option o []) (nothing a) ∙ append-nil (shares (pieces old) a));
}
  where
    nothing : (a : ℕ) → share_in a (front 0 s) ≡ None
    nothing a = elim (leb_tells s.address a) [ inl t ↦ front_none a 0 s t.1 (omega arith) | inr t ↦ in_below a (front 0 s) t.1 ]

pub one_run : (old now new : List Stretch) (s : SegmentAt) (left rest : List Run) (first : ℕ) (bytes : List ℕ) (t : Stretch) → left ≡ record { first = first; len = length bytes } ∷ rest
    → AreBytesOver s.byte (record { first = first; len = length bytes }) bytes → new ≡ now ++ t ∷ [] → (piece t ≡ run_piece s first bytes) × Lies t → SoFar old s left now → SoFar old s rest new
one_run old now new s left rest first bytes t l over n (p, lies) h =
    let all : AreAll s.byte h.edge (record { first = first; len = length bytes } ∷ rest) = subst (AreAll s.byte h.edge) l h.all in
    let address : t.address ≡ s.address + first = ap (λ (q : Piece). q.address) p in
    let long : length t.bytes.now ≡ length bytes = ap (λ (q : Piece). length q.bytes) p in
    record {
      edge = first + length bytes;
      fits = λ x lt. omega (arith, lt, lies.1, address, long);
      all = all.2;
      more = λ a. ap (λ (ts : List Stretch). shares (pieces ts) a) n ∙ shares_more now t a
          ∙ ap₂ (λ (ss : List Share) (q : Piece). ss ++ cons_option (share_of a q) []) (h.more a) p
          ∙ append_assoc (shares (pieces old) a) (cons_option (share_in a (front h.edge s)) []) (cons_option (share_of a (run_piece s first bytes)) [])
          ∙ ap (λ (ss : List Share). shares (pieces old) a ++ ss)
          (joined (share_in a (front h.edge s)) (share_of a (run_piece s first bytes)) (share_in a (front (first + length bytes) s)) (at_run s h.edge first bytes rest all over a));
    }

module _ (old now : List Stretch) (s : SegmentAt) (left : List Run) (l : left ≡ []) (h : SoFar old s left now) where
  gone : (x : ℕ) → h.edge ≤ x → s.byte x ≡ None
  gone x le = let all : AreAll s.byte h.edge [] = subst (AreAll s.byte h.edge) l h.all in none_is (s.byte x) (all x le)

  pub all_within : IsWithin s
  all_within x some = elim (leb_tells (suc x) h.edge) [
    | inl t ↦ h.fits x (omega (arith, t.1))
    | inr t ↦ absurd (none_some (s.byte x) (gone x (omega (arith, t.1))) some)
  ]

  pub all_more : HasMore old s now
  all_more a = h.more a ∙ ap (λ (o : Option Share). shares (pieces old) a ++ cons_option o []) (elim (leb_tells s.address a) [
    | inl t ↦ elim (leb_tells (suc (a - s.address)) h.edge) [
      | inl u ↦ front_share a h.edge s t.1 (omega (arith, u.1)) ∙ sym (in_from a s t.1)
      | inr u ↦ let le : h.edge ≤ a - s.address = omega (arith, u.1) in
          front_none a h.edge s t.1 le ∙ sym (in_from a s t.1 ∙ mapped (share s) (s.byte (a - s.address)) None (gone (a - s.address) le))
    ]
    | inr t ↦ in_below a (front h.edge s) t.1 ∙ sym (in_below a s t.1)
  ])

-- a run that reaches beyond the last address has its last byte there
pub last_beyond : (s : SegmentAt) (first : ℕ) (bytes : List ℕ) → AreBytesOver s.byte (record { first = first; len = length bytes }) bytes → 0 < length bytes → 2 ^ 32 < s.address + first + length bytes → IsBeyond s
last_beyond s first bytes over some past =
    let i : ℕ = length bytes - 1 in
    let low : i < length bytes = omega (arith, some) in
    (first + i, subst IsSome (sym (over.each i low)) (within_some bytes i low), omega (arith, some, past))

pub told_beyond : (s : SegmentAt) (first : ℕ) (bytes : List ℕ) (f : MemoryFault) → AreBytesOver s.byte (record { first = first; len = length bytes }) bytes → 0 < length bytes → IsStretchAt s first bytes (Err f) → IsAdded s (Err f)
told_beyond s first bytes fault.Memory over some h = absurd h
told_beyond s first bytes (fault.Beyond o) over some h = (last_beyond s first bytes over some h.1, sym h.0)
told_beyond s first bytes (fault.Overlap a x y) over some h = absurd h
