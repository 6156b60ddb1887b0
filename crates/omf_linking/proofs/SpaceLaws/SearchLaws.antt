-- The search for a fault of segments without memory, segment by segment and run by run.
use Rattle.std.proofs.Common.{◌≡◌, ◌⊎◌, inl, inr, ℕ, suc, ◌+◌, ◌-◌, ◌<◌, ◌≤◌, List, [], ◌∷◌, ◌++◌, length, take, drop, drop-cons, refl, sym, ap, subst, ◌∙◌, arith, Bool, true, false, ◌&&◌, nat_le, Option, Some, None, if◌then◌else◌}
use Rattle.std.specs.Prelude.{All, Result, Ok, Err, IfSome, IsSome, IsNone, is_some, is_err, option_map, slice_get}
use Rattle.std.specs.Option.{option_or}
use Rattle.std.specs.List.{cons_option}
use Rattle.std.proofs.lemmas.Bool.Decides.{leb_tells}
use Rattle.std.proofs.lemmas.Grind.{take_at_read}
use Rattle.std.proofs.lemmas.List.{take_all, take-append-drop}
use Rattle.std.proofs.lemmas.Option.{slice_get_within, get_or_from_slice_get}
use Rattle.omf_image.specs.declared.run.Run.{Run}
use Rattle.omf_image.specs.Overlay.{AreBytesOver}
use Rattle.omf_image.proofs.RunLaws.{within_some}
use Rattle.omf_linking.specs.declared.space.fault.MemoryFault.{MemoryFault}
use Rattle.omf_linking.specs.declared.space.fault.MemoryFault.TheVariants as fault
use Rattle.omf_linking.specs.declared.space.stretch.Owner.{Owner}
use Rattle.omf_linking.specs.declared.space.stretch.Stretch.{Stretch}
use Rattle.omf_linking.specs.Space.Memory.{Piece, piece, Lies, Share, overlap, IsFirstOverlap}
use Rattle.omf_linking.specs.Space.Segments.{SegmentAt, share_in, segment_shares, IsWithin, IsBeyond, IsFirstBeyond}
use Rattle.omf_linking.specs.Inner.Laying.{overlap_with, excluded}
use Rattle.omf_linking.specs.Inner.Runs.{IsStretchAt, run_piece}
use Rattle.omf_linking.specs.Inner.Searching.{IsLowest, begins_in, lesser, lowest_with}
use Rattle.omf_linking.proofs.SpaceLaws.CoverLaws.{AreAll}
use Rattle.omf_linking.proofs.SpaceLaws.LowestLaws.{AnyBegins, Follows, begins-more, lowest_is_first}
use Rattle.omf_linking.proofs.SpaceLaws.MemoryLaws.{one_known}
use Rattle.omf_linking.proofs.SpaceLaws.RunSteps.{SoFar, none_is, none_some, share, in_from, in_below, mapped, one_run, last_beyond}
use Rattle.omf_linking.proofs.SpaceLaws.SegmentLaws.{all_more}

-- ---- what a segment has at an address

share_cases : (a : ℕ) (s : SegmentAt) → (share_in a s ≡ None) ⊎ ((b : ℕ) × (share_in a s ≡ Some (share s b)))
share_cases a s = by (nat_le s.address a) refl (s.byte (a - s.address)) refl
  where
    by : (t : Bool) → nat_le s.address a ≡ t → (x : Option ℕ) → s.byte (a - s.address) ≡ x → (share_in a s ≡ None) ⊎ ((b : ℕ) × (share_in a s ≡ Some (share s b)))
    by true e (Some b) f = inr (b, rw (e, f) refl)
    by true e None f = inl (rw (e, f) refl)
    by false e x f = inl (rw e refl)

no_share : (a : ℕ) (s : SegmentAt) → share_in a s ≡ None → is_some (share_in a s) ≡ true → ⊥
no_share a s e h = none_some (share_in a s) e h

some_share : (a b : ℕ) (s : SegmentAt) → share_in a s ≡ Some (share s b) → is_some (share_in a s) ≡ true
some_share a b s e = ap is_some e

flagged : (a : ℕ) (s : SegmentAt) → IfSome (share_in a s) (λ t. t.common ≡ s.common)
flagged a s = elim (share_cases a s) [
  | inl e ↦ subst (λ (o : Option Share). IfSome o (λ t. t.common ≡ s.common)) (sym e) tt
  | inr t ↦ subst (λ (o : Option Share). IfSome o (λ t. t.common ≡ s.common)) (sym t.1) refl
]

follows : (a : ℕ) (s : SegmentAt) → Follows share_in begins_in a s
follows a s = elim (share_cases a s) [
  | inl e ↦ inr (inl (subst IsNone (sym e) refl))
  | inr t ↦ later (some_share a t.0 s t.1)
]
  where
    later : IsSome (share_in a s) → Follows share_in begins_in a s
    later some = elim (leb_tells 1 a) [
      | inl u ↦ elim (share_cases (a - 1) s) [
        | inl e ↦ inl (some, inr (subst IsNone (sym e) refl))
        | inr v ↦ inr (inr (u.1, some_share (a - 1) v.0 s v.1))
      ]
      | inr u ↦ inl (some, inl (omega (arith, u.1)))
    ]

-- ---- a list and its next element

pub left_from : {A : Type 0} (xs : List A) (i : ℕ) (x : A) → slice_get xs i ≡ Some x → drop i xs ≡ x ∷ drop (i + 1) xs
left_from xs i x e =
    let low : i < length xs = slice_get_within xs i x e in
    let a : suc i ≡ i + 1 = omega arith in
    drop-cons xs i x low ∙ ap (λ y. y ∷ drop (suc i) xs) (get_or_from_slice_get xs i x x e) ∙ ap (λ k. x ∷ drop k xs) a

taken_to : {A : Type 0} (xs : List A) (i : ℕ) (x : A) → slice_get xs i ≡ Some x → take (i + 1) xs ≡ take i xs ++ x ∷ []
taken_to xs i x e = (take_at_read xs i x (slice_get_within xs i x e)).1 ∙ ap (λ y. take i xs ++ y ∷ []) (get_or_from_slice_get xs i x x e)

-- ---- the first two that overlap at an address

module _ (all : List SegmentAt) (a n : ℕ) (s : SegmentAt) (e : slice_get all n ≡ Some s) (first : Option (Owner × Bool)) (whole : Option (Owner × Owner))
    (h : overlap_with first (segment_shares (drop n all) a) ≡ whole) where
  abbrev rest : List Share
  rest = segment_shares (drop (n + 1) all) a

  with_next : (o : Option Share) → share_in a s ≡ o → overlap_with first (cons_option o rest) ≡ whole
  with_next o g = ap (λ (p : Option Share). overlap_with first (cons_option p rest)) (sym g) ∙ ap (λ (xs : List SegmentAt). overlap_with first (segment_shares xs a)) (sym (left_from all n s e)) ∙ h

  pub passed_over : is_some (share_in a s) ≡ false → overlap_with first rest ≡ whole
  passed_over none = elim (share_cases a s) [
    | inl g ↦ with_next None g
    | inr t ↦ absurd (false_true none (some_share a t.0 s t.1))
  ]
    where
      false_true : is_some (share_in a s) ≡ false → is_some (share_in a s) ≡ true → ⊥
      false_true f t = cc

  pub known_next : (now : Option (Owner × Bool)) → is_some (share_in a s) ≡ true → excluded first s.owner s.common ≡ None → now ≡ option_or first (Some (s.owner, s.common)) → overlap_with now rest ≡ whole
  known_next now some none g = elim (share_cases a s) [
    | inl k ↦ absurd (no_share a s k some)
    | inr t ↦ ap (λ (o : Option (Owner × Bool)). overlap_with o rest) g ∙ one_known (share s t.0) rest first none ∙ with_next (Some (share s t.0)) t.1
  ]

  two_found : (b : ℕ) (both : Owner × Owner) (f : Option (Owner × Bool)) → excluded f s.owner s.common ≡ Some both → overlap_with f (share s b ∷ rest) ≡ Some both
  two_found b both None k = cc
  two_found b both (Some o) k = by (o.1 && s.common) refl k
    where
      by : (t : Bool) → o.1 && s.common ≡ t → if◌then◌else◌ {A = Option (Owner × Owner)} t None (Some (o.0, s.owner)) ≡ Some both → overlap_with (Some o) (share s b ∷ rest) ≡ Some both
      by true g m = cc
      by false g m = rw g m

  pub found_next : (both : Owner × Owner) → is_some (share_in a s) ≡ true → excluded first s.owner s.common ≡ Some both → Some both ≡ whole
  found_next both some k = elim (share_cases a s) [
    | inl g ↦ absurd (no_share a s g some)
    | inr t ↦ sym (two_found t.0 both first k) ∙ with_next (Some (share s t.0)) t.1
  ]

-- ---- bytes beyond the last address

pub ok_run : (s : SegmentAt) (first : ℕ) (bytes : List ℕ) (r : Result Stretch MemoryFault) → is_err r ≡ false → IsStretchAt s first bytes r → (t : Stretch) × (piece t ≡ run_piece s first bytes) × Lies t
ok_run s first bytes (Ok t) e h = (t, h.0, h.1)
ok_run s first bytes (Err f) e h = absurd cc

pub err_beyond : (s : SegmentAt) (first : ℕ) (bytes : List ℕ) (r : Result Stretch MemoryFault) → is_err r ≡ true → IsStretchAt s first bytes r → AreBytesOver s.byte (record { first = first; len = length bytes }) bytes → 0 < length bytes → IsBeyond s
err_beyond s first bytes (Ok t) e h over some = absurd cc
err_beyond s first bytes (Err fault.Memory) e h over some = absurd h
err_beyond s first bytes (Err (fault.Beyond o)) e h over some = last_beyond s first bytes over some h.1
err_beyond s first bytes (Err (fault.Overlap a x y)) e h over some = absurd h

pub not_beyond : (s : SegmentAt) → IsWithin s → IsBeyond s → ⊥
not_beyond s w b = let low = w b.0 b.1 in omega (arith, low, b.2)

-- the runs of a segment so far have addresses
abbrev pub SomeSoFar : SegmentAt → List Run → Type 0
SomeSoFar s left = (now : List Stretch) × SoFar [] s left now

pub one_within : (s : SegmentAt) (left rest : List Run) (first : ℕ) (bytes : List ℕ) (r : Result Stretch MemoryFault) → left ≡ record { first = first; len = length bytes } ∷ rest
    → AreBytesOver s.byte (record { first = first; len = length bytes }) bytes → is_err r ≡ false → IsStretchAt s first bytes r → SomeSoFar s left → SomeSoFar s rest
one_within s left rest first bytes r l over e h so =
    let t = ok_run s first bytes r e h in
    (so.0 ++ t.0 ∷ [], one_run [] so.0 (so.0 ++ t.0 ∷ []) s left rest first bytes t.0 l over refl (t.1, t.2) so.1)

-- what holds of all holds of each
pub within_at : (all : List SegmentAt) (n : ℕ) (s : SegmentAt) → slice_get all n ≡ Some s → All IsWithin all → IsWithin s
within_at all n s e h = subst IsWithin (get_or_from_slice_get all n s s e) (h n s (slice_get_within all n s e))

module _ (all : List SegmentAt) (n : ℕ) (s : SegmentAt) (e : slice_get all n ≡ Some s) (h : All IsWithin (take n all)) where
  pub within_more : IsWithin s → All IsWithin (take (n + 1) all)
  within_more w = subst (λ (xs : List SegmentAt). All IsWithin xs) (sym (taken_to all n s e)) (all_more IsWithin (take n all) s h w)

  pub beyond_next : IsBeyond s → IsFirstBeyond all s.owner
  beyond_next b = record {
    before = take n all;
    segment = s;
    after = drop (n + 1) all;
    listed = sym (take-append-drop n all) ∙ ap (λ (xs : List SegmentAt). take n all ++ xs) (left_from all n s e);
    within = h;
    beyond = b;
    owned = refl;
  }

-- ---- the addresses at which bytes of a segment begin

pub record Begun (at : ℕ → List Share) (s : SegmentAt) (left : List Run) : Type 0 where
  pub edge : ℕ
  pub all : AreAll s.byte edge left
  pub quiet : (a : ℕ) → a < s.address + edge → begins_in a s → IsNone (overlap (at a))

-- no byte there
silent : (a : ℕ) (s : SegmentAt) → s.address ≤ a → IsNone (s.byte (a - s.address)) → begins_in a s → ⊥
silent a s from none b = none_some (share_in a s) (in_from a s from ∙ mapped (share s) (s.byte (a - s.address)) None (none_is (s.byte (a - s.address)) none)) b.0

pub none_begun : (at : ℕ → List Share) (s : SegmentAt) (runs : List Run) → AreAll s.byte 0 runs → Begun at s runs
none_begun at s runs all = record {
  edge = 0;
  all = all;
  quiet = λ a lt b. absurd (none_some (share_in a s) (in_below a s (omega (arith, lt))) b.0);
}

module _ (at : ℕ → List Share) (s : SegmentAt) (first : ℕ) (bytes : List ℕ) (left rest : List Run) (next : left ≡ record { first = first; len = length bytes } ∷ rest)
    (over : AreBytesOver s.byte (record { first = first; len = length bytes }) bytes) (h : Begun at s left) where
  run_all : AreAll s.byte h.edge (record { first = first; len = length bytes } ∷ rest)
  run_all = subst (AreAll s.byte h.edge) next h.all

  before_run : (a : ℕ) → a < s.address + first → begins_in a s → IsNone (overlap (at a))
  before_run a lt b = elim (leb_tells (suc a) (s.address + h.edge)) [
    | inl t ↦ h.quiet a (omega (arith, t.1)) b
    | inr t ↦ absurd (silent a s (omega (arith, t.1)) (run_all.1 (a - s.address) (omega (arith, t.1)) (omega (arith, t.1, lt))) b)
  ]

  in_run : (a : ℕ) → s.address + first < a → a < s.address + (first + length bytes) → begins_in a s → ⊥
  in_run a from lt b =
      let i : ℕ = a - 1 - s.address - first in
      let low : i < length bytes = omega (arith, from, lt) in
      let place : first + i ≡ a - 1 - s.address = omega (arith, from) in
      let byte : IsSome (s.byte (a - 1 - s.address)) = subst (λ (n : ℕ). IsSome (s.byte n)) place (subst IsSome (sym (over.each i low)) (within_some bytes i low)) in
      elim b.1 [
        | inl z ↦ omega (arith, z, from)
        | inr none ↦ none_some (s.byte (a - 1 - s.address)) (gone (s.byte (a - 1 - s.address)) (subst IsNone (in_from (a - 1) s (omega (arith, from))) none)) byte
      ]
    where
      gone : (o : Option ℕ) → IsNone (option_map (share s) o) → o ≡ None
      gone None k = refl
      gone (Some x) k = absurd cc

  pub run_begun : (t : Stretch) → piece t ≡ run_piece s first bytes → IsNone (overlap (at t.address)) → Begun at s rest
  run_begun t p none = record {
    edge = first + length bytes;
    all = run_all.2;
    quiet = λ a lt b. elim (leb_tells (suc a) (s.address + first)) [
      | inl u ↦ before_run a (omega (arith, u.1)) b
      | inr u ↦ elim (leb_tells a (s.address + first)) [
        | inl v ↦ let same : t.address ≡ a = ap (λ (q : Piece). q.address) p ∙ omega (arith, u.1, v.1) in subst (λ (k : ℕ). IsNone (overlap (at k))) same none
        | inr v ↦ absurd (in_run a v.1 lt b)
      ]
    ];
  }

  pub run_lowest : (t : Stretch) → piece t ≡ run_piece s first bytes → IsSome (overlap (at t.address)) → IsLowest at (λ a. begins_in a s) (Some t.address)
  run_lowest t p some = let same : t.address ≡ s.address + first = ap (λ (q : Piece). q.address) p in (some, λ a lt b. before_run a (omega (arith, lt, same)) b)

pub none_lowest : (at : ℕ → List Share) (s : SegmentAt) (left : List Run) → left ≡ [] → Begun at s left → IsLowest at (λ a. begins_in a s) None
none_lowest at s left e h = λ a b. elim (leb_tells (suc a) (s.address + h.edge)) [
  | inl t ↦ h.quiet a (omega (arith, t.1)) b
  | inr t ↦ let all : AreAll s.byte h.edge [] = subst (AreAll s.byte h.edge) e h.all in absurd (silent a s (omega (arith, t.1)) (all (a - s.address) (omega (arith, t.1))) b)
]

-- ---- the lowest of all

-- the lower of the lowest of some addresses and of others
pub lesser_is : (at : ℕ → List Share) (begun other more : ℕ → Type 0) → ((a : ℕ) → more a → begun a ⊎ other a) → (o p : Option ℕ) → IsLowest at begun o → IsLowest at other p → IsLowest at more (lesser o p)
lesser_is at begun other more both None None h k = λ a m. elim (both a m) [ inl b ↦ h a b | inr b ↦ k a b ]
lesser_is at begun other more both (Some x) None h k = (h.0, λ a lt m. elim (both a m) [ inl b ↦ h.1 a lt b | inr b ↦ k a b ])
lesser_is at begun other more both None (Some y) h k = (k.0, λ a lt m. elim (both a m) [ inl b ↦ h a b | inr b ↦ k.1 a lt b ])
lesser_is at begun other more both (Some x) (Some y) h k = elim (leb_tells x y) [
  | inl t ↦ let e : x ≡ lowest_with (Some x) y = omega (arith, t.1) in
      subst (λ (n : ℕ). IsLowest at more (Some n)) e (h.0, λ a lt m. elim (both a m) [ inl b ↦ h.1 a lt b | inr b ↦ k.1 a (omega (arith, lt, t.1)) b ])
  | inr t ↦ let e : y ≡ lowest_with (Some x) y = omega (arith, t.1) in
      subst (λ (n : ℕ). IsLowest at more (Some n)) e (k.0, λ a lt m. elim (both a m) [ inl b ↦ h.1 a (omega (arith, lt, t.1)) b | inr b ↦ k.1 a lt b ])
]

-- the lowest overlap of those at which bytes of some segments begin
abbrev pub IsLowestIn : List SegmentAt → List SegmentAt → Option ℕ → Type 0
IsLowestIn all some o = IsLowest (segment_shares all) (λ a. AnyBegins begins_in a some) o

pub none_in : (all : List SegmentAt) → IsLowestIn all [] None
none_in all a h = absurd h

pub next_in : (all : List SegmentAt) (n : ℕ) (s : SegmentAt) (o p : Option ℕ) → slice_get all n ≡ Some s → IsLowestIn all (take n all) o → IsLowest (segment_shares all) (λ a. begins_in a s) p → IsLowestIn all (take (n + 1) all) (lesser o p)
next_in all n s o p e h k =
    lesser_is (segment_shares all) (λ a. AnyBegins begins_in a (take n all)) (λ a. begins_in a s) (λ a. AnyBegins begins_in a (take (n + 1) all))
    (λ a m. begins-more begins_in a (take n all) s (subst (λ (xs : List SegmentAt). AnyBegins begins_in a xs) (taken_to all n s e) m)) o p h k

pub first_in_all : (all : List SegmentAt) (n : ℕ) (o : Option ℕ) → length all ≤ n → IsLowestIn all (take n all) o → IsFirstOverlap (segment_shares all) o
first_in_all all n o past h =
    lowest_is_first share_in begins_in (λ s. s.common) flagged follows all o (subst (λ (xs : List SegmentAt). IsLowestIn all xs o) (take_all n all past) h)
