-- The lines of members, one after another.
use Rattle.std.proofs.Common.{◌≡◌, ℕ, ◌+◌, ◌-◌, ◌<◌, ◌≤◌, arith, length, take, drop, get_or, List, [], ◌∷◌, ◌++◌, Bool, true, false, refl, sym, ap, subst, ◌∙◌, append_assoc}
use Rattle.std.specs.Prelude.{◌||◌, Option, Result}
use Rattle.std.specs.Io.KnownBytes.{Appends}
use Rattle.std.proofs.KnownBytes.{Appends-nil, Appends-trans}
use Rattle.std.proofs.lemmas.List.{append-nil, take_all}
use Rattle.omf_library.specs.Library.{page_size}
use Rattle.omf_library.specs.Spans.{AreSpansIn}
use Rattle.omf_library.specs.declared.spans.Span.{Span}
use Rattle.omf_library.specs.declared.spans.SpanFault.{SpanFault}
use Rattle.omf_dump.specs.Library.{Shows}
use Rattle.omf_dump.specs.Listing.{AreListed, IsEndListed, IsLibraryListed, IsListed, position_head}
use Rattle.omf_dump.specs.declared.format.Listing.{Listing}
use Rattle.omf_dump.specs.declared.position.Position.TheVariants as position

or_swaps : (a b c : Bool) → ((a || b) || c) ≡ (a || (b || c))
or_swaps true b c = refl
or_swaps false b c = refl

or_none : (a : Bool) → (a || false) ≡ a
or_none true = refl
or_none false = refl

-- the lines so far, and those of the members that are left, are the lines of all
abbrev pub IsLeft : Listing → List ℕ → ℕ → List Span → List Span → Bool → Option (List ℕ) → Option (List ℕ) → Type 0
IsLeft l head number left members is_refused old now = (lines : List ℕ) × Appends old now lines
    × ((others : Bool) (more : List ℕ) → AreListed l head number left others more → AreListed l head 0 members (is_refused || others) (lines ++ more))

pub all_left : (l : Listing) (head : List ℕ) (members : List Span) (old : Option (List ℕ)) → IsLeft l head 0 members members false old old
all_left l head members old = ([], Appends-nil old, λ others more j. j)

pub one_listed : (l : Listing) (head : List ℕ) (number : ℕ) (m : Span) (left members : List Span) (is_refused is_faulty either : Bool) (old mid new : Option (List ℕ))
    → IsLeft l head number (m ∷ left) members is_refused old mid
    → Shows mid new (IsListed l (head ++ position_head l.shape (position.Member number) m.bytes.now) m.bytes.now is_faulty) → either ≡ (is_refused || is_faulty)
    → IsLeft l head (number + 1) left members either old new
one_listed l head number m left members is_refused is_faulty either old mid new h s e = (
  h.0 ++ s.0,
  Appends-trans old mid new h.0 s.0 h.1 s.2,
  λ others more j.
      let all : AreListed l head 0 members (is_refused || (is_faulty || others)) (h.0 ++ (s.0 ++ more))
      = h.2 (is_faulty || others) (s.0 ++ more) (is_faulty, others, s.0, more, s.1, j, refl, refl) in
      let same : (either || others) ≡ (is_refused || (is_faulty || others)) = ap (λ (b : Bool). b || others) e ∙ or_swaps is_refused is_faulty others in
      rw (same, append_assoc h.0 s.0 more) all,
)

pub none_left : (l : Listing) (head : List ℕ) (number : ℕ) (members : List Span) (is_refused : Bool) (old new : Option (List ℕ))
    → IsLeft l head number [] members is_refused old new → Shows old new (AreListed l head 0 members is_refused)
none_left l head number members is_refused old new h =
    let all : AreListed l head 0 members (is_refused || false) (h.0 ++ []) = h.2 false [] (refl, refl) in
    (h.0, subst (λ (t : List ℕ). AreListed l head 0 members is_refused t) (append-nil h.0) (subst (λ (b : Bool). AreListed l head 0 members b (h.0 ++ [])) (or_none is_refused) all), h.1)

-- the lines of the members, and what is there after the last of them
pub library_listed : (l : Listing) (head bytes : List ℕ) (members : List Span) (end : Result ℕ SpanFault) (page : ℕ) (shown : List Span) (has_refused is_faulty either : Bool) (old mid new : Option (List ℕ))
    → page ≡ page_size bytes → shown ≡ members → AreSpansIn bytes page members end → Shows old mid (AreListed l head 0 shown has_refused) → Shows mid new (IsEndListed l head end is_faulty) → either ≡ (has_refused || is_faulty)
    → Shows old new (IsLibraryListed l head bytes either)
library_listed l head bytes members end page shown has_refused is_faulty either old mid new p same spans s w e = (
  s.0 ++ w.0,
  record {
    members = members;
    end = end;
    spans = subst (λ (n : ℕ). AreSpansIn bytes n members end) p spans;
    has_refused = has_refused;
    lines = s.0;
    listed = subst (λ (ms : List Span). AreListed l head 0 ms has_refused s.0) same s.1;
    is_faulty = is_faulty;
    last = w.0;
    ended = w.1;
    refused = e;
    whole = refl;
  },
  Appends-trans old mid new s.0 w.0 s.2 w.2,
)

-- a turn: the first member of those that are left is listed
pub turn : (l : Listing) (head : List ℕ) (number : ℕ) (m : Span) (rest left members : List Span) (is_refused is_faulty either : Bool) (old mid new : Option (List ℕ))
    → rest ≡ m ∷ left → IsLeft l head number rest members is_refused old mid
    → Shows mid new (IsListed l (head ++ position_head l.shape (position.Member number) m.bytes.now) m.bytes.now is_faulty) → either ≡ (is_refused || is_faulty)
    → IsLeft l head (number + 1) left members either old new
turn l head number m rest left members is_refused is_faulty either old mid new r h s e
    = one_listed l head number m left members is_refused is_faulty either old mid new (subst (λ (ms : List Span). IsLeft l head number ms members is_refused old mid) r h) s e

pub last_turn : (l : Listing) (head : List ℕ) (number : ℕ) (rest members : List Span) (is_refused : Bool) (old new : Option (List ℕ))
    → rest ≡ [] → IsLeft l head number rest members is_refused old new → Shows old new (AreListed l head 0 members is_refused)
last_turn l head number rest members is_refused old new r h
    = none_left l head number members is_refused old new (subst (λ (ms : List Span). IsLeft l head number ms members is_refused old new) r h)

-- a list with an element is its first one and the others; one without is empty
pub front : (xs : List Span) (d : Span) → 1 ≤ length xs → xs ≡ get_or xs 0 d ∷ take (length xs - 1) (drop 1 xs)
front [] d h = absurd (omega (arith, h))
front (x ∷ xs) d h = ap (λ (ys : List Span). x ∷ ys) (sym (take_all (length (x ∷ xs) - 1) xs (omega arith)))

pub empty : (xs : List Span) → length xs < 1 → xs ≡ []
empty [] h = refl
empty (x ∷ xs) h = absurd (omega (arith, h))
