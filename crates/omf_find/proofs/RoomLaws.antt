-- Free addresses, and room that is taken of them.
use Rattle.std.proofs.Common.{◌≡◌, ◌⊎◌, inl, inr, ℕ, ◌+◌, ◌-◌, ◌*◌, ◌/◌, ◌^◌, ◌<◌, ◌≤◌, Result, Ok, Err, List, length, get_or, set, take, refl, sym, subst, arith}
use Rattle.std.specs.Prelude.{All, Contains, MatchOption, OkIff, Option, Some, None, min, max, ⊤}
use Rattle.std.specs.Result.{result_ok}
use Rattle.std.proofs.lemmas.List.{take_all}
use Rattle.std.proofs.lemmas.List.Elements.{All-contains, All-more, All-set, All-weaker, Contains-get_or}
use Rattle.std.proofs.lemmas.Bool.{cases_lt}
use Rattle.omf_find.specs.Room.{IsAfter, IsFree, IsLeftOf, IsParagraph, IsPlaceFor, IsPlaceIn, IsRoom}
use Rattle.omf_find.specs.declared.gaps.Gap.{Gap}
use Rattle.omf_find.specs.declared.room.Room.{Room}
use Rattle.omf_find.specs.declared.rows.SegmentRow.{SegmentRow}

pub left_same : (r : Room) → IsLeftOf r r
left_same r x f = f

pub left_more : (a b c : Room) → IsLeftOf a b → IsLeftOf b c → IsLeftOf a c
left_more a b c first then_ x f = first x (then_ x f)

pub room_earlier : (old now : Room) (lowest size a : ℕ) → IsLeftOf old now → IsRoom now lowest size a → IsRoom old lowest size a
room_earlier old now lowest size a left r = record { place = r.place; free = λ x low high. left x (r.free x low high) }

pub room_maybe_earlier : (old now : Room) (lowest size : ℕ) (o : Option ℕ) → IsLeftOf old now → MatchOption o ⊤ (IsRoom now lowest size) → MatchOption o ⊤ (IsRoom old lowest size)
room_maybe_earlier old now lowest size None left h = tt
room_maybe_earlier old now lowest size (Some a) left h = room_earlier old now lowest size a left h

-- ---- a place

pub paragraph_is : (address sum : ℕ) → sum ≡ min (address + 15) (2 ^ 64 - 1) → IsParagraph address (sum / 16 * 16)
paragraph_is address sum e = record { times = sum / 16; multiple = refl; low = λ h. omega (arith, h, e); high = λ h. omega (arith, h, e) }

-- a number that fits its type, or none
pub fits_or_none : {E : Type 0} (r : Result ℕ E) (P : Type 0) (n : ℕ) (o : Option ℕ) (Q : ℕ → Type 0) → OkIff r P n → o ≡ result_ok r → Q n → MatchOption o ⊤ Q
fits_or_none (Ok x) P n o Q h s q = subst (λ (y : Option ℕ). MatchOption y ⊤ Q) (sym s) (subst Q (sym h.1) q)
fits_or_none (Err x) P n o Q h s q = subst (λ (y : Option ℕ). MatchOption y ⊤ Q) (sym s) tt

pub place_from : (lowest next address p size : ℕ) → next ≤ address → lowest ≤ address → IsParagraph address p → p + size ≤ 2 ^ 32 → (next ≤ p) × IsPlaceFor lowest size p
place_from lowest next address p size after low h inside =
    let from : address ≤ p = elim (cases_lt (address + 15) (2 ^ 64)) [
      | inl x ↦ h.low x
      | inr x ↦ absurd (omega (arith, h.high x, inside))
    ] in
    (omega (arith, after, from), record { low = omega (arith, low, from); times = h.times; multiple = h.multiple; inside = inside })

pub place_in_gap : (g : Gap) (lowest address p size : ℕ) → g.first ≤ address → lowest ≤ address → IsParagraph address p → p + size ≤ 2 ^ 32 → p + size ≤ g.end → IsPlaceIn g lowest size p
place_in_gap g lowest address p size after low h inside before =
    let at = place_from lowest g.first address p size after low h inside in
    record { place = at.1; after = at.0; before = before }

-- ---- after all segments

pub room_after : (r : Room) (lowest size a : ℕ) → r.next ≤ a → IsPlaceFor lowest size a → IsRoom r lowest size a
room_after r lowest size a h p = record { place = p; free = λ x low high. inr (omega (arith, h, low)) }

-- free in gaps, or after an address
abbrev pub IsIn : List Gap → ℕ → ℕ → Type 0
IsIn gaps next x = ((g : Gap) × Contains gaps g × (g.first ≤ x) × (x < g.end)) ⊎ (next ≤ x)

pub less_after : (gaps : List Gap) (old new x : ℕ) → old ≤ new → IsIn gaps new x → IsIn gaps old x
less_after gaps old new x h f = elim f [ inl t ↦ inl t | inr k ↦ inr (omega (arith, h, k)) ]

-- ---- after some segments

abbrev EndsBy : ℕ → SegmentRow → Type 0
EndsBy next r = min (2 ^ 64 - 1) (r.address + r.length) ≤ next

pub after_more : (rows : List SegmentRow) (i : ℕ) (r : SegmentRow) (old new : ℕ) → r ≡ get_or rows i r → i < length rows → old ≤ new → EndsBy new r → IsAfter (take i rows) old → IsAfter (take (i + 1) rows) new
after_more rows i r old new e low up here h = All-more (EndsBy new) rows i r low (All-weaker (EndsBy old) (EndsBy new) (λ q b. omega (arith, b, up)) (take i rows) h) (subst (EndsBy new) e here)

pub after_row : (rows : List SegmentRow) (i : ℕ) (r : SegmentRow) (old from sum new : ℕ) → r ≡ get_or rows i r → i < length rows → from ≡ r.address → sum ≡ min (from + r.length) (2 ^ 64 - 1) → new ≡ max old sum
    → IsAfter (take i rows) old → IsAfter (take (i + 1) rows) new
after_row rows i r old from sum new e low a b m h = after_more rows i r old new e low (omega (arith, m)) (omega (arith, a, b, m)) h

pub after_all : (rows : List SegmentRow) (i next : ℕ) → length rows ≤ i → IsAfter (take i rows) next → IsAfter rows next
after_all rows i next h a = subst (λ (xs : List SegmentRow). IsAfter xs next) (take_all i rows h) a

-- ---- in a gap

-- the gap of a list in which a place is
pub found_in : (gaps : List Gap) (n lowest size a : ℕ) (g : Gap) → n < length gaps → g ≡ get_or gaps n g → IsPlaceIn g lowest size a → (h : Gap) × (n < length gaps) × (h ≡ get_or gaps n h) × IsPlaceIn h lowest size a
found_in gaps n lowest size a g low is p = (g, low, is, p)

abbrev pub HasFree : Room → Gap → Type 0
HasFree r g = (x : ℕ) → g.first ≤ x → x < g.end → IsFree r x

own_free : (r : Room) → All (HasFree r) r.gaps.items
own_free r k d low x a b = inl (get_or r.gaps.items k d, Contains-get_or r.gaps.items k d low, a, b)

module _ (r : Room) (n : ℕ) (g : Gap) (is : g ≡ get_or r.gaps.items n g) (low : n < length r.gaps.items) where
  there : Contains r.gaps.items g
  there = subst (Contains r.gaps.items) (sym is) (Contains-get_or r.gaps.items n g low)

  pub room_in : (lowest size a : ℕ) → IsPlaceIn g lowest size a → IsRoom r lowest size a
  room_in lowest size a p = record { place = p.place; free = λ x first last. inl (g, there, omega (arith, p.after, first), omega (arith, p.before, last)) }

  pub less_in : (cut : Gap) (x : ℕ) → g.first ≤ cut.first → cut.end ≤ g.end → IsIn (set r.gaps.items n cut) r.next x → IsFree r x
  less_in cut x first last f =
      let own : HasFree r cut = λ y a b. inl (g, there, omega (arith, first, a), omega (arith, last, b)) in
      elim f [
        | inl t ↦ All-contains (HasFree r) (set r.gaps.items n cut) t.0 (All-set (HasFree r) r.gaps.items n cut own (own_free r)) t.1 x t.2 t.3
        | inr k ↦ inr k
      ]
