-- The gaps between segments, as far as they are gone through.
use Rattle.std.proofs.Common.{◌≡◌, ◌⊎◌, inl, inr, ℕ, ◌+◌, ◌-◌, ◌^◌, ◌<◌, ◌≤◌, List, [], ◌∷◌, ◌++◌, length, get_or, sym, ap, subst, ◌∙◌, arith}
use Rattle.std.specs.Prelude.{max, min}
use Rattle.std.proofs.lemmas.List.{get_or_default}
use Rattle.std.proofs.lemmas.List.Elements.{Contains-append_left, Contains-push, Contains-push_cases}
use Rattle.std.proofs.lemmas.Bool.{cases_lt}
use Rattle.omf_find.specs.Room.{AddsGap, AreGaps, AreInOrder, Has, IsAfter, IsAround, IsInGaps, IsOpen}
use Rattle.omf_find.specs.declared.gaps.Gap.{Gap}
use Rattle.omf_find.specs.declared.room.Room.{Room}
use Rattle.omf_find.specs.declared.rows.SegmentRow.{SegmentRow}

-- ---- one gap more

added-one : (old : List Gap) (g : Gap) → AddsGap g.first g.end old (old ++ g ∷ [])
added-one old g = record {
  each = λ x t. elim (Contains-push_cases old g t.0 t.1) [
    | inl c ↦ inl (t.0, c, t.2, t.3)
    | inr q ↦ inr (subst (λ (h : Gap). (h.first ≤ x) × (x < h.end)) (sym q) (t.2, t.3))
  ];
  every = λ x s. elim s [
    | inl t ↦ (t.0, Contains-append_left old (g ∷ []) t.0 t.1, t.2, t.3)
    | inr p ↦ (g, Contains-push old g, p.0, p.1)
  ];
}

pub gap-added : (old new : List Gap) (g : Gap) → new ≡ old ++ g ∷ [] → AddsGap g.first g.end old new
gap-added old new g e = subst (AddsGap g.first g.end old) (sym e) (added-one old g)

pub gap-none : (old : List Gap) (first end : ℕ) → end ≤ first → AddsGap first end old old
gap-none old first end h = record {
  each = λ x t. inl t;
  every = λ x s. elim s [ inl t ↦ t | inr p ↦ absurd (omega (arith, h, p.0, p.1)) ];
}

-- ---- the gaps so far

abbrev pub Below : List SegmentRow → ℕ → (SegmentRow → Type 0) → Type 0
Below rows i P = (k : ℕ) (d : SegmentRow) → k < i → k < length rows → P (get_or rows k d)

-- those before the next address, with the segments up to a number
pub record SoFar (first end : ℕ) (rows : List SegmentRow) (i next : ℕ) (gs : List Gap) : Type 0 where
  pub low : first ≤ next
  pub after : Below rows i (λ r. min (2 ^ 64 - 1) (r.address + r.length) ≤ next)
  pub each : (x : ℕ) → IsInGaps gs x → (first ≤ x) × (x < end) × (x < next) × IsOpen rows x
  pub every : (x : ℕ) → first ≤ x → x < end → x < next → Below rows i (λ r. Has r x → ⊥) → IsInGaps gs x

pub gaps-first : (first end : ℕ) (rows : List SegmentRow) → SoFar first end rows 0 first []
gaps-first first end rows = record {
  low = omega arith;
  after = λ k d low. absurd (omega (arith, low));
  each = λ x t. absurd (omega (arith, t.1.1));
  every = λ x a b c. absurd (omega (arith, a, c));
}

module _ (first end : ℕ) (rows : List SegmentRow) (short : end < 2 ^ 64) (i next : ℕ) (old new : List Gap) (s : SoFar first end rows i next old) where
  -- an address after the segments up to a number is in none of them
  past : (x : ℕ) → next ≤ x → x < end → Below rows i (λ r. Has r x → ⊥)
  past x a b k d low there has = absurd (omega (arith, s.after k d low there, has.1, a, b, short))

  pub gaps-last : length rows ≤ i → AddsGap next end old new → AreGaps first end rows new
  gaps-last all h = record {
    each = λ x t. elim (h.each x t) [
      | inl u ↦ let e = s.each x u in (e.0, e.1, e.3)
      | inr p ↦ (omega (arith, s.low, p.0), p.1, λ k d low. past x p.0 p.1 k d (omega (arith, low, all)) low)
    ];
    every = λ x a b none. elim (cases_lt x next) [
      | inl low ↦ h.every x (inl (s.every x a b low (λ k d k_low there. none k d there)))
      | inr high ↦ h.every x (inr (high, b))
    ];
  }

  module _ (r : SegmentRow) (is : r ≡ get_or rows i r) (there : i < length rows) (from sum to start : ℕ) (from_is : from ≡ r.address) (sum_is : sum ≡ min (from + r.length) (2 ^ 64 - 1)) (to_is : to ≡ max next sum) (start_is : start ≡ min from end) (h : AddsGap next start old new)
    where
      own : (d : SegmentRow) → r ≡ get_or rows i d
      own d = is ∙ get_or_default rows i r d there

      -- an address before a segment is before those after it
      before : AreInOrder rows → (x : ℕ) → x < r.address → (k : ℕ) (d : SegmentRow) → i ≤ k → k < length rows → Has (get_or rows k d) x → ⊥
      before order x low k d up k_there has = absurd (omega (arith, order i k d up k_there, ap (λ (q : SegmentRow). q.address) (own d), has.0, low))

      after-more : Below rows (i + 1) (λ q. min (2 ^ 64 - 1) (q.address + q.length) ≤ to)
      after-more k d low k_there = elim (cases_lt k i) [
        | inl u ↦ omega (arith, s.after k d u k_there, to_is)
        | inr u ↦
            let same : k ≡ i = omega (arith, low, u) in
            subst (λ n. min (2 ^ 64 - 1) ((get_or rows n d).address + (get_or rows n d).length) ≤ to) (sym same)
            (subst (λ (q : SegmentRow). min (2 ^ 64 - 1) (q.address + q.length) ≤ to) (own d) (omega (arith, from_is, sum_is, to_is)))
      ]

      not-here : (x : ℕ) → Below rows (i + 1) (λ q. Has q x → ⊥) → Has r x → ⊥
      not-here x none has = none i r (omega arith) there (subst (λ (q : SegmentRow). Has q x) is has)

      pub gaps-more : AreInOrder rows → SoFar first end rows (i + 1) to new
      gaps-more order = record {
        low = omega (arith, s.low, to_is);
        after = after-more;
        each = λ x t. elim (h.each x t) [
          | inl u ↦ let e = s.each x u in (e.0, e.1, omega (arith, e.2, to_is), e.3)
          | inr p ↦ (
            omega (arith, s.low, p.0),
            omega (arith, p.1, start_is),
            omega (arith, p.1, start_is, from_is, sum_is, to_is, short),
            λ k d low. elim (cases_lt k i) [
              | inl u ↦ past x p.0 (omega (arith, p.1, start_is)) k d u low
              | inr u ↦ before order x (omega (arith, p.1, start_is, from_is)) k d u low
            ],
          )
        ];
        every = λ x a b c none. elim (cases_lt x next) [
          | inl low ↦ h.every x (inl (s.every x a b low (λ k d k_low k_there. none k d (omega (arith, k_low)) k_there)))
          | inr high ↦ elim (cases_lt x r.address) [
            | inl low ↦ h.every x (inr (high, omega (arith, low, b, start_is, from_is)))
            | inr up ↦ absurd (not-here x none (up, omega (arith, c, high, to_is, sum_is, from_is)))
          ]
        ];
      }

-- ---- what is free

pub free-around : (rows : List SegmentRow) (r : Room) → IsAfter rows r.next → AreGaps 0 r.next rows r.gaps.items → IsAround rows r
free-around rows r after gaps x small = (
  λ f. elim f [
    | inl t ↦ (gaps.each x t).2
    | inr up ↦ λ k d low has. absurd (omega (arith, after k d low, has.1, up, small))
  ],
  λ none. elim (cases_lt x r.next) [
    | inl low ↦ inl (gaps.every x (omega arith) low none)
    | inr up ↦ inr up
  ],
)
