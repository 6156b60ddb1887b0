-- Weak externals: the indices at the front of a text, their marks, and the names that are needed, one after another.
use Rattle.std.proofs.Common.{◌≡◌, ◌≢◌, ℕ, zero, suc, ◌+◌, ◌-◌, ◌*◌, ◌<◌, ◌≤◌, Bool, true, false, List, [], ◌∷◌, ◌++◌, length, take, drop, get_or, set, replicate, refl, sym, subst, ap, ◌∙◌, inl, inr, arith}
use Rattle.std.specs.Prelude.{Option, Some, None, flat_map, map, nat_lt, ◌==◌, ◌||◌, if◌then◌else◌}
use Rattle.std.specs.List.{enumerate_from, list_any}
use Rattle.std.proofs.lemmas.Bool.{cond-true, cond-false, lt-ltb, le-ltb, cases_lt, cases_Bool, eqb-true, eq-eqb, eqb-false}
use Rattle.std.proofs.lemmas.List.{get_or-set_same, get_or-set_other, get_or-replicate, length-set}
use Rattle.std.proofs.lemmas.List.Folds.{list_any-append}
use Rattle.omf_frame.specs.Bytes.{AreBytes, is_one_of}
use Rattle.omf_frame.specs.Fields.{IsIndex, IsSpelledAt, IsUnspelled}
use Rattle.omf_records.specs.Values.{Rec}
use Rattle.omf_check.specs.Tables.{entry, externals}
use Rattle.omf_placement.specs.Derive.{named_externals}
use Rattle.omf_placement.specs.Inner.Pairing.{front_index}
use Rattle.omf_placement.specs.Weak.{indices, paired}
use Rattle.omf_placement.proofs.LinkageLaws.{drop-some, drop-past}
use Rattle.omf_placement.proofs.NamedLaws.{entry-suc, named-count}
use Rattle.omf_placement.proofs.WeakLaws as pairs
use Rattle.omf_library.specs.Inner.Weak.{AreMarks, is_marked}
use Rattle.omf_library.specs.Needed.{needed_name, weak_of}

-- The index at the front of a text, and none.
one_byte : (a n : ℕ) (other : Option (ℕ × ℕ)) → IsIndex n (a ∷ []) → Some (n, 1) ≡ (if nat_lt a 128 then Some (a, 1) else other)
one_byte a n other s = ap (λ (k : ℕ). Some (k, 1)) s.1 ∙ sym (cond-true (nat_lt a 128) (Some (a, 1)) other (lt-ltb a 128 s.0))

front_of : (bytes : List ℕ) (n to : ℕ) → to ≤ length bytes → IsIndex n (take to bytes) → Some (n, to) ≡ front_index bytes
front_of [] n zero l s = absurd s
front_of [] n (suc to) l s = absurd (omega (arith, l))
front_of (a ∷ []) n zero l s = absurd s
front_of (a ∷ []) n (suc zero) l s = one_byte a n None s
front_of (a ∷ []) n (suc (suc to)) l s = absurd (omega (arith, l))
front_of (a ∷ b ∷ rest) n zero l s = absurd s
front_of (a ∷ b ∷ rest) n (suc zero) l s = one_byte a n (Some ((a - 128) * 256 + b, 2)) s
front_of (a ∷ b ∷ rest) n (suc (suc zero)) l s =
    ap (λ (k : ℕ). Some (k, 2)) s.3 ∙ sym (cond-false (nat_lt a 128) (Some (a, 1)) (Some ((a - 128) * 256 + b, 2)) (le-ltb a 128 s.0))
front_of (a ∷ b ∷ []) n (suc (suc (suc to))) l s = absurd (omega (arith, l))
front_of (a ∷ b ∷ c ∷ rest) n (suc (suc (suc to))) l s = absurd s

front_is : (bytes : List ℕ) (n to : ℕ) → IsSpelledAt IsIndex bytes 0 n to → Some (n, to) ≡ front_index bytes
front_is bytes n to s =
    let whole : to - 0 ≡ to = omega arith in
    front_of bytes n to s.1 (subst (λ k. IsIndex n (take k bytes)) whole s.2)

front_none : (bytes : List ℕ) → AreBytes bytes → IsUnspelled IsIndex bytes → None ≡ front_index bytes
front_none [] are h = refl
front_none (a ∷ []) are h = elim (cases_lt a 128) [
  | inl l ↦ absurd (h a (a ∷ []) [] (l, refl) refl)
  | inr l ↦ sym (cond-false (nat_lt a 128) (Some (a, 1)) None (le-ltb a 128 l))
]
front_none (a ∷ b ∷ rest) are h = elim (cases_lt a 128) [
  | inl l ↦ absurd (h a (a ∷ []) (b ∷ rest) (l, refl) refl)
  | inr l ↦ absurd (h ((a - 128) * 256 + b) (a ∷ b ∷ []) rest (l, are 0, are 1, refl) refl)
]

pub next_index : (bytes : List ℕ) (n to : ℕ) → IsSpelledAt IsIndex bytes 0 n to → indices bytes ≡ n ∷ indices (drop to bytes)
next_index bytes n to s = pairs.next_index bytes n to (front_is bytes n to s)

pub no_index : (bytes : List ℕ) → AreBytes bytes → IsUnspelled IsIndex bytes → indices bytes ≡ []
no_index bytes are h = pairs.no_index bytes (front_none bytes are h)

-- The pair at the front of a text, half a pair, and none.

pub next_pair : (bytes middle rest : List ℕ) (w d : ℕ) → indices bytes ≡ w ∷ indices middle → indices middle ≡ d ∷ indices rest → weak_of bytes ≡ w ∷ weak_of rest
next_pair bytes middle rest w d e f = ap (λ is. map (λ p. p.weak) (paired is)) (e ∙ ap (λ is. w ∷ is) f)

pub half_pair : (bytes middle : List ℕ) (w : ℕ) → indices bytes ≡ w ∷ indices middle → indices middle ≡ [] → weak_of bytes ≡ []
half_pair bytes middle w e f = ap (λ is. map (λ p. p.weak) (paired is)) (e ∙ ap (λ is. w ∷ is) f)

pub no_pair : (bytes : List ℕ) → indices bytes ≡ [] → weak_of bytes ≡ []
no_pair bytes e = ap (λ is. map (λ p. p.weak) (paired is)) e

-- Marks: none, and one more.
pub no_marks : (n : ℕ) (marks : List Bool) → marks ≡ [] → AreMarks [] n marks
no_marks n marks e i h = ap (λ bs. is_marked bs i) e

pub marks_begin : (n size : ℕ) (marks : List Bool) → size ≡ n + 1 → marks ≡ replicate size false → AreMarks [] n marks
marks_begin n size marks s e i h = ap (λ bs. is_marked bs i) e ∙ get_or-replicate size i false false (omega (arith, s, h))

or_here : (b c : Bool) → c ≡ true → true ≡ (b || (c || false))
or_here true c e = refl
or_here false c e = sym (ap (λ t. t || false) e)

or_not : (b c : Bool) → c ≡ false → b ≡ (b || (c || false))
or_not true c e = refl
or_not false c e = sym (ap (λ t. t || false) e)

pub one_mark : (weak more : List ℕ) (n w : ℕ) (marks after : List Bool) → more ≡ weak ++ w ∷ [] → length marks ≡ n + 1 → after ≡ set marks w true → AreMarks weak n marks → AreMarks more n after
one_mark weak more n w marks after e size s h i low =
    let both : is_one_of more i ≡ (is_one_of weak i || ((w == i) || false)) = ap (λ ws. is_one_of ws i) e ∙ list_any-append (λ k. k == i) weak (w ∷ []) in
    elim (cases_Bool (w == i)) [
      | inl b ↦
          let same : i ≡ w = sym (eqb-true w i b) in
          ap (λ bs. is_marked bs i) s ∙ ap (λ k. get_or (set marks w true) k false) same ∙ get_or-set_same marks w true false (omega (arith, size, low, same))
          ∙ or_here (is_one_of weak i) (w == i) b ∙ sym both
      | inr b ↦
          let other : i ≢ w = λ k. eqb-false w i b (sym k) in
          ap (λ bs. is_marked bs i) s ∙ get_or-set_other marks w i true false other ∙ h i low ∙ or_not (is_one_of weak i) (w == i) b ∙ sym both
    ]

-- The names from an external on: the next, and none.
module _ (weak : List ℕ) (m : List Rec) where
  abbrev pub names_from : ℕ → List (List ℕ)
  names_from i = flat_map (needed_name weak) (enumerate_from i (drop (i - 1) (named_externals m)))

  pub next_name : (i : ℕ) (x : List ℕ × Bool) → 1 ≤ i → entry (named_externals m) i ≡ Some x → names_from i ≡ needed_name weak (i, x) ++ names_from (i + 1)
  next_name i x low e =
      let back : suc (i - 1) ≡ i = omega (arith, low) in
      let next : i - 1 + 1 ≡ i + 1 - 1 = omega (arith, low) in
      let s = drop-some (named_externals m) (i - 1) x (sym (entry-suc (named_externals m) (i - 1)) ∙ ap (entry (named_externals m)) back ∙ e) in
      ap (λ xs. flat_map (needed_name weak) (enumerate_from i xs)) (s ∙ ap (λ n. x ∷ drop n (named_externals m)) next)

  pub no_names : (i : ℕ) → length (externals m) + 1 ≤ i → names_from i ≡ []
  no_names i l = ap (λ xs. flat_map (needed_name weak) (enumerate_from i xs)) (drop-past (named_externals m) (i - 1) (omega (arith, l, named-count m)))
