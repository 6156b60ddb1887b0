-- Each segment is in the order as often as its module has it.
use Rattle.std.proofs.Common.{◌≡◌, ℕ, ◌+◌, List, [], ◌∷◌, ◌++◌, length, Bool, true, false, refl, sym, ap, ap₂, ◌∙◌, subst, inl, inr, length-append, append_assoc, arith}
use Rattle.std.specs.Prelude.{map, flat_map, not, Some, None, cond, bytes_eq, ◌||◌}
use Rattle.std.specs.List.{filter, cons_option}
use Rattle.std.proofs.lemmas.Bool.{cond-true, cond-false, cases_Bool, or_parts}
use Rattle.std.proofs.lemmas.List.Elements.{filter-append}
use Rattle.omf_layout.specs.declared.several.portion.Combination.{Combination}
use Rattle.omf_layout.specs.declared.several.portion.Combination.TheVariants.{Joined, Common, Alone}
use Rattle.omf_layout.specs.declared.several.portion.Portion.{Portion}
use Rattle.omf_layout.specs.Several.Gathered.{distinct, of_name, names_in, gathered}
use Rattle.omf_layout.specs.Several.Laws.{count, OrderedOnce}
use Rattle.omf_layout.specs.Several.Order.{runs_in, runs, is_named, nameless_last, lies_by, is_same_combination, combined_by, in_order}
use Rattle.omf_layout.specs.Several.Portions.{Named, Classed, portions}
use Rattle.omf_layout.proofs.SeveralLaws.GatherLaws.{Name, has, other, same, itself, back, dropped, kept, has-self, has-distinct, Once, once-distinct, of-none}

pub count-both : {A : Type 0} (t : A → Bool) (xs ys : List A) → count t (xs ++ ys) ≡ count t xs + count t ys
count-both t xs ys = ap length (filter-append t xs ys) ∙ length-append (filter t xs) (filter t ys)

pub count-seen : {A B : Type 0} (t : B → Bool) (f : A → B) (xs : List A) → count t (map f xs) ≡ count (λ x. t (f x)) xs
count-seen t f [] = refl
count-seen t f (x ∷ xs) =
    count-both t (f x ∷ []) (map f xs) ∙ ap₂ (λ a b. a + b) (one (t (f x))) (count-seen t f xs) ∙ sym (count-both (λ y. t (f y)) (x ∷ []) xs) where
      one : (b : Bool) → length (cond b (f x ∷ []) []) ≡ length (cond b (x ∷ []) [])
      one true = refl
      one false = refl

-- What passes a test, and then what does not.
count-parted : {A : Type 0} (t s : A → Bool) (xs : List A) → count t (filter s xs ++ filter (λ x. not (s x)) xs) ≡ count t xs
count-parted t s [] = refl
count-parted {A} t s (x ∷ xs) =
    let fails : A → Bool = λ y. not (s y) in
    let rest = count-parted t s xs in
    let all = count-both t (x ∷ []) xs in
    let both = count-both t (filter s xs) (filter fails xs) in
    elim (cases_Bool (s x)) [
      | inl y ↦
          let split = ap₂ (λ us vs. count t (us ++ vs)) (cond-true (s x) (x ∷ filter s xs) (filter s xs) y) (cond-false (fails x) (x ∷ filter fails xs) (filter fails xs) (ap not y)) in
          let first = count-both t (x ∷ []) (filter s xs ++ filter fails xs) in
          omega (arith, rest, all, split, first)
      | inr n ↦
          let split = ap₂ (λ us vs. count t (us ++ vs)) (cond-false (s x) (x ∷ filter s xs) (filter s xs) n) (cond-true (fails x) (x ∷ filter fails xs) (filter fails xs) (ap not n)) in
          let first = count-both t (filter s xs) (x ∷ filter fails xs) in
          let one = count-both t (x ∷ []) (filter fails xs) in
          omega (arith, rest, all, both, split, first, one)
    ]

-- A name that does not appear is not filtered out.
all-kept : (n : Name) (ns : List Name) → has n ns ≡ false → filter (other n) ns ≡ ns
all-kept n [] h = refl
all-kept n (y ∷ ys) h = let parts = or_parts (bytes_eq n y) (has n ys) h in kept n y ys parts.0 ∙ ap (λ zs. y ∷ zs) (all-kept n ys parts.1)

module _ {A : Type 0} (t : A → Bool) where
  -- Of names that appear once, one and the others.
  pull : (f : Name → List A) (n : Name) (ns : List Name) → Once ns → has n ns ≡ true → count t (flat_map f ns) ≡ count t (f n) + count t (flat_map f (filter (other n) ns))
  pull f n [] o h = absurd cc
  pull f n (y ∷ ys) o h = elim (cases_Bool (bytes_eq n y)) [
    | inl b ↦
        let e = same n y b in
        let absent : has n ys ≡ false = subst (λ z. has z ys ≡ false) (sym e) o.0 in
        count-both t (f y) (flat_map f ys) ∙ ap₂ (λ z zs. count t (f z) + count t (flat_map f zs)) (sym e) (sym (all-kept n ys absent) ∙ sym (dropped n y ys b))
    | inr b ↦
        let there : has n ys ≡ true = sym (ap (λ z. z || has n ys) b) ∙ h in
        let rest = pull f n ys o.1 there in
        let whole = count-both t (f y) (flat_map f ys) in
        let others = ap (λ zs. count t (flat_map f zs)) (kept n y ys b) ∙ count-both t (f y) (flat_map f (filter (other n) ys)) in
        omega (arith, rest, whole, others)
  ]

  -- The values of other names.
  of-others : (x : Named A) (xs : List (Named A)) (ns : List Name) → has x.0 ns ≡ false → flat_map (of_name (x ∷ xs)) ns ≡ flat_map (of_name xs) ns
  of-others x xs [] h = refl
  of-others x xs (n ∷ ns) h =
      let parts = or_parts (bytes_eq x.0 n) (has x.0 ns) h in
      ap₂ (λ a b. a ++ b) (ap (λ o. cons_option o (of_name xs n)) (cond-false (bytes_eq n x.0) (Some x.1) None (back x.0 n parts.0))) (of-others x xs ns parts.1)

  of-itself : (x : Named A) (xs : List (Named A)) → of_name (x ∷ xs) x.0 ≡ x.1 ∷ of_name xs x.0
  of-itself x xs = ap (λ o. cons_option o (of_name xs x.0)) (cond-true (bytes_eq x.0 x.0) (Some x.1) None (itself x.0))

  by-name : (xs : List (Named A)) → count t (flat_map (of_name xs) (distinct (names_in xs))) ≡ count t (map (λ x. x.1) xs)
  by-name [] = refl
  by-name (x ∷ xs) =
      let ds = distinct (names_in xs) in
      let es = filter (other x.0) ds in
      let f = of_name xs in
      let whole = ap₂ (λ a b. count t (a ++ b)) (of-itself x xs) (of-others x xs es (has-self x.0 ds)) in
      let front = count-both t (x.1 ∷ f x.0) (flat_map f es) in
      let first = count-both t (x.1 ∷ []) (f x.0) in
      let last = count-both t (x.1 ∷ []) (map (λ y. y.1) xs) in
      let rest = by-name xs in
      elim (cases_Bool (has x.0 ds)) [
        | inl b ↦ let parts = pull f x.0 ds (once-distinct (names_in xs)) b in omega (arith, whole, front, first, last, rest, parts)
        | inr b ↦
            let none = ap (count t) (of-none xs x.0 (sym (has-distinct x.0 (names_in xs)) ∙ b)) in
            let same_rest = ap (λ zs. count t (flat_map f zs)) (all-kept x.0 ds b) in
            omega (arith, whole, front, first, last, rest, none, same_rest)
      ]

  flat-mapped : {B : Type 0} (f : B → List A) (bs : List B) → flat_map (λ r. r) (map f bs) ≡ flat_map f bs
  flat-mapped f [] = refl
  flat-mapped f (b ∷ bs) = ap (λ ys. f b ++ ys) (flat-mapped f bs)

  pub gathered-once : (xs : List (Named A)) → count t (flat_map (λ r. r) (gathered xs)) ≡ count t (map (λ x. x.1) xs)
  gathered-once xs = ap (count t) (flat-mapped (of_name xs) (distinct (names_in xs))) ∙ by-name xs

-- The names of the classes, each once.
flat-both : {A : Type 0} (rs ss : List (List A)) → flat_map (λ r. r) (rs ++ ss) ≡ flat_map (λ r. r) rs ++ flat_map (λ r. r) ss
flat-both [] ss = refl
flat-both (r ∷ rs) ss = ap (λ ys. r ++ ys) (flat-both rs ss) ∙ sym (append_assoc r (flat_map (λ r. r) rs) (flat_map (λ r. r) ss))

classes-once : {A : Type 0} (t : A → Bool) (cs : List (List (Named A))) → count t (flat_map (λ r. r) (flat_map gathered cs)) ≡ count (λ (x : Named A). t x.1) (flat_map (λ r. r) cs)
classes-once t [] = refl
classes-once t (c ∷ cs) =
    ap (count t) (flat-both (gathered c) (flat_map gathered cs)) ∙ count-both t (flat_map (λ r. r) (gathered c)) (flat_map (λ r. r) (flat_map gathered cs))
    ∙ ap₂ (λ a b. a + b) (gathered-once t c ∙ count-seen t (λ x. x.1) c) (classes-once t cs) ∙ sym (count-both (λ x. t x.1) c (flat_map (λ r. r) cs))

runs-once : {A : Type 0} (t : A → Bool) (xs : List (Classed A)) → count t (flat_map (λ r. r) (runs_in xs)) ≡ count t (map (λ x. x.1.1) xs)
runs-once t xs = classes-once t (gathered xs) ∙ gathered-once (λ x. t x.1) xs ∙ count-seen (λ x. t x.1) (λ x. x.1) xs ∙ sym (count-seen t (λ x. x.1.1) xs)

-- A run in its order.
module _ (t : Portion → Bool) where
  abbrev one : Combination → Combination → Portion → ℕ
  one c k p = count t (cond (is_same_combination c k) (p ∷ []) [])

  one-of-three : (k : Combination) (p : Portion) → one Joined k p + (one Common k p + one Alone k p) ≡ count t (p ∷ [])
  one-of-three Joined p = omega arith
  one-of-three Common p = omega arith
  one-of-three Alone p = omega arith

  first-by : (c : Combination) (p : Portion) (ps : List Portion) → count t (combined_by c (p ∷ ps)) ≡ one c (lies_by p.segment.absolute p.combination) p + count t (combined_by c ps)
  first-by c p ps = split (is_same_combination c (lies_by p.segment.absolute p.combination)) where
    split : (b : Bool) → count t (cond b (p ∷ combined_by c ps) (combined_by c ps)) ≡ count t (cond b (p ∷ []) []) + count t (combined_by c ps)
    split true = count-both t (p ∷ []) (combined_by c ps)
    split false = omega arith

  three : (ps : List Portion) → count t (combined_by Joined ps) + (count t (combined_by Common ps) + count t (combined_by Alone ps)) ≡ count t ps
  three [] = refl
  three (p ∷ ps) = omega (arith, first-by Joined p ps, first-by Common p ps, first-by Alone p ps, one-of-three (lies_by p.segment.absolute p.combination) p, three ps, count-both t (p ∷ []) ps)

  in-order : (run : List Portion) → count t (in_order run) ≡ count t run
  in-order run =
      count-both t (combined_by Joined run) (combined_by Common run ++ combined_by Alone run)
      ∙ ap (λ n. count t (combined_by Joined run) + n) (count-both t (combined_by Common run) (combined_by Alone run)) ∙ three run

  all-in-order : (rs : List (List Portion)) → count t (flat_map in_order rs) ≡ count t (flat_map (λ r. r) rs)
  all-in-order [] = refl
  all-in-order (r ∷ rs) = count-both t (in_order r) (flat_map in_order rs) ∙ ap₂ (λ a b. a + b) (in-order r) (all-in-order rs) ∙ sym (count-both t r (flat_map (λ r. r) rs))

pub ordered-once : OrderedOnce
ordered-once ms t =
    let portion : Classed Portion → Portion = λ x. x.1.1 in
    all-in-order t (runs ms) ∙ runs-once t (nameless_last (portions ms)) ∙ count-seen t portion (nameless_last (portions ms))
    ∙ count-parted (λ x. t (portion x)) (λ x. is_named (portion x)) (portions ms) ∙ sym (count-seen t portion (portions ms))
