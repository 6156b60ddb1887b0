-- The laws of members by need.
use Rattle.std.proofs.Common.{◌≡◌, ℕ, zero, suc, ◌+◌, ◌<◌, ◌≤◌, Bool, true, false, List, [], ◌∷◌, length, get_or, refl, sym, ap, ◌∙◌, subst, inl, inr, arith}
use Rattle.std.specs.Prelude.{Option, Some, None, option_map, slice_get, ◌||◌, if◌then◌else◌, All, Contains}
use Rattle.std.specs.List.Sorted.{IsStrictlyIncreasing}
use Rattle.std.proofs.lemmas.Bool.{cases_Bool}
use Rattle.std.proofs.lemmas.List.Elements.{Contains-get_or}
use Rattle.std.proofs.lemmas.Option.{none-some, same_Some}
use Rattle.omf_library.specs.Needed.{Linkage, has_name, is_defined, definer, member_of}
use Rattle.omf_library.specs.NeededLaws.{IsFirst, MembersAreFirst, NeededAreUnique, UndefinedAreNowhere}

-- Lists in rising order with the same elements are one.
rest-rises : (x : ℕ) (xs : List ℕ) → IsStrictlyIncreasing (x ∷ xs) → IsStrictlyIncreasing xs
rest-rises x xs up k h =
    let same : suc k + 1 ≡ suc (k + 1) = omega arith in
    subst (λ n. get_or (x ∷ xs) (suc k) 0 < get_or (x ∷ xs) n 0) same (up (suc k) (omega (arith, h)))

least-first : (x : ℕ) (xs : List ℕ) → IsStrictlyIncreasing (x ∷ xs) → (k d : ℕ) → k < length xs → x < get_or xs k d
least-first x (y ∷ ys) up zero d h = up 0 (omega arith)
least-first x (y ∷ ys) up (suc k) d h =
    let first : x < y = up 0 (omega arith) in
    let rest = least-first y ys (rest-rises x (y ∷ ys) up) k d (omega (arith, h)) in
    omega (arith, first, rest)
least-first x [] up k d h = absurd (omega (arith, h))

in-rest : (x : ℕ) (xs : List ℕ) (y : ℕ) → x < y → Contains (x ∷ xs) y → Contains xs y
in-rest x xs y l c = at c.0 c.1 c.2 where
  at : (k : ℕ) → k < length (x ∷ xs) → get_or (x ∷ xs) k y ≡ y → Contains xs y
  at zero h e = absurd (omega (arith, l, e))
  at (suc k) h e = (k, omega (arith, h), e)

same-rising : (xs ys : List ℕ) → IsStrictlyIncreasing xs → IsStrictlyIncreasing ys → All (Contains ys) xs → All (Contains xs) ys → xs ≡ ys
same-rising [] [] up vp a b = refl
same-rising [] (y ∷ ys) up vp a b = let c = b 0 y (omega arith) in let l = c.1 in absurd (omega (arith, l))
same-rising (x ∷ xs) [] up vp a b = let c = a 0 x (omega arith) in let l = c.1 in absurd (omega (arith, l))
same-rising (x ∷ xs) (y ∷ ys) up vp a b =
    let e : x ≡ y = same-first (a 0 x (omega arith)) (b 0 y (omega arith)) in
    let less : (k d : ℕ) → k < length xs → x < get_or xs k d = least-first x xs up in
    let more : (k d : ℕ) → k < length ys → y < get_or ys k d = least-first y ys vp in
    let rest : xs ≡ ys = same-rising xs ys (rest-rises x xs up) (rest-rises y ys vp)
    (λ k d h. in-rest y ys (get_or xs k d) (subst (λ z. z < get_or xs k d) e (less k d h)) (a (suc k) d (omega (arith, h))))
    (λ k d h. in-rest x xs (get_or ys k d) (subst (λ z. z < get_or ys k d) (sym e) (more k d h)) (b (suc k) d (omega (arith, h)))) in
    ap (λ z. z ∷ xs) e ∙ ap (λ zs. y ∷ zs) rest
  where
    first-or-more : (z : ℕ) (zs : List ℕ) → IsStrictlyIncreasing (z ∷ zs) → (w : ℕ) → Contains (z ∷ zs) w → z ≤ w
    first-or-more z zs zp w c = at c.0 c.1 c.2 where
      at : (k : ℕ) → k < length (z ∷ zs) → get_or (z ∷ zs) k w ≡ w → z ≤ w
      at zero h f = omega (arith, f)
      at (suc k) h f = let l = least-first z zs zp k w (omega (arith, h)) in omega (arith, l, f)

    same-first : Contains (y ∷ ys) x → Contains (x ∷ xs) y → x ≡ y
    same-first c d =
        let l = first-or-more y ys vp x c in
        let m = first-or-more x xs up y d in
        omega (arith, l, m)

pub unique : NeededAreUnique
unique o one other n m = same-rising one other n.ascending m.ascending (n.least other m.closed) (m.least one n.closed)

-- Definers.
no-left : (b c : Bool) → (b || c) ≡ false → b ≡ false
no-left true c e = absurd cc
no-left false c e = refl

no-right : (b c : Bool) → (b || c) ≡ false → c ≡ false
no-right true c e = absurd cc
no-right false c e = e

pub none-defines : (ms : List Linkage) (name : List ℕ) → is_defined ms name ≡ false → (k : ℕ) (d : Linkage) → k < length ms → has_name (get_or ms k d).publics name ≡ false
none-defines [] name e k d h = absurd (omega (arith, h))
none-defines (m ∷ ms) name e zero d h = no-left (has_name m.publics name) (is_defined ms name) e
none-defines (m ∷ ms) name e (suc k) d h = none-defines ms name (no-right (has_name m.publics name) (is_defined ms name) e) k d (omega (arith, h))

not-defined : (ms : List Linkage) (name : List ℕ) → ((k : ℕ) (d : Linkage) → k < length ms → has_name (get_or ms k d).publics name ≡ false) → is_defined ms name ≡ false
not-defined [] name h = refl
not-defined (m ∷ ms) name h = ap (λ b. b || is_defined ms name) (h 0 m (omega arith)) ∙ not-defined ms name (λ k d l. h (suc k) d (omega (arith, l)))

none-contained : (ms : List Linkage) (name : List ℕ) → is_defined ms name ≡ false → (m : Linkage) → Contains ms m → has_name m.publics name ≡ false
none-contained ms name e m c = subst (λ x. has_name x.publics name ≡ false) c.2 (none-defines ms name e c.0 m c.1)

pub contained-none : (ms : List Linkage) (name : List ℕ) → ((m : Linkage) → Contains ms m → has_name m.publics name ≡ false) → is_defined ms name ≡ false
contained-none ms name h = not-defined ms name (λ k d l. h (get_or ms k d) (Contains-get_or ms k d l))

-- What is known of the first of several members that defines a name.
pub record IsFirstOf (ms : List Linkage) (name : List ℕ) (n : ℕ) : Type 0 where
  pub member : Linkage
  pub here : slice_get ms n ≡ Some member
  pub defines : has_name member.publics name ≡ true
  pub first : (i : ℕ) (m : Linkage) → i < n → slice_get ms i ≡ Some m → has_name m.publics name ≡ false

first-later : (m : Linkage) (ms : List Linkage) (name : List ℕ) (n k : ℕ) → k ≡ suc n → has_name m.publics name ≡ false → IsFirstOf ms name n → IsFirstOf (m ∷ ms) name k
first-later m ms name n k e out f = subst (IsFirstOf (m ∷ ms) name) (sym e) (record { member = f.member; here = f.here; defines = f.defines; first = before }) where
  before : (i : ℕ) (x : Linkage) → i < suc n → slice_get (m ∷ ms) i ≡ Some x → has_name x.publics name ≡ false
  before zero x l s = subst (λ y. has_name y.publics name ≡ false) (same_Some m x s) out
  before (suc i) x l s = f.first i x (omega (arith, l)) s

first-after : (m : Linkage) (ms : List Linkage) (name : List ℕ) (n : ℕ) (r : Option ℕ) → ((j : ℕ) → r ≡ Some j → IsFirstOf ms name j) → option_map (λ j. j + 1) r ≡ Some n → has_name m.publics name ≡ false → IsFirstOf (m ∷ ms) name n
first-after m ms name n None f g out = absurd (none-some n g)
first-after m ms name n (Some j) f g out = let s : j + 1 ≡ n = same_Some (j + 1) n g in first-later m ms name j n (omega (arith, s)) out (f j refl)

pub definer-is : (ms : List Linkage) (name : List ℕ) (n : ℕ) → definer ms name ≡ Some n → IsFirstOf ms name n
definer-is [] name n e = absurd (none-some n e)
definer-is (m ∷ ms) name n e = elim (cases_Bool (has_name m.publics name)) [
  | inl b ↦
      let zero_is : 0 ≡ n = same_Some 0 n (sym (ap (λ t. if t then Some 0 else option_map (λ j. j + 1) (definer ms name)) b) ∙ e) in
      subst (IsFirstOf (m ∷ ms) name) zero_is (record { member = m; here = refl; defines = b; first = λ i x l s. absurd (omega (arith, l)) })
  | inr b ↦ first-after m ms name n (definer ms name) (λ j f. definer-is ms name j f) (sym (ap (λ t. if t then Some 0 else option_map (λ j. j + 1) (definer ms name)) b) ∙ e) b
]

is-definer : (ms : List Linkage) (name : List ℕ) (n : ℕ) → IsFirstOf ms name n → definer ms name ≡ Some n
is-definer [] name n f = absurd (none-some f.member f.here)
is-definer (m ∷ ms) name zero f =
    ap (λ t. if t then Some 0 else option_map (λ j. j + 1) (definer ms name)) (subst (λ x. has_name x.publics name ≡ true) (sym (same_Some m f.member f.here)) f.defines)
is-definer (m ∷ ms) name (suc n) f =
    ap (λ t. if t then Some 0 else option_map (λ j. j + 1) (definer ms name)) (f.first 0 m (omega arith) refl)
    ∙ ap (option_map (λ j. j + 1)) (is-definer ms name n (record { member = f.member; here = f.here; defines = f.defines; first = λ i x l s. f.first (suc i) x (omega (arith, l)) s }))
    ∙ ap (λ (j : ℕ). Some j) (omega arith)

pub members-first : MembersAreFirst
members-first o name n = (to, from) where
  to : member_of o name ≡ Some n → IsFirst o name n
  to e = elim (cases_Bool (is_defined o.given name)) [
    | inl b ↦ absurd (none-some n (sym (ap (λ t. if t then None else definer o.members name) b) ∙ e))
    | inr b ↦
        let f = definer-is o.members name n (sym (ap (λ t. if t then None else definer o.members name) b) ∙ e) in
        record { member = f.member; here = f.here; defines = f.defines; first = f.first; not_given = none-contained o.given name b }
  ]

  from : IsFirst o name n → member_of o name ≡ Some n
  from f =
      ap (λ t. if t then None else definer o.members name) (contained-none o.given name f.not_given)
      ∙ is-definer o.members name n (record { member = f.member; here = f.here; defines = f.defines; first = f.first })

pub no-definer : (ms : List Linkage) (name : List ℕ) → definer ms name ≡ None → is_defined ms name ≡ false
no-definer [] name e = refl
no-definer (m ∷ ms) name e = elim (cases_Bool (has_name m.publics name)) [
  | inl b ↦ absurd (none-some 0 (sym e ∙ ap (λ t. if t then Some 0 else option_map (λ j. j + 1) (definer ms name)) b))
  | inr b ↦ ap (λ t. t || is_defined ms name) b ∙ no-definer ms name (none-before (definer ms name) (sym (ap (λ t. if t then Some 0 else option_map (λ j. j + 1) (definer ms name)) b) ∙ e))
] where
  none-before : (r : Option ℕ) → option_map (λ j. j + 1) r ≡ None → r ≡ None
  none-before None f = refl
  none-before (Some j) f = absurd (none-some (j + 1) (sym f))

pub nowhere : UndefinedAreNowhere
nowhere o numbers m name needed part ext none = by (definer o.members name) refl where
  ungiven : is_defined o.given name ≡ false
  ungiven = contained-none o.given name (λ d c. none d (inl c))

  by : (r : Option ℕ) → definer o.members name ≡ r → is_defined o.members name ≡ false
  by None e = no-definer o.members name e
  by (Some n) e =
      let f = definer-is o.members name n e in
      let joined : Contains numbers n = needed.closed m n part (name, ext, ap (λ t. if t then None else definer o.members name) ungiven ∙ e) in
      let clash : true ≡ false = sym f.defines ∙ none f.member (inr (n, joined, f.here)) in
      absurd cc
