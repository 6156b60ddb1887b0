-- Arguments, part by part.
use Rattle.std.proofs.Math.Seq.{take-length}
use Rattle.std.proofs.lemmas.List.{length-append}
use Rattle.std.proofs.Common.{◌+◌, ◌-◌, ◌≤◌, arith, inl, inr, length, get_or, take, drop, ◌≡◌, ℕ, List, [], ◌∷◌, ◌++◌, Bool, true, false, Option, Some, None, refl, sym, subst, ap, ap₂, ◌∙◌, append_assoc, append-nil, cond}
use Rattle.std.specs.Prelude.{◌⊎◌, ◌||◌, bytes_eq, codes, flat_map, map, option_map, option_to_list, string_bytes}
use Rattle.std.proofs.lemmas.Grind.{flat_map-append}
use Rattle.std.proofs.lemmas.Slice.Eq.{bytes_eq-Decides}
use Rattle.omf_drafting.specs.declared.asked.Asked.{Asked}
use Rattle.omf_drafting.specs.Asked.{AreSorted, IsAdded, IsAddedOnce, Part, file_in, is_file, is_output, is_text, is_valued, option_in, output_in, parts_of, takes_value, text_in}

-- ---- the front of the arguments

pub alone_first : (a : List ℕ) (rest : List (List ℕ)) → takes_value a ≡ false → parts_of (a ∷ rest) ≡ option_map (λ ps. record { name = a; value = None } ∷ ps) (parts_of rest)
alone_first a [] e = ap (λ (b : Bool). elim b [ true ↦ None | false ↦ Some (record { name = a; value = None } ∷ []) ]) e
alone_first a (b ∷ rest) e =
    ap (λ (t : Bool). elim t [
      | true ↦ option_map (λ ps. record { name = a; value = Some b } ∷ ps) (parts_of rest)
      | false ↦ option_map (λ ps. record { name = a; value = None } ∷ ps) (parts_of (b ∷ rest))
    ]) e

pub pair_first : (a b : List ℕ) (rest : List (List ℕ)) → takes_value a ≡ true → parts_of (a ∷ b ∷ rest) ≡ option_map (λ ps. record { name = a; value = Some b } ∷ ps) (parts_of rest)
pair_first a b rest e =
    ap (λ (t : Bool). elim t [
      | true ↦ option_map (λ ps. record { name = a; value = Some b } ∷ ps) (parts_of rest)
      | false ↦ option_map (λ ps. record { name = a; value = None } ∷ ps) (parts_of (b ∷ rest))
    ]) e

pub none_last : (a : List ℕ) → takes_value a ≡ true → parts_of (a ∷ []) ≡ None
none_last a e = ap (λ (b : Bool). elim b [ true ↦ None | false ↦ Some (record { name = a; value = None } ∷ []) ]) e

-- ---- one more part

one_more : (f : Part → List (List ℕ)) (front new old : List (List ℕ)) (done : List Part) (p : Part) → new ≡ old ++ f p → old ≡ front ++ flat_map f done → new ≡ front ++ flat_map f (done ++ p ∷ [])
one_more f front new old done p e h =
    e ∙ ap (λ (xs : List (List ℕ)). xs ++ f p) h ∙ append_assoc front (flat_map f done) (f p)
    ∙ ap (λ (xs : List (List ℕ)). front ++ xs) (ap (λ (xs : List (List ℕ)). flat_map f done ++ xs) (sym (append-nil (f p))) ∙ sym (flat_map-append f done (p ∷ [])))

sorted_more : (first : List (List ℕ)) (done : List Part) (old new : Asked) (p : Part) → AreSorted first done old → IsAdded old new p → AreSorted first (done ++ p ∷ []) new
sorted_more first done old new p h a = record {
  words = one_more option_in first _ _ done p a.words h.words;
  files = one_more file_in [] _ _ done p a.files h.files;
  text = one_more text_in [] _ _ done p a.text h.text;
  output = one_more output_in [] _ _ done p a.output h.output;
}

-- ---- arguments so far

-- the parts so far are sorted; with those of the rest they are the parts of all
pub record Going (first all rest : List (List ℕ)) (asked : Asked) : Type 0 where
  pub done : List Part
  pub sorted : AreSorted first done asked
  pub parts : option_map (λ ps. done ++ ps) (parts_of rest) ≡ parts_of all

joined : (done : List Part) (p : Part) (o : Option (List Part)) → option_map (λ ps. (done ++ p ∷ []) ++ ps) o ≡ option_map (λ ps. done ++ ps) (option_map (λ ps. p ∷ ps) o)
joined done p None = refl
joined done p (Some ps) = ap Some (append_assoc done (p ∷ []) ps)

pub going_on : (first all rest left : List (List ℕ)) (old new : Asked) (p : Part) → parts_of rest ≡ option_map (λ ps. p ∷ ps) (parts_of left) → IsAdded old new p → Going first all rest old → Going first all left new
going_on first all rest left old new p e a g = record {
  done = g.done ++ p ∷ [];
  sorted = sorted_more first g.done old new p g.sorted a;
  parts = joined g.done p (parts_of left) ∙ ap (option_map (λ ps. g.done ++ ps)) (sym e) ∙ g.parts;
}

-- ---- a second text or output

long : (f : Part → List (List ℕ)) (done ps : List Part) (p : Part) (old : List (List ℕ)) → old ≡ flat_map f done → 2 ≤ length (old ++ f p) → 2 ≤ length (flat_map f (done ++ p ∷ ps))
long f done ps p old is h =
    let all : length (flat_map f (done ++ p ∷ ps)) ≡ length (flat_map f done ++ (f p ++ flat_map f ps)) = ap length (flat_map-append f done (p ∷ ps)) in
    let outer = length-append (flat_map f done) (f p ++ flat_map f ps) in
    let inner = length-append (f p) (flat_map f ps) in
    let before : length (old ++ f p) ≡ length (flat_map f done) + length (f p) = length-append old (f p) ∙ ap (λ (xs : List (List ℕ)). length xs + length (f p)) is in
    omega (arith, all, outer, inner, before, h)

module _ (first all rest left : List (List ℕ)) (old new : Asked) (p : Part) (front : parts_of rest ≡ option_map (λ ps. p ∷ ps) (parts_of left)) (g : Going first all rest old) (again : IsAddedOnce old new p false) where
  too_long : (ps : List Part) → (2 ≤ length (map string_bytes (option_to_list old.text) ++ text_in p)) ⊎ (2 ≤ length (map string_bytes (option_to_list old.output) ++ output_in p))
      → (2 ≤ length (flat_map text_in (g.done ++ p ∷ ps))) ⊎ (2 ≤ length (flat_map output_in (g.done ++ p ∷ ps)))
  too_long ps (inl h) = inl (long text_in g.done ps p _ g.sorted.text h)
  too_long ps (inr h) = inr (long output_in g.done ps p _ g.sorted.output h)

  by : (o : Option (List Part)) → parts_of left ≡ o → (parts_of all ≡ None) ⊎ ((ps : List Part) × (parts_of all ≡ Some ps) × ((2 ≤ length (flat_map text_in ps)) ⊎ (2 ≤ length (flat_map output_in ps))))
  by None e = inl (sym g.parts ∙ ap (option_map (λ ps. g.done ++ ps)) (front ∙ ap (option_map (λ ps. p ∷ ps)) e))
  by (Some ps) e = inr (g.done ++ p ∷ ps, sym g.parts ∙ ap (option_map (λ qs. g.done ++ qs)) (front ∙ ap (option_map (λ qs. p ∷ qs)) e), too_long ps again)

  pub twice : (parts_of all ≡ None) ⊎ ((ps : List Part) × (parts_of all ≡ Some ps) × ((2 ≤ length (flat_map text_in ps)) ⊎ (2 ≤ length (flat_map output_in ps))))
  twice = by (parts_of left) refl

-- the first argument, and the others
pub front_is : {X Y : Type 0} (f : X → Y) (xs : List X) (x : X) → 1 ≤ length xs → x ≡ get_or xs 0 x → map f xs ≡ f x ∷ map f (take (length xs - 1) (drop 1 xs))
front_is f [] x some is = absurd (omega (arith, some))
front_is f (y ∷ ys) x some is =
    let n : length (y ∷ ys) - 1 ≡ length ys = omega arith in
    ap (λ z. f z ∷ map f ys) (sym is) ∙ ap (λ zs. f x ∷ map f zs) (sym (ap (λ (k : ℕ). take k ys) n ∙ take-length ys))

-- ---- an option that takes a value

abbrev is_other : List ℕ → Bool
is_other a = is_text a || (is_output a || is_file a)

abbrev one_of : List ℕ → List (List ℕ) → Bool
one_of a [] = false
one_of a (l ∷ []) = bytes_eq a l
one_of a (l ∷ k ∷ ls) = bytes_eq a l || one_of a (k ∷ ls)

abbrev none_other : List (List ℕ) → Bool
none_other [] = true
none_other (l ∷ ls) = cond (is_other l) false (none_other ls)

split : (b r : Bool) → cond b false r ≡ true → (b ≡ false) × (r ≡ true)
split true r e = absurd cc
split false r e = (refl, e)

one_is : (a l : List ℕ) → is_other l ≡ false → bytes_eq a l ≡ true → is_other a ≡ false
one_is a l h e = subst (λ x. is_other x ≡ false) (sym ((bytes_eq-Decides a l).0 e)) h

never : (a : List ℕ) → false ≡ true → is_other a ≡ false
never a e = absurd cc

no_other : (a : List ℕ) (ls : List (List ℕ)) → none_other ls ≡ true → one_of a ls ≡ true → is_other a ≡ false
no_other a [] h e = never a e
no_other a (l ∷ []) h e = one_is a l (split (is_other l) true h).0 e
no_other a (l ∷ k ∷ ls) h e = by (bytes_eq a l) refl e (no_other a (k ∷ ls) s.1)
  where
    s : (is_other l ≡ false) × (none_other (k ∷ ls) ≡ true)
    s = split (is_other l) (none_other (k ∷ ls)) h

    by : (b : Bool) → bytes_eq a l ≡ b → (b || one_of a (k ∷ ls)) ≡ true → (one_of a (k ∷ ls) ≡ true → is_other a ≡ false) → is_other a ≡ false
    by true f g rest = one_is a l s.0 f
    by false f g rest = rest g

abbrev valued : List (List ℕ)
valued = codes "--base" ∷ codes "--flat" ∷ codes "--size" ∷ codes "--fill" ∷ codes "--addresses" ∷ codes "--map" ∷ codes "--symbols" ∷ codes "--library-path" ∷ codes "-L" ∷ codes "--no-default-library" ∷ codes "--stack" ∷ codes "--max-alloc" ∷ codes "--order" ∷ codes "--allow" ∷ []

valued_is_no_other : (a : List ℕ) → is_valued a ≡ true → is_other a ≡ false
valued_is_no_other a h = no_other a valued refl h

-- What such an option is: the first of its words is its name, the second its value.
pub valued_option : (a : List ℕ) → is_valued a ≡ true → (v : List ℕ) → option_in (record { name = a; value = Some v }) ≡ a ∷ v ∷ []
valued_option a h v = ap (λ b. cond b [] (a ∷ v ∷ [])) (valued_is_no_other a h)

parts_false : (t o f : Bool) → (t || (o || f)) ≡ false → (t ≡ false) × (o ≡ false) × (f ≡ false)
parts_false true o f e = absurd cc
parts_false false true f e = absurd cc
parts_false false false true e = absurd cc
parts_false false false false e = (refl, refl, refl)

pub valued_no_file : (a : List ℕ) → is_valued a ≡ true → (v : List ℕ) → file_in (record { name = a; value = Some v }) ≡ []
valued_no_file a h v = ap (λ b. cond b (a ∷ []) []) (parts_false (is_text a) (is_output a) (is_file a) (valued_is_no_other a h)).2

pub valued_no_text : (a : List ℕ) → is_valued a ≡ true → (v : List ℕ) → text_in (record { name = a; value = Some v }) ≡ []
valued_no_text a h v = ap (λ b. cond b (v ∷ []) []) (parts_false (is_text a) (is_output a) (is_file a) (valued_is_no_other a h)).0

pub valued_no_output : (a : List ℕ) → is_valued a ≡ true → (v : List ℕ) → output_in (record { name = a; value = Some v }) ≡ []
valued_no_output a h v = ap (λ b. cond b (v ∷ []) []) (parts_false (is_text a) (is_output a) (is_file a) (valued_is_no_other a h)).1

-- Two words after others, as their bytes.
pub two_words : {A : Type 0} (f : A → List ℕ) (xs ys zs : List A) (x y : A) (a b : List ℕ) → ys ≡ xs ++ x ∷ [] → zs ≡ ys ++ y ∷ [] → f x ≡ a → f y ≡ b → map f zs ≡ map f xs ++ a ∷ b ∷ []
two_words {A = A} f xs ys zs x y a b e g p q =
    ap (map f) (g ∙ ap (λ l. l ++ y ∷ []) e ∙ append_assoc xs (x ∷ []) (y ∷ []))
    ∙ spread xs
    ∙ ap₂ (λ k l. map f xs ++ k ∷ l ∷ []) p q
  where
    spread : (l : List A) → map f (l ++ x ∷ y ∷ []) ≡ map f l ++ f x ∷ f y ∷ []
    spread [] = refl
    spread (z ∷ l) = ap (λ m. f z ∷ m) (spread l)
