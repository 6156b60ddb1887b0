-- The modules of a link without the instances that are left out.
use Rattle.std.proofs.Common.{◌≡◌, ℕ, zero, suc, ◌+◌, ◌<◌, List, [], ◌∷◌, ◌++◌, length, drop, take, get_or, refl, sym, ap, ap₂, ◌∙◌, subst, arith, append_assoc, append-nil, inl, inr}
use Rattle.std.specs.Prelude.{filter, flat_map, map}
use Rattle.std.specs.List.{AllZip}
use Rattle.std.proofs.Math.Seq.{drop-cons}
use Rattle.std.proofs.lemmas.Bool.{cases_Bool, cond-true, cond-false}
use Rattle.std.proofs.lemmas.Grind.{flat_map-append}
use Rattle.omf_frame.specs.Bytes.{with_before}
use Rattle.omf_check.specs.Module.{Module, recs_of}
use Rattle.omf_trimming.specs.Choice.{AreChosen, IsChosen, Marked, all_left_out, instances, is_left_out, left_out, with_left_out}
use Rattle.omf_trimming.specs.Without.{IsWithout}
use Rattle.omf_trimming.specs.declared.without.LeftPublics.TheVariants.{Nameless}
use Rattle.omf_trimming.specs.Inner.Choosing.{segment_if}

-- The segments that are left out, one by one.
pub segments-filtered : (before is : List Marked) → flat_map (segment_if before) is ≡ map (λ i. i.segment) (filter (is_left_out before) is)
segments-filtered before [] = refl
segments-filtered before (i ∷ is) = elim (cases_Bool (is_left_out before i)) [
  | inl b ↦ ap (λ xs. xs ++ flat_map (segment_if before) is) (cond-true (is_left_out before i) (i.segment ∷ []) [] b) ∙ ap (λ xs. i.segment ∷ xs) (segments-filtered before is)
      ∙ sym (ap (λ xs. map (λ j. j.segment) xs) (cond-true (is_left_out before i) (i ∷ filter (is_left_out before) is) (filter (is_left_out before) is) b))
  | inr b ↦ ap (λ xs. xs ++ flat_map (segment_if before) is) (cond-false (is_left_out before i) (i.segment ∷ []) [] b) ∙ segments-filtered before is
      ∙ sym (ap (λ xs. map (λ j. j.segment) xs) (cond-false (is_left_out before i) (i ∷ filter (is_left_out before) is) (filter (is_left_out before) is) b))
]

pub take-more : {A : Type 0} (xs : List A) (i : ℕ) (x : A) → x ≡ get_or xs i x → i < length xs → take (i + 1) xs ≡ take i xs ++ x ∷ []
take-more [] i x e h = absurd (omega (arith, h))
take-more (y ∷ ys) zero x e h = ap (λ z. z ∷ []) (sym e)
take-more (y ∷ ys) (suc i) x e h =
    let same : suc (i + 1) ≡ suc i + 1 = omega arith in
    ap (λ n. take n (y ∷ ys)) (sym same) ∙ ap (λ zs. y ∷ zs) (take-more ys i x e (omega (arith, h)))

-- The instances of modules.
abbrev pub all_instances : List Module → List Marked
all_instances ms = flat_map (λ k. instances (recs_of k.bytes)) ms

pub instances-more : (ms later : List Module) (x : Module) → later ≡ ms ++ x ∷ [] → all_instances later ≡ all_instances ms ++ instances (recs_of x.bytes)
instances-more ms later x e =
    let own = λ (k : Module). instances (recs_of k.bytes) in
    ap all_instances e ∙ flat_map-append own ms (x ∷ []) ∙ ap (λ is. all_instances ms ++ is) (append-nil (own x))

abbrev own_left_out : List Module → Module → List (List ℕ)
own_left_out before m = left_out before m ∷ []

-- What is left out of the modules so far and of those to come is all.
pub record AreLeftOut (ms : List Module) (i : ℕ) (all : List (List ℕ)) : Type 0 where
  pub held : all ++ with_before (λ before m. left_out before m ∷ []) (take i ms) (drop i ms) ≡ all_left_out ms

pub left-out-starts : (ms : List Module) (all : List (List ℕ)) → all ≡ [] → AreLeftOut ms 0 all
left-out-starts ms all e = record { held = ap (λ xs. xs ++ all_left_out ms) e }

pub left-out-more : (ms : List Module) (i : ℕ) (x : Module) (all new : List (List ℕ)) (gone : List ℕ) → x ≡ get_or ms i x → i < length ms → new ≡ all ++ gone ∷ [] → gone ≡ left_out (take i ms) x → AreLeftOut ms i all
    → AreLeftOut ms (i + 1) new
left-out-more ms i x all new gone e low f g a =
    let next : i + 1 ≡ suc i = omega arith in
    let earlier = take i ms in
    let here : drop i ms ≡ x ∷ drop (i + 1) ms = drop-cons ms i x low ∙ ap (λ y. y ∷ drop (suc i) ms) (sym e) ∙ ap (λ n. x ∷ drop n ms) (sym next) in
    let rest = with_before own_left_out (earlier ++ x ∷ []) (drop (i + 1) ms) in
    record {
      held =
          ap (λ ks. new ++ with_before own_left_out ks (drop (i + 1) ms)) (take-more ms i x e low)
          ∙ ap (λ xs. xs ++ rest) f ∙ append_assoc all (gone ∷ []) rest
          ∙ ap (λ xs. all ++ xs ∷ rest) g
          ∙ ap (λ ks. all ++ with_before own_left_out earlier ks) (sym here) ∙ a.held;
    }

pub left-out-ends : (ms : List Module) (i : ℕ) (all : List (List ℕ)) → AreLeftOut ms i all → drop i ms ≡ [] → all ≡ all_left_out ms
left-out-ends ms i all a e = sym (append-nil all) ∙ ap (λ ks. all ++ with_before own_left_out (take i ms) ks) (sym e) ∙ a.held

-- Modules with the segments that are left out of each.
abbrev pub paired : List Module → List (List ℕ) → List (Module × List ℕ)
paired [] gs = []
paired (m ∷ ms) [] = []
paired (m ∷ ms) (g ∷ gs) = (m, g) ∷ paired ms gs

paired-from : (before ms : List Module) → with_before (λ b m. (m, left_out b m) ∷ []) before ms ≡ paired ms (with_before (λ b m. left_out b m ∷ []) before ms)
paired-from before [] = refl
paired-from before (m ∷ ms) = ap (λ ps. (m, left_out before m) ∷ ps) (paired-from (before ++ m ∷ []) ms)

-- The modules so far are chosen, and those that are left.
pub record AreChosenSoFar (ms left : List Module) (gone : List (List ℕ)) (all : List Module) : Type 0 where
  pub held : (later : List Module) → AllZip IsChosen (paired left gone) later → AllZip IsChosen (with_left_out ms) (all ++ later)

pub choice-starts : (ms left : List Module) (gone : List (List ℕ)) (all : List Module) → left ≡ ms → gone ≡ all_left_out ms → all ≡ [] → AreChosenSoFar ms left gone all
choice-starts ms left gone all e f g = record {
  held = λ later h.
      let pairs : paired left gone ≡ with_left_out ms = ap₂ paired e f ∙ sym (paired-from [] ms) in
      subst (λ (xs : List Module). AllZip IsChosen (with_left_out ms) (xs ++ later)) (sym g) (subst (λ (ps : List (Module × List ℕ)). AllZip IsChosen ps later) pairs h);
}

pub choice-more : (ms left rest : List Module) (gone more : List (List ℕ)) (all new : List Module) (m o : Module) (g : List ℕ) → left ≡ m ∷ rest → gone ≡ g ∷ more → new ≡ all ++ o ∷ [] → IsWithout Nameless g m o
    → AreChosenSoFar ms left gone all → AreChosenSoFar ms rest more new
choice-more ms left rest gone more all new m o g e f added is a = record {
  held = λ later h.
      let pairs : paired left gone ≡ (m, g) ∷ paired rest more = ap₂ paired e f in
      subst (λ (xs : List Module). AllZip IsChosen (with_left_out ms) xs) (sym (ap (λ (xs : List Module). xs ++ later) added ∙ append_assoc all (o ∷ []) later))
      (a.held (o ∷ later) (subst (λ (ps : List (Module × List ℕ)). AllZip IsChosen ps (o ∷ later)) (sym pairs) (is, h)));
}

pub choice-ends : (ms left : List Module) (gone : List (List ℕ)) (all : List Module) → AreChosenSoFar ms left gone all → left ≡ [] → AreChosen ms all
choice-ends ms left gone all a e =
    let none : paired left gone ≡ [] = ap (λ (ks : List Module). paired ks gone) e in
    subst (λ (xs : List Module). AllZip IsChosen (with_left_out ms) xs) (append-nil all) (a.held [] (subst (λ (ps : List (Module × List ℕ)). AllZip IsChosen ps []) (sym none) tt))
