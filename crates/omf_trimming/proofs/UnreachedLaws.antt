-- The segments that are not reached, by their marks.
use Rattle.std.proofs.Common.{◌≡◌, ℕ, zero, suc, ◌+◌, ◌<◌, Bool, true, false, List, [], ◌∷◌, ◌++◌, length, refl, sym, ap, ap₂, ◌∙◌, subst, arith, inl, inr, append_assoc, append-nil}
use Rattle.std.specs.Global.{Global}
use Rattle.std.specs.Prelude.{Result, Ok, Err, IfOk, Vec, map, filter, not, nat_lt, slice_get, ◌==◌, ◌&&◌, ◌||◌, Contains}
use Rattle.std.specs.List.{AllZip, enumerate_from}
use Rattle.std.proofs.lemmas.Bool.{cases_Bool, cond-true, cond-false, eqb-true, eq-eqb}
use Rattle.std.proofs.lemmas.List.Elements.{All-contains}
use Rattle.omf_records.specs.Values.{Rec}
use Rattle.omf_check.specs.Module.{Module, typed_modules}
use Rattle.omf_check.specs.Tables.{segments}
use Rattle.omf_trimming.specs.Reaching.{AreReached, AreWithoutUnreached, IsWithoutUnreached, Node, is_among, unreached}
use Rattle.omf_trimming.specs.Inner.Reaching.{IsWalk, IsWalked, Marks, AreUnreached, is_marked, is_set, set_of, size_of, unmarked_from}
use Rattle.omf_trimming.specs.Without.{IsWithout}
use Rattle.omf_trimming.specs.declared.without.LeftPublics.{LeftPublics}
use Rattle.omf_trimming.proofs.ChoiceAllLaws.{paired}
use Rattle.omf_trimming.proofs.MarkLaws.{same-node}
use Rattle.omf_trimming.proofs.ReachLaws.{are-reached}
use Rattle.omf_trimming.specs.declared.optional.LeftOut.{LeftOut}

-- A module without these segments.
abbrev pub IsLeftOut : LeftPublics → Module × List ℕ → Module → Type 0
IsLeftOut publics p o = IsWithout publics p.1 p.0 o

-- A segment is among others.
among-here : (k n : Node) (ks : List Node) → k ≡ n → is_among (k ∷ ks) n ≡ true
among-here k n ks e = ap₂ (λ a b. (a && b) || is_among ks n) (eq-eqb k.0 n.0 (ap (λ (x : Node). x.0) e)) (eq-eqb k.1 n.1 (ap (λ (x : Node). x.1) e))

among-later : (k n : Node) (ks : List Node) → is_among ks n ≡ true → is_among (k ∷ ks) n ≡ true
among-later k n ks e = elim (cases_Bool ((k.0 == n.0) && (k.1 == n.1))) [
  | inl b ↦ ap (λ t. t || is_among ks n) b
  | inr b ↦ ap (λ t. t || is_among ks n) b ∙ e
]

pub contains-among : (ks : List Node) (n : Node) → Contains ks n → is_among ks n ≡ true
contains-among [] n c = let l = c.1 in absurd (omega (arith, l))
contains-among (k ∷ ks) n (zero, l, e) = among-here k n ks e
contains-among (k ∷ ks) n (suc i, l, e) = among-later k n ks (contains-among ks n (i, omega (arith, l), e))

both : (a b : Bool) → (a && b) ≡ true → (a ≡ true) × (b ≡ true)
both true b e = (refl, e)
both false b e = absurd cc

pub among-contains : (ks : List Node) (n : Node) → is_among ks n ≡ true → Contains ks n
among-contains [] n e = absurd cc
among-contains (k ∷ ks) n e = elim (cases_Bool ((k.0 == n.0) && (k.1 == n.1))) [
  | inl b ↦ let p = both (k.0 == n.0) (k.1 == n.1) b in (0, omega arith, same-node k.0 k.1 n.0 n.1 (eqb-true k.0 n.0 p.0) (eqb-true k.1 n.1 p.1))
  | inr b ↦ let c = among-contains ks n (sym (ap (λ t. t || is_among ks n) b) ∙ e) in let l = c.1 in (suc c.0, omega (arith, l), c.2)
]

pub same-bool : (a b : Bool) → (a ≡ true → b ≡ true) → (b ≡ true → a ≡ true) → a ≡ b
same-bool true b f g = sym (f refl)
same-bool false true f g = g refl
same-bool false false f g = refl

pub marked-among : (o : LeftOut) (ms : List (List Rec)) (marks : Marks) (queue : List Node) → IsWalk o ms marks queue → (n : Node) → is_marked marks n ≡ is_among queue n
marked-among o ms marks queue w n = same-bool (is_marked marks n) (is_among queue n)
    (λ e. contains-among queue n (w.found n e))
    (λ e. All-contains (λ k. is_marked marks k ≡ true) queue n w.marked (among-contains queue n e))

-- The indices of one module.
rest-unmarked : {A : Type 0} (f : ℕ → Bool) (i : ℕ) (bs : List Bool) (ss : List A) → 0 < i → length bs ≡ length ss → ((k : ℕ) → k < length bs → is_set (slice_get bs k) ≡ f (i + k))
    → unmarked_from i bs ≡ filter (λ j. not (f j)) (map (λ s. s.0) (enumerate_from i ss))
rest-unmarked f i [] [] p e h = refl
rest-unmarked f i [] (s ∷ ss) p e h = absurd (omega (arith, e))
rest-unmarked f i (b ∷ bs) [] p e h = absurd (omega (arith, e))
rest-unmarked f i (true ∷ bs) (s ∷ ss) p e h =
    let here : true ≡ f i = h 0 (omega arith) ∙ ap f (omega arith) in
    let shut : not (f i) ≡ false = ap not (sym here) in
    rest-unmarked f (i + 1) bs ss (omega (arith, p)) (omega (arith, e)) (λ k l. h (suc k) (omega (arith, l)) ∙ ap f (omega arith))
    ∙ sym (cond-false (not (f i)) (i ∷ filter (λ j. not (f j)) (map (λ s. s.0) (enumerate_from (i + 1) ss))) (filter (λ j. not (f j)) (map (λ s. s.0) (enumerate_from (i + 1) ss))) shut)
rest-unmarked f i (false ∷ bs) (s ∷ ss) p e h =
    let here : false ≡ f i = h 0 (omega arith) ∙ ap f (omega arith) in
    let left : not (f i) ≡ true = ap not (sym here) in
    cond-true (nat_lt 0 i) (i ∷ unmarked_from (i + 1) bs) (unmarked_from (i + 1) bs) (search arith)
    ∙ ap (λ js. i ∷ js) (rest-unmarked f (i + 1) bs ss (omega (arith, p)) (omega (arith, e)) (λ k l. h (suc k) (omega (arith, l)) ∙ ap f (omega arith)))
    ∙ sym (cond-true (not (f i)) (i ∷ filter (λ j. not (f j)) (map (λ s. s.0) (enumerate_from (i + 1) ss))) (filter (λ j. not (f j)) (map (λ s. s.0) (enumerate_from (i + 1) ss))) left)

first-unmarked : (b : Bool) (bs : List Bool) → unmarked_from 0 (b ∷ bs) ≡ unmarked_from 1 bs
first-unmarked true bs = refl
first-unmarked false bs = refl

module-unmarked : (set : List Node) (j : ℕ) (m : List Rec) (bs : List Bool) → length bs ≡ length (segments m) + 1 → ((i : ℕ) → i < length bs → is_set (slice_get bs i) ≡ is_among set (j, i)) → unmarked_from 0 bs ≡ unreached set j m
module-unmarked set j m [] e h = absurd (omega (arith, e))
module-unmarked set j m (b ∷ bs) e h =
    first-unmarked b bs
    ∙ rest-unmarked (λ i. is_among set (j, i)) 1 bs (segments m) (omega arith) (omega (arith, e)) (λ k l. h (suc k) (omega (arith, l)) ∙ ap (λ i. is_among set (j, i)) (omega arith))

-- Those of all modules.
all-unmarked : (set : List Node) (j : ℕ) (ms : List (List Rec)) (marks : Marks) → map (λ bs. length bs) marks ≡ map (λ m. length (segments m) + 1) ms
    → ((k i : ℕ) → i < size_of (slice_get marks k) → set_of i (slice_get marks k) ≡ is_among set (j + k, i)) → map (unmarked_from 0) marks ≡ map (λ m. unreached set m.0 m.1) (enumerate_from j ms)
all-unmarked set j [] [] e h = refl
all-unmarked set j [] (bs ∷ marks) e h = absurd cc
all-unmarked set j (m ∷ ms) [] e h = absurd cc
all-unmarked set j (m ∷ ms) (bs ∷ marks) e h =
    let first : length bs ≡ length (segments m) + 1 = cc in
    let rest : map (λ bs. length bs) marks ≡ map (λ m. length (segments m) + 1) ms = cc in
    let none : j + 0 ≡ j = omega arith in
    let here : (i : ℕ) → i < length bs → is_set (slice_get bs i) ≡ is_among set (j, i) = λ i l. h 0 i l ∙ ap (λ (k : ℕ). is_among set (k, i)) none in
    let later : (k i : ℕ) → i < size_of (slice_get marks k) → set_of i (slice_get marks k) ≡ is_among set (j + 1 + k, i) =
    λ k i l. let step : j + suc k ≡ j + 1 + k = omega arith in h (suc k) i l ∙ ap (λ (n : ℕ). is_among set (n, i)) step in
    ap₂ (λ (x : List ℕ) (xs : List (List ℕ)). x ∷ xs) (module-unmarked set j m bs first here) (all-unmarked set (j + 1) ms marks rest later)

pub are-unreached : (o : LeftOut) (ms : List (List Rec)) (marks : Marks) (queue : List Node) (gone : List (List ℕ)) → IsWalked o ms marks queue → gone ≡ map (unmarked_from 0) marks → AreUnreached o ms gone
are-unreached o ms marks queue gone w e = record {
  found = queue;
  reached = are-reached o ms marks queue w;
  lists = e ∙ all-unmarked queue 0 ms marks w.walk.sized (λ k i l. let zero_more : k ≡ 0 + k = omega arith in marked-among o ms marks queue w.walk (k, i) ∙ ap (λ (n : ℕ). is_among queue (n, i)) zero_more);
}

pub if-ok : {E : Type 0} (r : Result (Vec (Vec ℕ Global) Global) E) {Q : Vec (Vec ℕ Global) Global → Type 0} {xs ys : List (List ℕ)} → ((v : Vec (Vec ℕ Global) Global) → map (λ g. g.items) v.items ≡ ys → Q v)
    → IfOk r (λ v. map (λ g. g.items) v.items ≡ xs) → xs ≡ ys → IfOk r Q
if-ok (Ok v) f e g = f v (e ∙ g)
if-ok (Err x) f e g = e

-- The modules so far are without these, and the others are left.
pub record AreLeftSoFar (publics : LeftPublics) (o : LeftOut) (ms left : List Module) (gone : List (List ℕ)) (all : List Module) : Type 0 where
  pub found : List Node
  pub reached : AreReached o (typed_modules ms) found
  pub held : (later : List Module) → AllZip (IsLeftOut publics) (paired left gone) later → AllZip (IsWithoutUnreached publics found) (enumerate_from 0 ms) (all ++ later)

numbered : (publics : LeftPublics) (set : List Node) (j : ℕ) (ms out : List Module) → AllZip (IsLeftOut publics) (paired ms (map (λ m. unreached set m.0 m.1) (enumerate_from j (typed_modules ms)))) out → AllZip (IsWithoutUnreached publics set) (enumerate_from j ms) out
numbered publics set j [] out h = h
numbered publics set j (m ∷ ms) [] h = h
numbered publics set j (m ∷ ms) (o ∷ out) h = (h.0, numbered publics set (j + 1) ms out h.1)

pub left-starts : (publics : LeftPublics) (o : LeftOut) (ms left : List Module) (gone : List (List ℕ)) (all : List Module) → left ≡ ms → AreUnreached o (typed_modules ms) gone → all ≡ [] → AreLeftSoFar publics o ms left gone all
left-starts publics o ms left gone all e u f = record {
  found = u.found;
  reached = u.reached;
  held = λ later h.
      subst (λ (xs : List Module). AllZip (IsWithoutUnreached publics u.found) (enumerate_from 0 ms) (xs ++ later)) (sym f)
      (numbered publics u.found 0 ms later (subst (λ (ps : List (Module × List ℕ)). AllZip (IsLeftOut publics) ps later) (ap₂ paired e u.lists) h));
}

pub left-more : (publics : LeftPublics) (o : LeftOut) (ms left rest : List Module) (gone more : List (List ℕ)) (all new : List Module) (m r : Module) (g : List ℕ) → left ≡ m ∷ rest → gone ≡ g ∷ more → new ≡ all ++ r ∷ [] → IsWithout publics g m r
    → AreLeftSoFar publics o ms left gone all → AreLeftSoFar publics o ms rest more new
left-more publics o ms left rest gone more all new m r g e f added is a = record {
  found = a.found;
  reached = a.reached;
  held = λ later h.
      let pairs : paired left gone ≡ (m, g) ∷ paired rest more = ap₂ paired e f in
      subst (λ (xs : List Module). AllZip (IsWithoutUnreached publics a.found) (enumerate_from 0 ms) xs) (sym (ap (λ (xs : List Module). xs ++ later) added ∙ append_assoc all (r ∷ []) later))
      (a.held (r ∷ later) (subst (λ (ps : List (Module × List ℕ)). AllZip (IsLeftOut publics) ps (r ∷ later)) (sym pairs) (is, h)));
}

pub left-ends : (publics : LeftPublics) (o : LeftOut) (ms left : List Module) (gone : List (List ℕ)) (all : List Module) → AreLeftSoFar publics o ms left gone all → left ≡ [] → AreWithoutUnreached publics o ms all
left-ends publics o ms left gone all a e = record {
  set = a.found;
  reached = a.reached;
  each =
      let none : paired left gone ≡ [] = ap (λ (ks : List Module). paired ks gone) e in
      subst (λ (xs : List Module). AllZip (IsWithoutUnreached publics a.found) (enumerate_from 0 ms) xs) (append-nil all) (a.held [] (subst (λ (ps : List (Module × List ℕ)). AllZip (IsLeftOut publics) ps []) (sym none) tt));
}
