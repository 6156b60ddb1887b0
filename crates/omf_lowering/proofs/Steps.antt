-- Steps of loops that read items, or look each of some items up.
use Rattle.std.proofs.Common.{◌≡◌, ◌≢◌, ℕ, suc, ◌+◌, ◌<◌, ◌≤◌, List, [], ◌∷◌, ◌++◌, length, map, get_or, drop, length-drop, drop-cons, Result, Ok, Err, Some, None, refl, sym, ap, subst, ◌∙◌, append_assoc, append-nil, add-one, arith}
use Rattle.std.proofs.lemmas.List.{drop_all, map-append}
use Rattle.omf_frame.specs.Fault.{Fault}
use Rattle.omf_records.specs.Values.{At}
use Rattle.omf_records.specs.Inner.Reads.{after, Reading, Shrinks, and_then, each, or_none}
use Rattle.omf_records.specs.Inner.Each.{each_step, each_refused, each_none}
use Rattle.omf_lowering.specs.Externals.{all_of}
use Rattle.omf_lowering.specs.Lowering.{fault_of}

-- a result with these in front
abbrev pub with_front : {A : Type 0} → List A → Result (List A) Fault → Result (List A) Fault
with_front front r = and_then r (λ ys. Ok (front ++ ys))

pub no_front : {A : Type 0} (r : Result (List A) Fault) → with_front [] r ≡ r
no_front (Ok ys) = refl
no_front (Err e) = refl

front_first : {A : Type 0} (xs : List A) (x : A) (r : Result (List A) Fault) → with_front (xs ++ x ∷ []) r ≡ with_front xs (and_then r (λ ys. Ok (x ∷ ys)))
front_first xs x (Ok ys) = ap (λ zs. Ok zs) (append_assoc xs (x ∷ []) ys)
front_first xs x (Err e) = refl

some_left : {A : Type 0} (pos : ℕ) (bytes : List A) → pos < length bytes → drop pos bytes ≢ []
some_left pos bytes low none = let size = length-drop pos bytes in let zero : length (drop pos bytes) ≡ 0 = ap length none in omega (arith, size, zero, low)

module _ {A : Type 0} (read : Reading A) (shrinks : Shrinks read) where
  pub forward : (body : List ℕ) (pos end : ℕ) (x : A) (xs : List (At A)) → pos < length body → Ok (after x (3 + end) (drop end body)) ≡ read (3 + pos) (drop pos body)
      → with_front (xs ++ record { within = 3 + pos; item = x } ∷ []) (each read (3 + end) (drop end body)) ≡ with_front xs (each read (3 + pos) (drop pos body))
  forward body pos end x xs low is =
      front_first xs (record { within = 3 + pos; item = x }) (each read (3 + end) (drop end body))
      ∙ ap (with_front xs) (sym (each_step read shrinks (3 + pos) (drop pos body) (after x (3 + end) (drop end body)) (some_left pos body low) (sym is)))

  pub stopped : (body : List ℕ) (pos : ℕ) (e : Fault) (xs : List (At A)) → pos < length body → Err e ≡ read (3 + pos) (drop pos body)
      → with_front xs (each read (3 + pos) (drop pos body)) ≡ Err e
  stopped body pos e xs low is = ap (with_front xs) (each_refused read shrinks (3 + pos) (drop pos body) e (some_left pos body low) (sym is))

  pub finished : (body : List ℕ) (pos : ℕ) (xs : List (At A)) → length body ≤ pos → with_front xs (each read (3 + pos) (drop pos body)) ≡ Ok xs
  finished body pos xs high = ap (with_front xs) (each_none read (3 + pos) (drop pos body) (drop_all pos body high)) ∙ ap (λ zs. Ok zs) (append-nil xs)

module _ {A B : Type 0} (f : A → Result B Fault) where
  all_cons : (x : A) (xs : List A) (y : B) → f x ≡ Ok y → all_of f (x ∷ xs) ≡ and_then (all_of f xs) (λ ys. Ok (y ∷ ys))
  all_cons x xs y is = ap (λ r. and_then r (λ z. and_then (all_of f xs) (λ ys. Ok (z ∷ ys)))) is

  pub all_forward : (xs : List A) (i : ℕ) (d : A) (ys : List B) (y : B) → i < length xs → f (get_or xs i d) ≡ Ok y
      → with_front (ys ++ y ∷ []) (all_of f (drop (suc i) xs)) ≡ with_front ys (all_of f (drop i xs))
  all_forward xs i d ys y low is =
      front_first ys y (all_of f (drop (suc i) xs))
      ∙ ap (with_front ys) (sym (ap (all_of f) (drop-cons xs i d low) ∙ all_cons (get_or xs i d) (drop (suc i) xs) y is))

  all_refused : (x : A) (xs : List A) (e : Fault) (r : Result B Fault) → f x ≡ r → fault_of r ≡ Some e → all_of f (x ∷ xs) ≡ Err e
  all_refused x xs e (Ok y) is never = absurd cc
  all_refused x xs e (Err d) is so = let same : d ≡ e = cc in ap (λ r. and_then r (λ z. and_then (all_of f xs) (λ ys. Ok (z ∷ ys)))) is ∙ ap (λ g. Err g) same

  pub all_stopped : (xs : List A) (i : ℕ) (d : A) (ys : List B) (e : Fault) → i < length xs → fault_of (f (get_or xs i d)) ≡ Some e → with_front ys (all_of f (drop i xs)) ≡ Err e
  all_stopped xs i d ys e low is = ap (with_front ys) (ap (all_of f) (drop-cons xs i d low) ∙ all_refused (get_or xs i d) (drop (suc i) xs) e (f (get_or xs i d)) refl is)

  pub all_finished : (xs : List A) (i : ℕ) (ys : List B) → length xs ≤ i → with_front ys (all_of f (drop i xs)) ≡ Ok ys
  all_finished xs i ys high = ap (λ l. with_front ys (all_of f l)) (drop_all i xs high) ∙ ap (λ zs. Ok zs) (append-nil ys)

  -- a list has grown by what the results so far become, and the others follow
  pub record Pushed {C : Type 0} (g : B → C) (old new : List C) (xs : List A) (i : ℕ) : Type 0 where
    pub given : List B
    pub grown : new ≡ old ++ map g given
    pub same : with_front given (all_of f (drop i xs)) ≡ all_of f xs

  pub pushed_start : {C : Type 0} (g : B → C) (old : List C) (xs : List A) → Pushed g old old xs 0
  pushed_start g old xs = record { given = []; grown = sym (append-nil old); same = no_front (all_of f xs) }

  pub pushed_more : {C : Type 0} (g : B → C) (old new more : List C) (xs : List A) (i : ℕ) (d x : A) (y : B) → i < length xs → x ≡ get_or xs i d → f x ≡ Ok y → more ≡ new ++ g y ∷ []
      → Pushed g old new xs i → Pushed g old more xs (i + 1)
  pushed_more g old new more xs i d x y low here is longer p = subst (Pushed g old more xs) (sym (add-one i)) (record {
    given = p.given ++ y ∷ [];
    grown = longer ∙ ap (λ l. l ++ g y ∷ []) p.grown ∙ append_assoc old (map g p.given) (g y ∷ []) ∙ ap (λ l. old ++ l) (sym (map-append g p.given (y ∷ [])));
    same = all_forward xs i d p.given y low (ap f (sym here) ∙ is) ∙ p.same;
  })

  pub pushed_stop : {C : Type 0} (g : B → C) (old new : List C) (xs : List A) (i : ℕ) (d : A) (e : Fault) → i < length xs → fault_of (f (get_or xs i d)) ≡ Some e
      → Pushed g old new xs i → fault_of (all_of f xs) ≡ Some e
  pushed_stop g old new xs i d e low is p = ap fault_of (sym p.same ∙ all_stopped xs i d p.given e low is)

  pub pushed_end : {C : Type 0} (g : B → C) (old new : List C) (xs : List A) (i : ℕ) → length xs ≤ i → Pushed g old new xs i → new ≡ old ++ map g (or_none (all_of f xs))
  pushed_end g old new xs i high p = p.grown ∙ ap (λ r. old ++ map g (or_none r)) (sym (all_finished xs i p.given high) ∙ p.same)

  pub pushed_sound : {C : Type 0} (g : B → C) (old new : List C) (xs : List A) (i : ℕ) → length xs ≤ i → Pushed g old new xs i → fault_of (all_of f xs) ≡ None
  pushed_sound g old new xs i high p = ap fault_of (sym p.same ∙ all_finished xs i p.given high)
