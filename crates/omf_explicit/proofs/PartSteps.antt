-- Steps of a loop that reads items.
use Rattle.std.proofs.Common.{◌≡◌, ◌≢◌, ℕ, ◌+◌, ◌<◌, ◌≤◌, List, [], ◌∷◌, ◌++◌, length, drop, length-drop, Result, Ok, Err, refl, sym, ap, ◌∙◌, append_assoc, append-nil, arith}
use Rattle.std.proofs.lemmas.List.{drop_all}
use Rattle.omf_frame.specs.Fault.{Fault}
use Rattle.omf_records.specs.Values.{At}
use Rattle.omf_records.specs.Inner.Reads.{after, Reading, Shrinks, and_then, each}
use Rattle.omf_records.specs.Inner.Each.{each_step, each_refused, each_none}

-- a result with these in front
abbrev pub with_front : {A : Type 0} → List A → Result (List A) Fault → Result (List A) Fault
with_front front r = and_then r (λ ys. Ok (front ++ ys))

pub no_front : {A : Type 0} (r : Result (List A) Fault) → with_front [] r ≡ r
no_front (Ok ys) = refl
no_front (Err e) = refl

front_first : {A : Type 0} (xs : List A) (x : A) (r : Result (List A) Fault) → with_front (xs ++ x ∷ []) r ≡ with_front xs (and_then r (λ ys. Ok (x ∷ ys)))
front_first xs x (Ok ys) = ap (λ zs. Ok zs) (append_assoc xs (x ∷ []) ys)
front_first xs x (Err e) = refl

some_left : {A : Type 0} (pos : ℕ) (bytes : List A) → pos < length bytes → drop pos bytes ≢ []
some_left pos bytes low none = let size = length-drop pos bytes in let zero : length (drop pos bytes) ≡ 0 = ap length none in omega (arith, size, zero, low)

module _ {A : Type 0} (read : Reading A) (shrinks : Shrinks read) where
  pub forward : (body : List ℕ) (pos end : ℕ) (x : A) (xs : List (At A)) → pos < length body → Ok (after x (3 + end) (drop end body)) ≡ read (3 + pos) (drop pos body)
      → with_front (xs ++ record { within = 3 + pos; item = x } ∷ []) (each read (3 + end) (drop end body)) ≡ with_front xs (each read (3 + pos) (drop pos body))
  forward body pos end x xs low is =
      front_first xs (record { within = 3 + pos; item = x }) (each read (3 + end) (drop end body))
      ∙ ap (with_front xs) (sym (each_step read shrinks (3 + pos) (drop pos body) (after x (3 + end) (drop end body)) (some_left pos body low) (sym is)))

  pub stopped : (body : List ℕ) (pos : ℕ) (e : Fault) (xs : List (At A)) → pos < length body → Err e ≡ read (3 + pos) (drop pos body)
      → with_front xs (each read (3 + pos) (drop pos body)) ≡ Err e
  stopped body pos e xs low is = ap (with_front xs) (each_refused read shrinks (3 + pos) (drop pos body) e (some_left pos body low) (sym is))

  pub finished : (body : List ℕ) (pos : ℕ) (xs : List (At A)) → length body ≤ pos → with_front xs (each read (3 + pos) (drop pos body)) ≡ Ok xs
  finished body pos xs high = ap (with_front xs) (each_none read (3 + pos) (drop pos body) (drop_all pos body high)) ∙ ap (λ zs. Ok zs) (append-nil xs)
