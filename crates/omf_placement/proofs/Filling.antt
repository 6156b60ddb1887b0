-- A table that is filled from a list, some values at a time.
use Rattle.std.proofs.Common.{◌≡◌, List, [], ◌++◌, sym, ap, ◌∙◌, subst, append-nil, append_assoc}

-- A table holds these values in addition to those of another.
abbrev pub Adds : {M A : Type 0} → (M → List A → Type 0) → M → M → List A → Type 0
Adds IsTable m n more = (among : _) → IsTable m among → IsTable n (among ++ more)

-- Of the values `all`, some are in the table n and not in m, and these remain.
pub record IsFilled {M A : Type 0} (IsTable : M → List A → Type 0) (m n : M) (rest all : List A) : Type 0 where
  pub done : List A
  pub more : Adds IsTable m n done
  pub whole : done ++ rest ≡ all

module _ {M A : Type 0} (IsTable : M → List A → Type 0) where
  pub fill-start : (m : M) (rest all : List A) → rest ≡ all → IsFilled IsTable m m rest all
  fill-start m rest all e = record { done = []; more = λ among h. subst (IsTable m) (sym (append-nil among)) h; whole = e }

  pub fill-more : (m n o : M) (xs next rest all : List A) → next ≡ xs ++ rest → Adds IsTable n o xs → IsFilled IsTable m n next all → IsFilled IsTable m o rest all
  fill-more m n o xs next rest all e g f = record {
    done = f.done ++ xs;
    more = λ among h. subst (IsTable o) (append_assoc among f.done xs) (g (among ++ f.done) (f.more among h));
    whole = append_assoc f.done xs rest ∙ ap (λ ys. f.done ++ ys) (sym e) ∙ f.whole;
  }

  pub fill-end : (m n : M) (rest all : List A) → rest ≡ [] → IsFilled IsTable m n rest all → Adds IsTable m n all
  fill-end m n rest all e f = subst (Adds IsTable m n) (sym (append-nil f.done) ∙ ap (λ ys. f.done ++ ys) (sym e) ∙ f.whole) f.more
