-- Refusals and their reasons; what a look answers where it finds something.
use Rattle.std.proofs.Common.{◌≡◌, ◌∙◌, Bool, List, false, subst, sym, true}
use Rattle.std.specs.Prelude.{Err, IfErr, IfOk, Ok, Option, Result, Some, is_some}
use Rattle.std.proofs.lemmas.Bool.{true≢false}
use Rattle.std.proofs.lemmas.Result.{IfErr-weaker, IfOk-weaker}
use Rattle.omf_check.specs.Module.{Module}
use Rattle.omf_exe.specs.declared.refusal.Refusal.{Refusal}
use Rattle.omf_exe.specs.Refusing.{Finds, IsLooked, IsNotAllowed, IsRefusalFor, is_out_of_memory}

-- Out of memory is for any reason.
pub no-memory : {Reason : Type 0} (r : Refusal) → is_out_of_memory r ≡ true → IsRefusalFor Reason r
no-memory r t f = absurd (true≢false (sym t ∙ f))

-- A refusal is for what follows from its reason.
pub for-other : {P Q T : Type 0} → (P → Q) → (r : Result T Refusal) → IfErr r (IsRefusalFor P) → IfErr r (IsRefusalFor Q)
for-other {P} {Q} f r h = IfErr-weaker r (IsRefusalFor P) (IsRefusalFor Q) (λ y k e. f (k e)) h

-- A fact of modules and what is found in them, by equal names of both.
pub at-both : {A : Type 0} (P : List Module → A → Type 0) (ms ns : List Module) (x y : A) → ms ≡ ns → x ≡ y → P ms x → P ns y
at-both P ms ns x y a b h = subst (λ zs. P zs y) a (subst (P ms) b h)

-- The answer of a look that finds something, by what is allowed.
module _ {A T : Type 0} (IsFirst : Option A → Type 0) (x : A) (found : IsFirst (Some x)) (is_allowed : Bool) where
  pub look-shown : (r : Result (Option T) Refusal) → IfOk r (λ line. is_some line ≡ true) → IfOk r (λ _. is_allowed ≡ true) → IfOk r (λ line. IsLooked IsFirst is_allowed (is_some line))
  look-shown (Ok line) s t = (subst (Finds IsFirst) (sym s) (x, found), λ f. absurd (true≢false (sym t ∙ f)))
  look-shown (Err f) s t = tt

  pub look-refused : (r : Result (Option T) Refusal) → IfErr r (IsRefusalFor (is_allowed ≡ false)) → IfErr r (IsRefusalFor (IsNotAllowed IsFirst is_allowed))
  look-refused r h = for-other (λ f. (f, (x, found))) r h

-- What is allowed is not forbidden.
pub look-strict : {T : Type 0} (is_allowed : Bool) (r : Result (Option T) Refusal) → IfOk r (λ _. is_allowed ≡ true) → is_allowed ≡ false → IfOk r (λ line. is_some line ≡ false)
look-strict is_allowed r h f = IfOk-weaker r (λ _. is_allowed ≡ true) (λ line. is_some line ≡ false) (λ line t. absurd (true≢false (sym t ∙ f))) h
