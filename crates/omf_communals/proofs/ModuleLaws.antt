-- Modules with their communals.
use Rattle.std.proofs.Common.{◌≡◌, ℕ, ◌+◌, List, [], ◌∷◌, ◌++◌, length, length-append, refl, sym, ap, ap₂, ◌∙◌, subst, arith, append_assoc, append-nil, inl, inr}
use Rattle.std.specs.Prelude.{Ok, Err}
use Rattle.std.specs.List.{AllZip}
use Rattle.std.proofs.lemmas.List.{nil_from_length}
use Rattle.omf_frame.specs.declared.fault.Place.{Place}
use Rattle.omf_frame.specs.declared.fault.Reason.{Reason}
use Rattle.omf_image.specs.Limits.{profile_limits}
use Rattle.omf_check.specs.Checking.{Decides}
use Rattle.omf_check.specs.Module.{Module}
use Rattle.omf_check.specs.Refusal.{IsRefused}
use Rattle.omf_check.specs.declared.fault.CheckFault.TheVariants as check_fault
use Rattle.omf_check.specs.declared.profile.Profile.{Profile}
use Rattle.omf_communals.specs.Communals.{AreWithCommunals, IsWithCommunals, bytes_with}

-- A module that is checked again, and one that is refused.
whole : (bytes front rest : List ℕ) → bytes ≡ front ++ rest → length front ≡ length bytes → front ≡ bytes
whole bytes front rest e f =
    let both : length bytes ≡ length front + length rest = ap (λ (xs : List ℕ). length xs) e ∙ length-append front rest in
    let none : length rest ≡ 0 = omega (arith, both, f) in
    sym (append-nil front) ∙ ap (λ (xs : List ℕ). front ++ xs) (sym (nil_from_length rest none)) ∙ sym e

pub module-found : (m o : Module) (bytes : List ℕ) (profile : Profile) → bytes ≡ bytes_with m.bytes → profile ≡ m.profile → Decides profile bytes (Ok o) → length o.bytes ≡ length bytes → IsWithCommunals m o
module-found m o bytes profile made p (same, (a, is)) size =
    let all : a.bytes ≡ bytes = whole bytes a.bytes a.rest a.spelled (ap (λ (xs : List ℕ). length xs) is ∙ size) in
    let own : o.bytes ≡ bytes_with m.bytes = sym is ∙ all ∙ made in
    let made_of = λ (b : List ℕ) (q : Profile). let y : Module = record { bytes = b; profile = q } in y in
    inl (ap₂ made_of own (same ∙ p))

pub module-kept : (m : Module) (bytes : List ℕ) (profile : Profile) (why : Reason) (at : Place) → bytes ≡ bytes_with m.bytes → profile ≡ m.profile
    → Decides profile bytes (Err (check_fault.Refused why at)) → IsWithCommunals m m
module-kept m bytes profile why at made p d = inr (record {
  same = refl;
  why = why;
  at = at;
  refused = subst (λ (b : List ℕ). IsRefused m.profile profile_limits b why at) made (subst (λ (q : Profile). IsRefused q profile_limits bytes why at) p d);
})

pub module-same : (m : Module) → m.bytes ≡ bytes_with m.bytes → IsWithCommunals m m
module-same m e = inl (ap (λ (b : List ℕ). let y : Module = record { bytes = b; profile = m.profile } in y) e)

-- The modules so far are with their communals, and the others are left.
pub record AreSoFar (ms left all : List Module) : Type 0 where
  pub held : (later : List Module) → AllZip IsWithCommunals left later → AllZip IsWithCommunals ms (all ++ later)

pub none_yet : (ms left all : List Module) → left ≡ ms → all ≡ [] → AreSoFar ms left all
none_yet ms left all e g = record {
  held = λ later h. subst (λ (xs : List Module). AllZip IsWithCommunals ms (xs ++ later)) (sym g) (subst (λ (xs : List Module). AllZip IsWithCommunals xs later) e h);
}

pub module_more : (ms left next all new : List Module) (m o : Module) → left ≡ m ∷ next → new ≡ all ++ o ∷ [] → IsWithCommunals m o → AreSoFar ms left all → AreSoFar ms next new
module_more ms left next all new m o step more is a = record {
  held = λ later h.
      subst (λ (xs : List Module). AllZip IsWithCommunals ms xs) (sym (ap (λ (xs : List Module). xs ++ later) more ∙ append_assoc all (o ∷ []) later))
      (a.held (o ∷ later) (subst (λ (xs : List Module). AllZip IsWithCommunals xs (o ∷ later)) (sym step) (is, h)));
}

pub no_module_left : (ms left all : List Module) → left ≡ [] → AreSoFar ms left all → AreWithCommunals ms all
no_module_left ms left all none a =
    subst (λ (xs : List Module). AllZip IsWithCommunals ms xs) (append-nil all) (a.held [] (subst (λ (xs : List Module). AllZip IsWithCommunals xs []) (sym none) tt))
