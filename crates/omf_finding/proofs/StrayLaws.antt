-- References that go elsewhere.
use Rattle.std.proofs.Common.{◌≡◌, inl, inr, ℕ, Bool, true, false, List, [], ◌∷◌, refl, sym, ap, subst, ◌∙◌, arith}
use Rattle.std.specs.Prelude.{Contains, ◌==◌, ◌||◌}
use Rattle.std.specs.List.{list_any}
use Rattle.std.proofs.lemmas.Bool.{eq-eqb, or_right}
use Rattle.omf_image.proofs.RunLaws.{contains_first}
use Rattle.omf_finding.specs.Stray.{IsStray}
use Rattle.omf_finding.specs.Inner.Straying.{IsElsewhere, any_among, is_among}
use Rattle.omf_finding.specs.declared.straying.Stray.{Stray}

any-at : (p : ℕ → Bool) (xs : List ℕ) (x : ℕ) → Contains xs x → p x ≡ true → list_any p xs ≡ true
any-at p [] x c h = absurd (omega (arith, c.1))
any-at p (y ∷ ys) x c h = elim (contains_first x y ys c) [
  | inl q ↦ ap (λ (b : Bool). b || list_any p ys) (ap p (sym q) ∙ h)
  | inr d ↦ or_right (p y) (list_any p ys) (any-at p ys x d h)
]

-- no place that is wanted is a target
pub apart-from : (wanted targets : List ℕ) (r : Bool) → r ≡ any_among wanted targets → r ≡ false → (place : ℕ) → Contains wanted place → Contains targets place → ⊥
apart-from wanted targets r is none place c d =
    let some = any-at (is_among targets) wanted place c (any-at (λ target. target == place) targets place d (eq-eqb place place refl)) in
    let wrong : false ≡ true = sym none ∙ is ∙ some in
    cc

pub stray-from : (offset external : ℕ) (wanted targets : List ℕ) (s : Stray) → IsElsewhere offset external wanted targets s → IsStray s
stray-from offset external wanted targets s h e = h.apart s.wanted h.wanted_is (subst (Contains targets) e h.there_is)
