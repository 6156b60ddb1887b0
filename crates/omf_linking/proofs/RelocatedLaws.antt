-- Modules at their placements, one after another.
use Rattle.std.proofs.Common.{◌≡◌, ℕ, zero, suc, ◌+◌, List, [], ◌∷◌, ◌++◌, take, drop, sym, ap, subst, ◌∙◌, arith}
use Rattle.std.proofs.lemmas.List.{append-nil, take-append-drop}
use Rattle.std.specs.Prelude.{filter_map, slice_get, Option, Some, None, option_map}
use Rattle.std.specs.List.{AllZip, cons_option, enumerate_from}
use Rattle.omf_placement.specs.Derive.{PlacedModule}
use Rattle.omf_reloc.specs.declared.fault.ReachFault.{ReachFault}
use Rattle.omf_linking.specs.Faults.{all_far, far_by}
use Rattle.omf_linking.specs.declared.fault.LinkFault.{LinkFault}
use Rattle.omf_linking.specs.declared.fault.LinkFault.TheVariants as fault
use Rattle.omf_linking.specs.declared.relocated.Relocated.{Relocated}
use Rattle.omf_linking.specs.Relocated.{IsRelocated}

take_next : {A : Type 0} (i : ℕ) (xs : List A) (x : A) (rest : List A) → drop i xs ≡ x ∷ rest → take (i + 1) xs ≡ take i xs ++ x ∷ []
take_next zero [] x rest e = absurd cc
take_next zero (y ∷ xs) x rest e = let same : y ≡ x = cc in ap (λ z. z ∷ []) same
take_next (suc i) [] x rest e = absurd cc
take_next (suc i) (y ∷ xs) x rest e =
    let next : suc i + 1 ≡ suc (i + 1) = omega arith in
    ap (λ n. take n (y ∷ xs)) next ∙ ap (λ ys. y ∷ ys) (take_next i xs x rest e)

push : {A B : Type 0} (R : A → B → Type 0) (xs : List A) (ys : List B) (x : A) (y : B) → AllZip R xs ys → R x y → AllZip R (xs ++ x ∷ []) (ys ++ y ∷ [])
push R [] [] x y h r = (r, tt)
push R [] (b ∷ ys) x y h r = absurd h
push R (a ∷ xs) [] x y h r = absurd h
push R (a ∷ xs) (b ∷ ys) x y (h, hs) r = (h, push R xs ys x y hs r)

module _ (ms : List PlacedModule) (j : ℕ) (m : PlacedModule) (next : drop j ms ≡ m ∷ drop (j + 1) ms) where
  pub one_relocated : (rs now : List Relocated) (r : Relocated) → now ≡ rs ++ r ∷ [] → IsRelocated m r → AllZip IsRelocated (take j ms) rs → AllZip IsRelocated (take (j + 1) ms) now
  one_relocated rs now r n i h =
      subst (λ (xs : List Relocated). AllZip IsRelocated (take (j + 1) ms) xs) (sym n)
      (subst (λ (xs : List PlacedModule). AllZip IsRelocated xs (rs ++ r ∷ [])) (sym (take_next j ms m (drop (j + 1) ms) next)) (push IsRelocated (take j ms) rs m r h i))

-- the modules so far have no such fault
module _ (g : PlacedModule → Option ReachFault) (ms : List PlacedModule) (j : ℕ) (m : PlacedModule) (next : drop j ms ≡ m ∷ drop (j + 1) ms) where
  abbrev left : ℕ → List LinkFault
  left k = filter_map (far_by g) (enumerate_from k (drop k ms))

  split : left j ≡ cons_option (option_map (λ f. fault.Reach j f) (g m)) (left (j + 1))
  split = ap (λ (xs : List PlacedModule). filter_map (far_by g) (enumerate_from j xs)) next

  pub one_near : (fs : List LinkFault) → g m ≡ None → left j ≡ fs → left (j + 1) ≡ fs
  one_near fs e h = ap (λ o. cons_option (option_map (λ f. fault.Reach j f) o) (left (j + 1))) (sym e) ∙ sym split ∙ h

  pub one_far : (fs : List LinkFault) (f : ReachFault) → g m ≡ Some f → left j ≡ fs → slice_get fs 0 ≡ Some (fault.Reach j f)
  one_far fs f e h = ap (λ (gs : List LinkFault). slice_get gs 0) (sym h ∙ split ∙ ap (λ o. cons_option (option_map (λ f. fault.Reach j f) o) (left (j + 1))) e)

pub all_relocated : (ms : List PlacedModule) (j : ℕ) (rs : List Relocated) → drop j ms ≡ [] → AllZip IsRelocated (take j ms) rs → AllZip IsRelocated ms rs
all_relocated ms j rs e h =
    let whole : take j ms ≡ ms = sym (append-nil (take j ms)) ∙ ap (λ (xs : List PlacedModule). take j ms ++ xs) (sym e) ∙ take-append-drop j ms in
    subst (λ (xs : List PlacedModule). AllZip IsRelocated xs rs) whole h

pub none_far : (g : PlacedModule → Option ReachFault) (ms : List PlacedModule) (j : ℕ) → drop j ms ≡ [] → filter_map (far_by g) (enumerate_from j (drop j ms)) ≡ all_far g ms → all_far g ms ≡ []
none_far g ms j e h = sym h ∙ ap (λ (xs : List PlacedModule). filter_map (far_by g) (enumerate_from j xs)) e
