-- The search for a fault, public by public.
use Rattle.std.proofs.Common.{◌≡◌, ℕ, ◌+◌, List, [], ◌∷◌, ◌++◌, zero, suc, ◌<◌, length, get_or, refl, sym, ap, ◌∙◌, subst, inl, inr, append-nil, append_assoc, arith}
use Rattle.std.specs.Prelude.{filter_map, drop, Option, Some, None, bytes_eq, cond}
use Rattle.std.specs.List.{cons_option}
use Rattle.std.proofs.lemmas.Bool.{cond-true, cond-false, cases_Bool}
use Rattle.omf_check.specs.Module.{Module, records_in}
use Rattle.omf_check.specs.WellFormed.{recs}
use Rattle.omf_records.specs.Values.{Rec}
use Rattle.omf_placement.specs.Placement.{Places}
use Rattle.omf_placement.specs.declared.several.fault.DeriveFault.{DeriveFault}
use Rattle.omf_placement.specs.declared.several.given.Given.{Given}
use Rattle.omf_placement.specs.declared.several.publics.Found.{Found}
use Rattle.omf_placement.specs.Derive.{PlacedModule, PlacedPublic, placed_modules, seen_publics}
use Rattle.omf_placement.specs.Inner.Derived.{of_name, external_places}
use Rattle.omf_placement.specs.Inner.PublicTable.{summed, found_after, found_with, found_over, found_among}
use Rattle.omf_placement.specs.Inner.Deriving.{IsNext, IsFaultOf}
use Rattle.omf_placement.specs.declared.frame.Placed.{Placed}
use Rattle.omf_placement.proofs.TableLaws.{summed-more}

pub found-append : (name : List ℕ) (f : Option Found) (xs ys : List PlacedPublic) → found_over name f (xs ++ ys) ≡ found_over name (found_over name f xs) ys
found-append name f [] ys = refl
found-append name f (x ∷ xs) ys = found-append name (found_with name f x) xs ys

abbrev named : List ℕ → List PlacedPublic → List Placed
named name ps = filter_map (of_name name) ps

found-after : (name : List ℕ) (qs : List Placed) (ps : List PlacedPublic) → found_over name (summed qs) ps ≡ summed (qs ++ named name ps)
found-after name qs [] = ap summed (sym (append-nil qs))
found-after name qs (p ∷ ps) = elim (cases_Bool (bytes_eq name p.name)) [
  | inl b ↦
      ap (λ f. found_over name f ps) (cond-true (bytes_eq name p.name) (Some (found_after p.place (summed qs))) (summed qs) b ∙ sym (summed-more qs p.place))
      ∙ found-after name (qs ++ p.place ∷ []) ps ∙ ap summed (append_assoc qs (p.place ∷ []) (named name ps))
      ∙ ap (λ t. summed (qs ++ cons_option (cond t (Some p.place) None) (named name ps))) (sym b)
  | inr b ↦
      ap (λ f. found_over name f ps) (cond-false (bytes_eq name p.name) (Some (found_after p.place (summed qs))) (summed qs) b)
      ∙ found-after name qs ps
      ∙ ap (λ t. summed (qs ++ cons_option (cond t (Some p.place) None) (named name ps))) (sym b)
]

-- What is found sums up the publics with the name.
pub found-summed : (name : List ℕ) (ps : List PlacedPublic) → found_among name ps ≡ summed (named name ps)
found-summed name ps = found-after name [] ps

-- The module with a number.
pub next-same : (ms : List PlacedModule) (j : ℕ) (m n : PlacedModule) → IsNext ms j m → IsNext ms j n → m ≡ n
next-same ms j m n a b = cc

pub next-exists : (ms : List Module) (pls : List Places) (j : ℕ) → j < length ms → length pls ≡ length ms → (m : PlacedModule) × IsNext (placed_modules ms pls) j m
next-exists [] pls j l e = absurd (omega arith)
next-exists (x ∷ ms) [] j l e = absurd (omega arith)
next-exists (x ∷ ms) (y ∷ pls) zero l e = ((recs (records_in x.bytes), y), refl)
next-exists (x ∷ ms) (y ∷ pls) (suc j) l e =
    let r = next-exists ms pls j (omega arith) (omega arith) in
    let same : suc (j + 1) ≡ suc j + 1 = omega arith in
    (r.0, r.1 ∙ ap (λ n. r.0 ∷ drop n (placed_modules (x ∷ ms) (y ∷ pls))) same)

pub next-records : (ms : List Module) (pls : List Places) (j : ℕ) (x : Module) (m : PlacedModule) → x ≡ get_or ms j x → j < length ms → length pls ≡ length ms → IsNext (placed_modules ms pls) j m → recs (records_in x.bytes) ≡ m.0
next-records [] pls j x m a l e h = absurd (omega arith)
next-records (y ∷ ms) [] j x m a l e h = absurd (omega arith)
next-records (y ∷ ms) (p ∷ pls) zero x m a l e h =
    let same : (recs (records_in y.bytes), p) ≡ m = cc in ap (λ z. recs (records_in z.bytes)) a ∙ ap (λ z. z.0) same
next-records (y ∷ ms) (p ∷ pls) (suc j) x m a l e h =
    let same : suc j + 1 ≡ suc (j + 1) = omega arith in
    next-records ms pls j x m a (omega arith) (omega arith) (h ∙ ap (λ n. m ∷ drop n (placed_modules (y ∷ ms) (p ∷ pls))) same)

pub at-module : (ms : List PlacedModule) (given : List Given) (j : ℕ) (rs : List Rec) (r : Option DeriveFault)
    → ((pl : Places) → IsNext ms j (rs, pl) → IsFaultOf (external_places (seen_publics ms (rs, pl)) given j rs) r)
    → (m : PlacedModule) → rs ≡ m.0 → IsNext ms j m → IsFaultOf (external_places (seen_publics ms m) given j m.0) r
at-module ms given j rs r f m e h = subst (λ ys. (pl : Places) → IsNext ms j (ys, pl) → IsFaultOf (external_places (seen_publics ms (ys, pl)) given j ys) r) e f m.1 h
