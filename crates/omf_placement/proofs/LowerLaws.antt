-- The lowest of places, one more at the end.
use Rattle.std.proofs.Common.{◌≡◌, true, List, [], ◌∷◌, ◌++◌, refl, sym, ap, ◌∙◌, inl, inr, arith}
use Rattle.std.specs.Prelude.{Option, Some, None, nat_le}
use Rattle.std.proofs.lemmas.Bool.{le-leb, lt-leb}
use Rattle.std.proofs.lemmas.Bool.Decides.{leb_tells}
use Rattle.omf_placement.specs.declared.frame.Placed.{Placed}
use Rattle.omf_placement.specs.Inner.Lowest.{lower_than}
use Rattle.omf_placement.specs.Placement.{lowest}
use Rattle.omf_placement.specs.Inner.Names.{lower}
use Rattle.omf_placement.proofs.GroupLaws.{if_low, if_high}

lower-grouped : (p q r : Placed) → lower p (Some (lower q (Some r))) ≡ lower (lower p (Some q)) (Some r)
lower-grouped p q r = elim (leb_tells p.address q.address) [
  | inl a ↦ elim (leb_tells q.address r.address) [
    | inl b ↦
        let k : nat_le p.address r.address ≡ true = le-leb p.address r.address (omega (arith, a.1, b.1)) in
        ap (λ x. lower p (Some x)) (if_low q r b.0) ∙ if_low p q a.0 ∙ sym (if_low p r k) ∙ ap (λ x. lower x (Some r)) (sym (if_low p q a.0))
    | inr b ↦ ap (λ x. lower p (Some x)) (if_high q r b.0) ∙ ap (λ x. lower x (Some r)) (sym (if_low p q a.0))
  ]
  | inr a ↦ elim (leb_tells q.address r.address) [
    | inl b ↦ ap (λ x. lower p (Some x)) (if_low q r b.0) ∙ if_high p q a.0 ∙ sym (if_low q r b.0) ∙ ap (λ x. lower x (Some r)) (sym (if_high p q a.0))
    | inr b ↦ ap (λ x. lower p (Some x)) (if_high q r b.0) ∙ if_high p r (lt-leb p.address r.address (omega (arith, a.1, b.1))) ∙ sym (if_high q r b.0) ∙ ap (λ x. lower x (Some r)) (sym (if_high p q a.0))
  ]
]

added : (q p : Placed) (o : Option Placed) → lower q (Some (lower_than o p)) ≡ lower_than (Some (lower q o)) p
added q p None = refl
added q p (Some r) = lower-grouped q r p

pub lowest-more : (ps : List Placed) (p : Placed) → lowest (ps ++ p ∷ []) ≡ Some (lower_than (lowest ps) p)
lowest-more [] p = refl
lowest-more (q ∷ ps) p = ap (λ o. Some (lower q o)) (lowest-more ps p) ∙ ap Some (added q p (lowest ps))
