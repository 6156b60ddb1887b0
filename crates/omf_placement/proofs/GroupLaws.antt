-- The lowest member of a group, member by member.
use Rattle.std.proofs.Common.{◌≡◌, ℕ, true, false, List, [], ◌∷◌, refl, sym, ap, ◌∙◌, inl, inr, arith}
use Rattle.std.specs.Prelude.{Option, Some, None, option_map, option_and_then, nat_le, cond}
use Rattle.std.proofs.lemmas.Bool.{le-leb, lt-leb}
use Rattle.std.proofs.lemmas.Bool.Decides.{leb_tells}
use Rattle.omf_records.specs.Values.{At}
use Rattle.omf_check.specs.Tables.{entry}
use Rattle.omf_placement.specs.Placement.{Placed, lowest, members_placed}
use Rattle.omf_placement.specs.Inner.Names.{lower}
use Rattle.omf_placement.specs.Inner.Lowest.{lower_than}

-- the place found so far, or the lowest of the remaining ones, if any
abbrev lower_of : Option Placed → Option Placed → Option Placed
lower_of None o = o
lower_of (Some p) o = Some (lower p o)

-- the lowest of the place found so far and the remaining ones; none if one of these has no place
abbrev pub lowest_after : Option Placed → Option (List Placed) → Option Placed
lowest_after found None = None
lowest_after found (Some ps) = lower_of found (lowest ps)

-- which of two is the lower
pub if_low : (p q : Placed) → nat_le p.address q.address ≡ true → lower p (Some q) ≡ p
if_low p q e = ap (λ b. cond b p q) e

pub if_high : (p q : Placed) → nat_le p.address q.address ≡ false → lower p (Some q) ≡ q
if_high p q e = ap (λ b. cond b p q) e

-- however the places are grouped
lower_grouped : (p q : Placed) (o : Option Placed) → lower p (Some (lower q o)) ≡ lower (lower p (Some q)) o
lower_grouped p q None = refl
lower_grouped p q (Some r) = elim (leb_tells p.address q.address) [
  | inl a ↦ elim (leb_tells q.address r.address) [
    | inl b ↦
        let k : nat_le p.address r.address ≡ true = le-leb p.address r.address (omega (arith, a.1, b.1)) in
        ap (λ x. lower p (Some x)) (if_low q r b.0) ∙ if_low p q a.0 ∙ sym (if_low p r k) ∙ ap (λ x. lower x (Some r)) (sym (if_low p q a.0))
    | inr b ↦ ap (λ x. lower p (Some x)) (if_high q r b.0) ∙ ap (λ x. lower x (Some r)) (sym (if_low p q a.0))
  ]
  | inr a ↦ elim (leb_tells q.address r.address) [
    | inl b ↦ ap (λ x. lower p (Some x)) (if_low q r b.0) ∙ if_high p q a.0 ∙ sym (if_low q r b.0) ∙ ap (λ x. lower x (Some r)) (sym (if_high p q a.0))
    | inr b ↦ ap (λ x. lower p (Some x)) (if_high q r b.0) ∙ if_high p r (lt-leb p.address r.address (omega (arith, a.1, b.1))) ∙ sym (if_high q r b.0) ∙ ap (λ x. lower x (Some r)) (sym (if_high p q a.0))
  ]
]

one_more : (found : Option Placed) (p : Placed) (rest : Option (List Placed)) → lowest_after found (option_map (λ ps. p ∷ ps) rest) ≡ lowest_after (Some (lower_than found p)) rest
one_more found p None = refl
one_more None p (Some ps) = refl
one_more (Some q) p (Some ps) = ap Some (lower_grouped q p (lowest ps))

placed_more : (xs : List Placed) (m : At (At ℕ)) (ms : List (At (At ℕ))) (p : Placed) → Some p ≡ entry xs m.item.item → members_placed xs (m ∷ ms) ≡ option_map (λ ps. p ∷ ps) (members_placed xs ms)
placed_more xs m ms p e = ap (option_and_then (λ q. option_map (λ ps. q ∷ ps) (members_placed xs ms))) (sym e)

-- one more member
pub member_more : (xs : List Placed) (found : Option Placed) (p now : Placed) (m : At (At ℕ)) (old rest : List (At (At ℕ))) (all : Option Placed) → now ≡ lower_than found p → Some p ≡ entry xs m.item.item → old ≡ m ∷ rest
    → lowest_after found (members_placed xs old) ≡ all → lowest_after (Some now) (members_placed xs rest) ≡ all
member_more xs found p now m old rest all n e o h =
    ap (λ q. lowest_after (Some q) (members_placed xs rest)) n ∙ sym (one_more found p (members_placed xs rest))
    ∙ ap (lowest_after found) (sym (placed_more xs m rest p e)) ∙ ap (λ ms. lowest_after found (members_placed xs ms)) (sym o) ∙ h

-- a member without a place
pub member_missing : (xs : List Placed) (found : Option Placed) (m : At (At ℕ)) (old rest : List (At (At ℕ))) (all : Option Placed) → None ≡ entry xs m.item.item → old ≡ m ∷ rest
    → lowest_after found (members_placed xs old) ≡ all → None ≡ all
member_missing xs found m old rest all e o h =
    ap (λ q. lowest_after found (option_and_then (λ p. option_map (λ ps. p ∷ ps) (members_placed xs rest)) q)) e ∙ ap (λ ms. lowest_after found (members_placed xs ms)) (sym o) ∙ h

-- before the first member, and after the last
pub at_first : (ps : Option (List Placed)) → lowest_after None ps ≡ option_and_then lowest ps
at_first None = refl
at_first (Some ps) = refl

pub at_last : (xs : List Placed) (found : Option Placed) → lowest_after found (members_placed xs []) ≡ found
at_last xs None = refl
at_last xs (Some p) = refl
