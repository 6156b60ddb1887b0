use Rattle.std.proofs.Common.{◌≡◌, ◌-◌, ◌∙◌, ◌∷◌, List, ℕ, true, false, None, Some, map, string_bytes, take, drop, length, ap, sym, subst}
use Rattle.omf_drafting.specs.Asked.{IsAddedOnce, Part, parts_of, takes_value}
use Rattle.omf_drafting.proofs.AskedLaws.{alone_first, front_is, going_on, pair_first, twice}
use Rattle.omf_drafting.proofs.asked.sorted.Goals as goal

pub loop-rest-preserved-then-not-takes_value : goal.loop-rest-preserved-then-not-takes_value
loop-rest-preserved-then-not-takes_value c =
    let rest = c.loop-rest.rest.now in
    let left : List (List ℕ) = map string_bytes (take (length rest - 1) (drop 1 rest)) in
    let name : List ℕ = c.as_str-then-not-takes_value.result.now in
    let front = front_is string_bytes rest c.argument-item.result c.in-len1-up.len_at_least c.argument-item.is in
    let one = c.as_str.ensures.value in
    let two = c.as_str-then-not-takes_value.ensures.value in
    let t = c.takes_value.ensures in
    let f = c.if-not-takes_value.true in
    let alone : takes_value name ≡ false = cc in
    going_on _ _ (map string_bytes rest) left c.loop-rest.asked c.add.new.self (record { name = name; value = None })
    (ap parts_of (front ∙ ap (λ (a : List ℕ). a ∷ left) (sym two)) ∙ alone_first name left alone) c.in_ok-add.ensures c.loop-rest.invariant

pub returns-then-not-branch : goal.returns-then-not-branch
returns-then-not-branch c =
    let rest = c.loop-rest.rest.now in
    let others = take (length rest - 1) (drop 1 rest) in
    let left : List (List ℕ) = map string_bytes (take (length others - 1) (drop 1 others)) in
    let name : List ℕ = c.as_str-in-len1-up.result.now in
    let value : List ℕ = c.as_str-in-len1-up-2.result.now in
    let front = front_is string_bytes rest c.argument-item.result c.in-len1-up.len_at_least c.argument-item.is in
    let second = front_is string_bytes others c.value-item.result c.in-len1-up-others.len_at_least c.value-item.is in
    let one = c.as_str.ensures.value in
    let two = c.as_str-in-len1-up.ensures.value in
    let three = c.as_str-in-len1-up-2.ensures.value in
    let t = c.takes_value.ensures in
    let f = c.if-not-takes_value.false in
    let takes : takes_value name ≡ true = cc in
    let part : Part = record { name = name; value = Some value } in
    let again = subst (IsAddedOnce c.loop-rest.asked c.add_valued.new.self part) c.if-not-branch.true c.in_ok-add_valued.ensures in
    let all : map string_bytes rest ≡ name ∷ value ∷ left =
    front ∙ ap (λ (a : List ℕ). a ∷ map string_bytes others) (sym two) ∙ ap (λ (xs : List (List ℕ)). name ∷ xs) (second ∙ ap (λ (a : List ℕ). a ∷ left) (sym three)) in
    twice _ _ (map string_bytes rest) left c.loop-rest.asked c.add_valued.new.self part (ap parts_of all ∙ pair_first name value left takes) c.loop-rest.invariant again

pub loop-rest-preserved : goal.loop-rest-preserved
loop-rest-preserved c =
    let rest = c.loop-rest.rest.now in
    let others = take (length rest - 1) (drop 1 rest) in
    let left : List (List ℕ) = map string_bytes (take (length others - 1) (drop 1 others)) in
    let name : List ℕ = c.as_str-in-len1-up.result.now in
    let value : List ℕ = c.as_str-in-len1-up-2.result.now in
    let front = front_is string_bytes rest c.argument-item.result c.in-len1-up.len_at_least c.argument-item.is in
    let second = front_is string_bytes others c.value-item.result c.in-len1-up-others.len_at_least c.value-item.is in
    let one = c.as_str.ensures.value in
    let two = c.as_str-in-len1-up.ensures.value in
    let three = c.as_str-in-len1-up-2.ensures.value in
    let t = c.takes_value.ensures in
    let f = c.if-not-takes_value.false in
    let takes : takes_value name ≡ true = cc in
    let part : Part = record { name = name; value = Some value } in
    let again = subst (IsAddedOnce c.loop-rest.asked c.add_valued.new.self part) c.if-not-branch.false c.in_ok-add_valued.ensures in
    let all : map string_bytes rest ≡ name ∷ value ∷ left =
    front ∙ ap (λ (a : List ℕ). a ∷ map string_bytes others) (sym two) ∙ ap (λ (xs : List (List ℕ)). name ∷ xs) (second ∙ ap (λ (a : List ℕ). a ∷ left) (sym three)) in
    going_on _ _ (map string_bytes rest) left c.loop-rest.asked c.add_valued.new.self part (ap parts_of all ∙ pair_first name value left takes) again c.loop-rest.invariant
