use Rattle.std.proofs.Common.{◌≡◌, ◌+◌, ◌∙◌, ◌++◌, ◌<◌, ◌≤◌, List, ap, append-nil, drop, get_or, length, refl, sym, subst}
use Rattle.std.specs.Prelude.{None, Option, filter_map, option_to_list}
use Rattle.std.specs.List.{enumerate_from}
use Rattle.omf_placement.specs.declared.frame.Placed.{Placed}
use Rattle.omf_linking.specs.Placing.{given_as}
use Rattle.omf_linking.proofs.PlacesLaws.{more-picked, next-at, none-of}
use Rattle.omf_linking.proofs.placing.add_externals.Goals as goal

pub loop-k-init : goal.loop-k-init
loop-k-init c = refl

pub loop-k-preserved : goal.loop-k-preserved
loop-k-preserved c =
    let ps = c.args.sparse.now.externals in
    let all = c.externals-places.ensures.all in
    let k = c.loop-k.k in
    let n = c.args.number in
    let grown : c.add_external.new.given.items ≡ c.loop-k.given.items ++ option_to_list (given_as n (k + 1, get_or ps k None))
    = subst (λ (xs : List (Option Placed)). c.add_external.new.given.items ≡ c.loop-k.given.items ++ option_to_list (given_as n (k + 1, get_or xs k None))) all c.in_ok-add_external.ensures in
    more-picked (given_as n) (k + 1, get_or ps k None) (enumerate_from (k + 1 + 1) (drop (k + 1) ps)) c.loop-k.given.items c.add_external.new.given.items (enumerate_from (k + 1) (drop k ps)) _
    (ap (enumerate_from (k + 1)) (next-at ps k None (subst (λ (xs : List (Option Placed)). k < length xs) all c.loop-k-test.true))) grown c.loop-k.invariant

pub returns : goal.returns
returns c =
    let ps = c.args.sparse.now.externals in
    let k = c.loop-k.k in
    let none = none-of ps k (subst (λ (xs : List (Option Placed)). length xs ≤ k) c.externals-places.ensures.all c.loop-k-test.false) in
    sym (append-nil c.loop-k.given.items) ∙ ap (λ xs. c.loop-k.given.items ++ filter_map (given_as c.args.number) (enumerate_from (k + 1) xs)) (sym none) ∙ c.loop-k.invariant
