use Rattle.std.proofs.Common.{◌≡◌, ◌+◌, ◌∷◌, ◌++◌, ◌∙◌, List, [], ap, ap₂, append-nil, arith, drop, length, map, rules, sym}
use Rattle.std.specs.Prelude.{zip}
use Rattle.omf_placement.specs.Placement.{Places}
use Rattle.omf_linking.specs.Locator.Sparse.{Sparse}
use Rattle.omf_linking.specs.Placing.{all_stored, stored_places}
use Rattle.omf_linking.proofs.PlacesLaws.{more-made, next-of, none-of}
use Rattle.omf_linking.proofs.placing.all_stored.Goals as goal

pub loop-j-init : goal.loop-j-init
loop-j-init c = record {
  all = ap (λ xs. xs ++ all_stored c.args.sparse.now c.args.placements.now) c.new-stored.ensures.items;
  each = ap length c.new-stored.ensures.items;
}

pub loop-j-preserved : goal.loop-j-preserved
loop-j-preserved c =
    let ss = c.args.sparse.now in
    let pls = c.args.placements.now in
    let j = c.loop-j.j in
    let s = c.index-sparse-j.result in
    let pl = c.index-placements-j.result in
    let next : zip (drop j ss) (drop j pls) ≡ (s, pl) ∷ zip (drop (j + 1) ss) (drop (j + 1) pls)
    = ap₂ (λ (a : List Sparse) (b : List Places). zip a b) (next-of ss j s c.index-sparse-j.is c.loop-j-test.true) (next-of pls j pl c.index-placements-j.is (omega (arith, c.loop-j-test.true, c.requires))) in
    record {
      all = more-made stored_places (s, pl) (zip (drop (j + 1) ss) (drop (j + 1) pls)) (zip (drop j ss) (drop j pls)) c.loop-j.stored.items c.push.new.self.items _ next
          (c.in_ok-push.ensures.items ∙ ap (λ x. c.loop-j.stored.items ++ x ∷ []) c.in_ok-stored_places.ensures) c.loop-j.invariant.all;
      each = search rules;
    }

pub returns-clause-all : goal.returns-clause-all
returns-clause-all c =
    let j = c.loop-j.j in
    let stored = c.loop-j.stored.items in
    sym (append-nil stored) ∙ ap (λ (xs : List Sparse). stored ++ map stored_places (zip xs (drop j c.args.placements.now))) (sym (none-of c.args.sparse.now j c.loop-j-test.false)) ∙ c.loop-j.invariant.all
