use Rattle.std.proofs.Common.{◌≡◌, ◌+◌, ◌∙◌, ◌++◌, ◌<◌, ◌≤◌, ℕ, List, [], ap, append-nil, drop, get_or, length, refl, sym, subst}
use Rattle.std.specs.Prelude.{None, Option, filter_map, option_to_list}
use Rattle.std.specs.List.{enumerate_from}
use Rattle.omf_placement.specs.Placement.{Places}
use Rattle.omf_placement.specs.declared.frame.Frame.{Frame}
use Rattle.omf_placement.specs.declared.frame.Placed.{Placed}
use Rattle.omf_linking.specs.Placing.{placed_by, stored_segment}
use Rattle.omf_linking.proofs.PlacesLaws.{more-picked, next-at, none-of}
use Rattle.omf_linking.proofs.placing.stored_places.Goals as goal

pub loop-k-init : goal.loop-k-init
loop-k-init c = ap (λ xs. xs ++ filter_map (stored_segment c.args.placement.now.segments) (enumerate_from 1 c.args.given.now.stored)) c.new-segments.ensures.items

pub loop-k-preserved : goal.loop-k-preserved
loop-k-preserved c =
    let ss = c.args.given.now.stored in
    let ps = c.args.placement.now.segments in
    let all = c.stored-stored.ensures in
    let k = c.loop-k.k in
    let grown : c.add_stored.new.segments.items ≡ c.loop-k.segments.items ++ option_to_list (stored_segment ps (k + 1, get_or ss k None))
    = subst (λ (xs : List (Option ℕ)). c.add_stored.new.segments.items ≡ c.loop-k.segments.items ++ option_to_list (stored_segment ps (k + 1, get_or xs k None))) all c.in_ok-add_stored.ensures in
    more-picked (stored_segment ps) (k + 1, get_or ss k None) (enumerate_from (k + 1 + 1) (drop (k + 1) ss)) c.loop-k.segments.items c.add_stored.new.segments.items (enumerate_from (k + 1) (drop k ss)) _
    (ap (enumerate_from (k + 1)) (next-at ss k None (subst (λ (xs : List (Option ℕ)). k < length xs) all c.loop-k-test.true))) grown c.loop-k.invariant

pub returns : goal.returns
returns c =
    let ss = c.args.given.now.stored in
    let ps = c.args.placement.now.segments in
    let k = c.loop-k.k in
    let none = none-of ss k (subst (λ (xs : List (Option ℕ)). length xs ≤ k) c.stored-stored.ensures c.loop-k-test.false) in
    let segments : c.loop-k.segments.items ≡ filter_map (stored_segment ps) (enumerate_from 1 ss)
    = sym (append-nil c.loop-k.segments.items) ∙ ap (λ xs. c.loop-k.segments.items ++ filter_map (stored_segment ps) (enumerate_from (k + 1) xs)) (sym none) ∙ c.loop-k.invariant in
    c.of.ensures ∙ empty c.loop-k.segments.items c.new.result.items c.new-2.result.items c.new.ensures.items c.new-2.ensures.items ∙ ap (λ xs. placed_by xs []) segments
  where
    empty : (segs : List Placed) (gs : List Frame) (es : List Placed) → gs ≡ [] → es ≡ [] → ◌≡◌ {A = Places} (record { segments = segs; groups = gs; externals = es }) (placed_by segs [])
    empty segs gs es e f = rw (e, f) refl
