use Rattle.std.proofs.Common.{◌≡◌, ◌∙◌, ap, sym, subst, rules}
use Rattle.std.specs.Prelude.{Err, zip}
use Rattle.omf_check.specs.Module.{typed_modules}
use Rattle.omf_records.specs.Inner.Seen.{map_ok}
use Rattle.omf_linking.specs.Placing.{IsOutcome, places_of}
use Rattle.omf_linking.proofs.PlacesLaws.{after, all-placed, more-placed, none-placed, not-placed-outcome}
use Rattle.omf_linking.proofs.placing.places_of.Goals as goal

pub loop-j-init : goal.loop-j-init
loop-j-init c =
    let all = places_of 0 (zip (typed_modules c.args.modules.now) c.args.given.now) in
    ap (λ xs. after xs all) c.new-places.ensures.items ∙ none-placed all

pub returns-in_err-place : goal.returns-in_err-place
returns-in_err-place c =
    let f = c.in_err-place.field-0.0 in
    let j = c.loop-j.j in
    let same : c.from_residual.result ≡ Err f = search rules in
    subst (λ r. IsOutcome (places_of 0 (zip (typed_modules c.args.modules.now) c.args.given.now)) (map_ok (λ v. v.items) r)) (sym same)
    (not-placed-outcome c.args.modules.now c.args.given.now j c.index-modules-j.result c.index-given-j.result c.index-modules-j.is c.index-given-j.is c.loop-j-test.true c.requires.each c.loop-j.places.items f
    (places_of 0 (zip (typed_modules c.args.modules.now) c.args.given.now)) c.in_err-place.ensures c.loop-j.invariant)

pub loop-j-preserved : goal.loop-j-preserved
loop-j-preserved c =
    sym (more-placed c.args.modules.now c.args.given.now c.loop-j.j c.index-modules-j.result c.index-given-j.result c.index-modules-j.is c.index-given-j.is c.loop-j-test.true c.requires.each
    c.loop-j.places.items c.push.new.self.items c.in_ok-place.place c.in_ok-place.ensures c.in_ok-push.ensures.items) ∙ c.loop-j.invariant

pub returns : goal.returns
returns c = sym c.loop-j.invariant ∙ all-placed c.args.modules.now c.args.given.now c.loop-j.j c.loop-j.places.items c.loop-j-test.false
