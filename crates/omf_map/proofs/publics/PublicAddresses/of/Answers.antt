use Rattle.std.proofs.Common.{◌+◌, ◌∙◌, ℕ, List, ap, drop, false, map, refl, subst}
use Rattle.std.specs.Prelude.{Option, flat_map, zip}
use Rattle.omf_check.specs.Module.{records_in, typed_modules}
use Rattle.omf_check.specs.WellFormed.{recs}
use Rattle.omf_map.specs.Inner.PublicAddresses.{HasMore, IsTable}
use Rattle.omf_map.specs.Addresses.{given_address, publics_given, publics_of}
use Rattle.omf_placement.proofs.Filling.{fill-start, fill-more, fill-end}
use Rattle.omf_placement.proofs.StepLaws.{next-pair, no-pair}
use Rattle.omf_map.proofs.PublicLaws.{fill-empty}
use Rattle.omf_map.proofs.publics.PublicAddresses.of.Goals as goal

pub loop-j-init : goal.loop-j-init
loop-j-init c = fill-start IsTable c.new.result _ _ refl

pub loop-j-preserved : goal.loop-j-preserved
loop-j-preserved c =
    let ms = zip (typed_modules c.args.modules.now) c.args.given.now in
    let j = c.loop-j.j in
    let m = recs (records_in c.index-modules-j.result.bytes) in
    let s = c.index-given-j.result in
    let here : HasMore c.loop-j.table.by_name c.add_module.new.self.by_name (publics_given (m, s))
    = subst (λ (segments : List (Option ℕ)). HasMore c.loop-j.table.by_name c.add_module.new.self.by_name (publics_of false (m, segments)))
    (c.deref.ensures.value ∙ c.in_ok-segments.ensures ∙ ap (λ ps. map given_address ps) c.segments.ensures.all) c.in_ok-add_module.ensures in
    fill-more IsTable c.new.result c.loop-j.table.by_name c.add_module.new.self.by_name (publics_given (m, s)) (flat_map publics_given (drop j ms)) (flat_map publics_given (drop (j + 1) ms)) (flat_map publics_given ms)
    (ap (flat_map publics_given) (next-pair c.args.modules.now c.args.given.now j c.index-modules-j.result s c.index-modules-j.is c.index-given-j.is c.loop-j-test.true c.requires)) here c.loop-j.invariant

pub returns : goal.returns
returns c =
    let ms = zip (typed_modules c.args.modules.now) c.args.given.now in
    fill-empty c.new.result c.loop-j.table.by_name (flat_map publics_given ms) c.new.ensures.empty
    (fill-end IsTable c.new.result c.loop-j.table.by_name (flat_map publics_given (drop c.loop-j.j ms)) _ (ap (flat_map publics_given) (no-pair c.args.modules.now c.args.given.now c.loop-j.j c.loop-j-test.false)) c.loop-j.invariant)
