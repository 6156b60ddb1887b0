use Rattle.std.proofs.Common.{◌≡◌, ◌+◌, ◌∷◌, drop, refl}
use Rattle.std.specs.Prelude.{zip}
use Rattle.omf_check.specs.Module.{records_in, typed_modules}
use Rattle.omf_check.specs.WellFormed.{recs}
use Rattle.omf_map.specs.Inner.Steps.{part_lines}
use Rattle.omf_map.specs.Addresses.{AddressedModule}
use Rattle.omf_placement.proofs.StepLaws.{all_printed, next-pair, no-pair, one_more}
use Rattle.omf_map.proofs.listing.print_part.Goals as goal

pub loop-j-init : goal.loop-j-init
loop-j-init c = record { whole = refl }

pub loop-j-preserved : goal.loop-j-preserved
loop-j-preserved c =
    let ms = zip (typed_modules c.args.modules.now) c.args.addresses.now in
    let j = c.loop-j.j in
    let m : AddressedModule = (recs (records_in c.index-modules-j.result.bytes), c.index-addresses-j.result) in
    let next : drop j ms ≡ m ∷ drop (j + 1) ms
    = next-pair c.args.modules.now c.args.addresses.now j c.index-modules-j.result c.index-addresses-j.result c.index-modules-j.is c.index-addresses-j.is c.loop-j-test.true c.requires in
    one_more (part_lines c.args.part) ms j _ _ m _ next c.in_ok-print_module.ensures c.loop-j.invariant

pub returns : goal.returns
returns c =
    let ms = zip (typed_modules c.args.modules.now) c.args.addresses.now in
    all_printed (part_lines c.args.part) ms c.loop-j.j _ _ (no-pair c.args.modules.now c.args.addresses.now c.loop-j.j c.loop-j-test.false) c.loop-j.invariant
