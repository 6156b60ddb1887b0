use Rattle.std.proofs.Common.{ap}
use Rattle.std.specs.Prelude.{flat_map}
use Rattle.omf_layout.proofs.Gathered.{more-given, all-given}
use Rattle.omf_layout.proofs.SeveralLaws.PortionLaws.{next-module, no-module}
use Rattle.omf_linking.specs.Locator.Parts.{groups_in}
use Rattle.omf_linking.proofs.locator.parts.groups_named.Goals as goal

pub loop-number-preserved : goal.loop-number-preserved
loop-number-preserved c =
    let ms = c.args.modules.now in
    let k = c.loop-number.number in
    more-given c.loop-number.groups.items c.add_groups.new.groups.items _ _ _ _ c.in_ok-add_groups.ensures
    (ap (flat_map (groups_in c.args.name.now)) (next-module k ms k c.index-modules-number.result c.index-modules-number.is c.loop-number-test.true)) c.loop-number.invariant

pub returns : goal.returns
returns c =
    let ms = c.args.modules.now in
    let k = c.loop-number.number in
    all-given c.loop-number.groups.items _ _ (ap (flat_map (groups_in c.args.name.now)) (no-module k ms k c.loop-number-test.false)) c.loop-number.invariant
