use Rattle.std.proofs.Common.{ap}
use Rattle.std.specs.Prelude.{map, flat_map}
use Rattle.omf_layout.proofs.Gathered.{more-given, all-given}
use Rattle.omf_layout.specs.Several.Portions.{portions_in, with_names}
use Rattle.omf_layout.proofs.SeveralLaws.PortionLaws.{next-module, no-module}
use Rattle.omf_layout.proofs.several.portion.portions_of.Goals as goal

pub loop-number-preserved : goal.loop-number-preserved
loop-number-preserved c =
    let ms = c.args.modules.now in
    let k = c.loop-number.number in
    more-given (map with_names c.loop-number.portions.items) (map with_names c.add_portions.new.portions.items) _ _ _ _ c.in_ok-add_portions.ensures
    (ap (flat_map portions_in) (next-module k ms k c.index-modules-number.result c.index-modules-number.is c.loop-number-test.true)) c.loop-number.invariant

pub returns : goal.returns
returns c =
    let ms = c.args.modules.now in
    let k = c.loop-number.number in
    all-given (map with_names c.loop-number.portions.items) _ _ (ap (flat_map portions_in) (no-module k ms k c.loop-number-test.false)) c.loop-number.invariant
