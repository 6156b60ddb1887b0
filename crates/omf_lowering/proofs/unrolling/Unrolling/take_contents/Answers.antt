use Rattle.std.proofs.Common.{subst}
use Rattle.std.specs.Prelude.{option_map}
use Rattle.omf_lowering.specs.Inner.Rolling.{IsStep, blocks_seen}
use Rattle.omf_lowering.specs.Inner.State.{seen}
use Rattle.omf_lowering.proofs.IteratedLaws.{iterated_contents}
use Rattle.omf_lowering.proofs.unrolling.Unrolling.take_contents.Goals as goal

pub returns-in-Iterated : goal.returns-in-Iterated
returns-in-Iterated c =
    subst (IsStep c.begin_blocks.result c.begin_blocks.new.self)
    (iterated_contents c.args.rec.now c.in-Iterated.segment c.in-Iterated.offset c.in-Iterated.blocks c.args.self.now (seen c.args.front.now) (option_map blocks_seen c.blocks_of-data.result) c.in-Iterated.is c.requires.kind
    c.blocks_of-data.ensures.value)
    c.begin_blocks.ensures
