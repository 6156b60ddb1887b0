use Rattle.std.proofs.Common.{◌-◌, rules}
use Rattle.omf_lowering.specs.Patches.{has_byte_of}
use Rattle.omf_lowering.proofs.LastLaws.{last_found}
use Rattle.omf_lowering.proofs.laid.last_from.Goals as goal

pub returns-then-has_byte_of-clause-some : goal.returns-then-has_byte_of-clause-some
returns-then-has_byte_of-clause-some c =
    last_found (has_byte_of c.args.segment c.args.offset c.args.size) c.args.pieces.now (c.loop-left.left - 1) c.loop-left.left _ (search rules) (search rules) (search rules) c.loop-left.invariant.none
