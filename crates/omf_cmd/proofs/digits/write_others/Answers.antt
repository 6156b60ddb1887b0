use Rattle.std.proofs.Common.{rules}
use Rattle.omf_cmd.proofs.Hexadecimal.{one_more}
use Rattle.omf_cmd.proofs.digits.write_others.Goals as goal

pub loop-i-preserved : goal.loop-i-preserved
loop-i-preserved c =
    one_more c.loop-i.text c.args.bytes.now c.write_byte_and_space.new.text _ c.loop-i.i c.loop-i-test.true (search rules) (search rules)
    c.write_byte_and_space.ensures c.loop-i.invariant
