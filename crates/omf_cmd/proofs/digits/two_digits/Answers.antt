use Rattle.std.proofs.Common.{arith}
use Rattle.omf_cmd.proofs.Hexadecimal.{two_of_shown}
use Rattle.omf_cmd.proofs.digits.two_digits.Goals as goal

pub returns : goal.returns
returns c = two_of_shown c.args.byte c.from-at.result (omega arith) c.from-at.ensures
