use Rattle.std.proofs.Common.{arith}
use Rattle.omf_cmd.proofs.Hexadecimal.{four_by_bytes}
use Rattle.omf_cmd.proofs.digits.four_digits.Goals as goal

pub returns : goal.returns
returns c = four_by_bytes c.args.number (omega arith) _ _ c.two_digits.ensures c.two_digits-2.ensures
