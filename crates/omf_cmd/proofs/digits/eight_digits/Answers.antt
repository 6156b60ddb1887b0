use Rattle.std.proofs.Common.{arith}
use Rattle.omf_cmd.proofs.Hexadecimal.{eight_by_bytes}
use Rattle.omf_cmd.proofs.digits.eight_digits.Goals as goal

pub returns : goal.returns
returns c = eight_by_bytes c.args.number (omega arith) _ _ _ _ c.two_digits.ensures c.two_digits-2.ensures c.two_digits-3.ensures c.two_digits-4.ensures
