use Rattle.std.proofs.Common.{arith}
use Rattle.omf_placement.proofs.HexadecimalLaws.{hex_two}
use Rattle.omf_host.proofs.digits.two_digits.Goals as goal

pub returns : goal.returns
returns c = rw (c.digit.ensures, c.digit-2.ensures, c.from-number.ensures) (hex_two c.args.byte (omega arith))
