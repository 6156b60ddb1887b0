use Rattle.std.proofs.Common.{arith}
use Rattle.omf_placement.proofs.HexadecimalLaws.{hex_four}
use Rattle.omf_host.proofs.digits.four_digits.Goals as goal

pub returns : goal.returns
returns c = rw (c.digit.ensures, c.digit-2.ensures, c.digit-3.ensures, c.digit-4.ensures, c.from-number.ensures) (hex_four c.args.number (omega arith))
