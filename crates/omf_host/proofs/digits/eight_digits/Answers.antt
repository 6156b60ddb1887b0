use Rattle.std.proofs.Common.{arith}
use Rattle.omf_placement.proofs.HexadecimalLaws.{hex_eight}
use Rattle.omf_host.proofs.digits.eight_digits.Goals as goal

pub returns : goal.returns
returns c = rw (c.digit.ensures, c.digit-2.ensures, c.digit-3.ensures, c.digit-4.ensures, c.digit-5.ensures, c.digit-6.ensures, c.digit-7.ensures, c.digit-8.ensures) (hex_eight c.args.number (omega arith))
