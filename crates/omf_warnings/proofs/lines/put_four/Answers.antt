use Rattle.omf_text.proofs.ZeroLaws.{zeros_first}
use Rattle.omf_warnings.proofs.lines.put_four.Goals as goal

pub returns : goal.returns
returns c = rw (c.in_radix.ensures, c.laid_out.ensures, zeros_first) at c.write.ensures.bytes
