use Rattle.omf_placement.proofs.EntryLaws.{hexadecimal-from, hexadecimal-to}
use Rattle.omf_placement.proofs.laws.numbers_are_read.Goals as goal

pub returns : goal.returns
returns c = λ most cs n. (hexadecimal-from most cs n, hexadecimal-to most cs n)
