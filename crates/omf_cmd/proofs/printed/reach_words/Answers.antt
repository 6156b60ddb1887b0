use Rattle.omf_cmd.proofs.printed.reach_words.Goals as goal

pub returns-in-Missing : goal.returns-in-Missing
returns-in-Missing c = rw c.in-Missing.is (rw (c.kind_name.ensures, c.from.ensures) at c.of.ensures)

pub returns-in-Extra : goal.returns-in-Extra
returns-in-Extra c = rw c.in-Extra.is (rw (c.kind_name-in-Extra.ensures, c.from-in-Extra.ensures) at c.of-in-Extra.ensures)

pub returns-in-Absolute : goal.returns-in-Absolute
returns-in-Absolute c = rw c.in-Absolute.is (rw c.from-in-Absolute.ensures at c.of-in-Absolute.ensures)

pub returns-in-TooFar : goal.returns-in-TooFar
returns-in-TooFar c = rw c.in-TooFar.is (rw (c.cause_name.ensures, c.from-in-TooFar.ensures, c.from-in-TooFar-2.ensures) at c.of-in-TooFar.ensures)
