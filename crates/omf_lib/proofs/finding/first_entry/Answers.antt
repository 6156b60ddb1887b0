use Rattle.std.proofs.Common.{below_more, rules}
use Rattle.omf_lib.proofs.finding.first_entry.Goals as goal

pub returns-in-Some : goal.returns-in-Some
returns-in-Some c = (
  c.loop-number.number,
  search rules,
  c.loop-number.invariant,
  c.in-Some.ensures,
)

pub loop-number-preserved : goal.loop-number-preserved
loop-number-preserved c = below_more _ _ c.loop-number.invariant c.in-None.ensures

pub returns : goal.returns
returns c = λ number low. c.loop-number.invariant number (search rules)
