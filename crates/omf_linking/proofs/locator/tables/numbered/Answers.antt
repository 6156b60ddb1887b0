use Rattle.std.proofs.Common.{arith}
use Rattle.omf_linking.proofs.KeyTableLaws.{number-beyond, number-within}
use Rattle.omf_linking.proofs.locator.tables.numbered.Goals as goal
use Rattle.omf_linking.proofs.locator.tables.numbered.Goals.{else-number-ge1-via-then-number-ge1+else-number-count, else-number-ge1-via-else-number-ge1}

pub returns-then-number-count : goal.returns-then-number-count
returns-then-number-count c = number-within c.args.number c.args.count (omega (arith, c.if-number-ge1.true)) (omega (arith, c.if-number-count.true))

pub returns-else-number-ge1 : goal.returns-else-number-ge1
returns-else-number-ge1 c = number-beyond c.args.number c.args.count (λ low high. elim c.else-number-ge1.branch [
  | else-number-ge1-via-then-number-ge1+else-number-count w ↦ omega (arith, high, w.if-number-count.false)
  | else-number-ge1-via-else-number-ge1 w ↦ omega (arith, low, w.if-number-ge1.false)
])
