use Rattle.std.proofs.Common.{◌-◌, arith}
use Rattle.omf_linking.proofs.KeyTableLaws.{module-beyond, module-within}
use Rattle.omf_linking.proofs.locator.tables.ModuleKeys.numbered.Goals as goal
use Rattle.omf_linking.proofs.locator.tables.ModuleKeys.numbered.Goals.{else-number-ge1-via-then-number-ge1+else-number-self, else-number-ge1-via-else-number-ge1}

pub returns-then-number-self : goal.returns-then-number-self
returns-then-number-self c = λ ms h. module-within ms c.args.number (omega (arith, c.if-number-ge1.true)) (omega (arith, c.if-number-self.true, h.count_is)) (c.args.number - 1) (omega (arith, c.if-number-ge1.true))

pub returns-else-number-ge1 : goal.returns-else-number-ge1
returns-else-number-ge1 c = λ ms h. module-beyond ms c.args.number (λ low high. elim c.else-number-ge1.branch [
  | else-number-ge1-via-then-number-ge1+else-number-self w ↦ omega (arith, high, w.if-number-self.false, h.count_is)
  | else-number-ge1-via-else-number-ge1 w ↦ omega (arith, low, w.if-number-ge1.false)
])
