use Rattle.std.proofs.Common.{◌≡◌, drop}
use Rattle.std.specs.Prelude.{fold, []}
use Rattle.omf_explicit.specs.Explicit.{with_number}
use Rattle.omf_explicit.proofs.numbers.distinct.Given as goal

-- with the numbers that are left added, all are
abbrev pub invariant-loop-number : goal.invariant-loop-number
invariant-loop-number l = fold with_number l.all (drop l.number-index l.named) ≡ fold with_number [] l.named
