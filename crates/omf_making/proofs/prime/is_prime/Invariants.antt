use Rattle.std.proofs.Common.{◌≢◌, ℕ, ◌<◌, ◌%◌}
use Rattle.omf_making.proofs.prime.is_prime.Given as goal

-- no number before it divides
abbrev pub invariant-loop-divisor : goal.invariant-loop-divisor
invariant-loop-divisor l = (d : ℕ) → 1 < d → d < l.divisor → d < l.n → l.n % d ≢ 0
