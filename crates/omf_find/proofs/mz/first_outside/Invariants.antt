use Rattle.std.proofs.Common.{◌≡◌, ◌+◌}
use Rattle.std.specs.Prelude.{drop, find, nat_lt}
use Rattle.omf_find.proofs.mz.first_outside.Given as goal

-- the first of those left is the first of all
abbrev pub invariant-loop-at : goal.invariant-loop-at
invariant-loop-at l = find (λ at. nat_lt l.len (at + 2)) (drop l.at-index l.words) ≡ find (λ at. nat_lt l.len (at + 2)) l.fn.words
