use Rattle.std.proofs.Common.{◌≡◌, ◌++◌, drop, map}
use Rattle.omf_trimming.specs.Inner.Reaching.{unmarked_from}
use Rattle.omf_trimming.proofs.reaching.all_unmarked.Given as goal

-- the lists so far and those to come are all
abbrev pub invariant-loop-own : goal.invariant-loop-own
invariant-loop-own l = map (λ gone. gone.items) l.all.items ++ map (unmarked_from 0) (drop l.own-index l.marks) ≡ map (unmarked_from 0) l.marks
