use Rattle.std.proofs.Common.{◌≡◌, ◌++◌, drop}
use Rattle.omf_library.specs.Inner.Walk.{numbers_from}
use Rattle.omf_library.proofs.needed.walk.numbers_of.Given as goal

-- the numbers so far and those to come are all
abbrev pub invariant-loop-number : goal.invariant-loop-number
invariant-loop-number l = l.numbers.items ++ numbers_from l.number (drop l.number l.joined) ≡ numbers_from 0 l.joined
