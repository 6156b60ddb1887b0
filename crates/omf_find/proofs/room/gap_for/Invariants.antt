use Rattle.std.specs.Prelude.{⊤}
use Rattle.omf_find.proofs.room.gap_for.Given as goal

-- nothing is kept from one gap to the next
abbrev pub invariant-loop-gap : goal.invariant-loop-gap
invariant-loop-gap l = ⊤
