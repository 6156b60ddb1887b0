use Rattle.std.proofs.Common.{take}
use Rattle.std.specs.Prelude.{All}
use Rattle.omf_library.specs.Inner.Search.{offered}
use Rattle.omf_library.specs.Inner.Walk.{AreTaken, IsWalk}
use Rattle.omf_library.proofs.needed.walk.Walk.of_given.Given as goal

-- the members have joined that the modules so far need
abbrev pub invariant-loop-module : goal.invariant-loop-module
invariant-loop-module l = record {
  walk : IsWalk (offered l.search) l.walk.joined.items l.walk.queue.items;
  taken : All (AreTaken (offered l.search) l.walk.joined.items) (take l.module-index (offered l.search).given);
}
