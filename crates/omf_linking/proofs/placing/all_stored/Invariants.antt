use Rattle.std.proofs.Common.{◌≡◌, ◌++◌, drop, length, map}
use Rattle.std.specs.Prelude.{zip}
use Rattle.omf_linking.specs.Placing.{all_stored, stored_places}
use Rattle.omf_linking.proofs.placing.all_stored.Given as goal

-- the modules so far, and the others
abbrev pub invariant-loop-j : goal.invariant-loop-j
invariant-loop-j l = record {
  all : l.stored.items ++ map stored_places (zip (drop l.j l.sparse) (drop l.j l.placements)) ≡ all_stored l.sparse l.placements;
  each : length l.stored.items ≡ l.j;
}
