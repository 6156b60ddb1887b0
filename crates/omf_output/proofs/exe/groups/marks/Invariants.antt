use Rattle.std.proofs.Common.{◌≡◌, ◌++◌, drop}
use Rattle.std.specs.Prelude.{map, zip}
use Rattle.omf_output.specs.Exe.Derived.{marked}
use Rattle.omf_output.proofs.exe.groups.marks.Given as goal

-- the marks so far, and those of the segments that are left
abbrev pub invariant-loop-before : goal.invariant-loop-before
invariant-loop-before l = let all = zip l.moves-items l.placement.segments in l.marks.items ++ map marked (drop l.before all) ≡ map marked all
