use Rattle.std.proofs.Common.{List}
use Rattle.omf_placement.specs.declared.frame.Placed.{Placed}
use Rattle.omf_placement.specs.Derive.{placed_modules}
use Rattle.omf_placement.proofs.LinkageLaws.{IsReached}
use Rattle.omf_placement.proofs.several.search.first_fault.Given as goal

-- the modules so far have no fault
abbrev pub invariant-loop-j : goal.invariant-loop-j
invariant-loop-j l = (ess : List (List Placed)) × IsReached (placed_modules l.modules l.placements) l.given ess l.j
