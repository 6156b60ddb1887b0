use Rattle.std.proofs.Common.{◌≡◌, ◌+◌, ◌≤◌, length, List}
use Rattle.omf_check.specs.Module.{records_in}
use Rattle.omf_check.specs.Tables.{externals}
use Rattle.omf_check.specs.WellFormed.{recs}
use Rattle.omf_placement.specs.declared.frame.Placed.{Placed}
use Rattle.omf_placement.specs.Placement.{Places}
use Rattle.omf_placement.specs.Derive.{placed_modules, seen_publics}
use Rattle.omf_placement.specs.Inner.Deriving.{IsNext}
use Rattle.omf_placement.proofs.LinkageLaws.{IsSoFar}
use Rattle.omf_placement.proofs.several.search.fault_in.Given as goal

-- the externals so far have places
abbrev pub invariant-loop-i : goal.invariant-loop-i
invariant-loop-i l = let ms = placed_modules l.modules l.placements in let m = recs (records_in l.«module».bytes) in record {
  start : 1 ≤ l.i;
  end : l.i-end ≡ length (externals m) + 1;
  so_far : (pl : Places) → IsNext ms l.j (m, pl) → (ps : List Placed) × IsSoFar (seen_publics ms (m, pl)) l.given l.j m ps l.i;
}
