use Rattle.std.proofs.Common.{◌≡◌, take, length}
use Rattle.std.specs.List.{AllZip}
use Rattle.omf_placement.specs.Derive.{placed_modules}
use Rattle.omf_linking.specs.Relocated.{IsRelocated}
use Rattle.omf_linking.proofs.relocated.relocate_all.Given as goal

-- the modules so far are relocated
abbrev pub invariant-loop-j : goal.invariant-loop-j
invariant-loop-j l = record {
  relocated : AllZip IsRelocated (take l.j (placed_modules l.modules l.placements)) l.relocated.items;
  counted : length l.relocated.items ≡ l.j;
}
