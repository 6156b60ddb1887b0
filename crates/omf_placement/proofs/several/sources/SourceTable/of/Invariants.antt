use Rattle.std.proofs.Common.{drop}
use Rattle.std.specs.Prelude.{All, false, flat_map}
use Rattle.std.specs.List.{enumerate_from}
use Rattle.omf_image.specs.Limits.{profile_limits}
use Rattle.omf_check.specs.Module.{typed_modules}
use Rattle.omf_check.specs.Sound.{ModuleHolds}
use Rattle.omf_placement.specs.Inner.Linkage.{IsSourceTable, all_sources, sources}
use Rattle.omf_placement.proofs.Filling.{IsFilled}
use Rattle.omf_placement.proofs.several.sources.SourceTable.of.Given as goal

-- the publics of the modules so far are in the table
abbrev pub invariant-loop-j : goal.invariant-loop-j
invariant-loop-j l = let left = typed_modules (drop l.j l.modules) in record {
  filled : IsFilled IsSourceTable l.initial.table l.table (flat_map (λ m. sources false m.0 m.1) (enumerate_from l.j left)) (all_sources (typed_modules l.modules));
  hold : All (ModuleHolds profile_limits) left → All (ModuleHolds profile_limits) (typed_modules l.modules);
}
