use Rattle.std.proofs.Common.{◌≡◌, ◌++◌, drop}
use Rattle.std.specs.Prelude.{filter_map}
use Rattle.omf_check.specs.Module.{typed_modules}
use Rattle.omf_combining.specs.Mixed.{part_at}
use Rattle.omf_combining.proofs.mixed.parts_of.Given as goal

-- the segments so far, and those that are left
abbrev pub invariant-loop-portion : goal.invariant-loop-portion
invariant-loop-portion l = let ms = typed_modules l.modules in l.parts.items ++ filter_map (part_at ms) (drop l.portion-index l.portions) ≡ filter_map (part_at ms) l.portions
