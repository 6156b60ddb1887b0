use Rattle.std.proofs.Common.{◌≡◌, ◌++◌, drop}
use Rattle.std.specs.Prelude.{map, flat_map}
use Rattle.std.specs.List.{enumerate_from}
use Rattle.omf_layout.specs.Several.Portions.{portions, portions_in, with_names}
use Rattle.omf_check.specs.Module.{typed_modules}
use Rattle.omf_layout.proofs.several.portion.portions_of.Given as goal

-- the segments of the modules so far, and of those that are left
abbrev pub invariant-loop-number : goal.invariant-loop-number
invariant-loop-number l = map with_names l.portions.items ++ flat_map portions_in (enumerate_from l.number (typed_modules (drop l.number l.modules))) ≡ portions (typed_modules l.modules)
