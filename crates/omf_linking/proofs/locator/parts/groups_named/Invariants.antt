use Rattle.std.proofs.Common.{◌≡◌, ◌++◌, drop}
use Rattle.std.specs.Prelude.{flat_map}
use Rattle.std.specs.List.{enumerate_from}
use Rattle.omf_check.specs.Module.{typed_modules}
use Rattle.omf_linking.specs.Locator.Parts.{groups_in, groups_named}
use Rattle.omf_linking.proofs.locator.parts.groups_named.Given as goal

-- the groups of the modules so far, and of those that are left
abbrev pub invariant-loop-number : goal.invariant-loop-number
invariant-loop-number l = l.groups.items ++ flat_map (groups_in l.name) (enumerate_from l.number (typed_modules (drop l.number l.modules))) ≡ groups_named l.name (typed_modules l.modules)
