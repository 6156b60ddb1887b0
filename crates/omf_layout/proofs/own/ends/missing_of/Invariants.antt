use Rattle.std.proofs.Common.{◌≡◌, ◌++◌, drop}
use Rattle.std.specs.List.{filter}
use Rattle.omf_check.specs.Module.{typed_modules}
use Rattle.omf_layout.specs.Own.Order.{is_missing}
use Rattle.omf_layout.proofs.own.ends.missing_of.Given as goal

-- the names so far, and those that are left
abbrev pub invariant-loop-name : goal.invariant-loop-name
invariant-loop-name l = let ms = typed_modules l.modules in l.missing.items ++ filter (is_missing ms) (drop l.name-index l.names) ≡ filter (is_missing ms) l.names
