use Rattle.std.proofs.Common.{◌≡◌, ◌++◌, drop}
use Rattle.std.specs.List.{filter}
use Rattle.omf_aliases.specs.Aliases.{is_default}
use Rattle.omf_aliases.proofs.asking.among.Given as goal

-- the names so far, and those that are left
abbrev pub invariant-loop-name : goal.invariant-loop-name
invariant-loop-name l = l.found.items ++ filter (is_default l.defaults) (drop l.name-index l.names) ≡ filter (is_default l.defaults) l.names
