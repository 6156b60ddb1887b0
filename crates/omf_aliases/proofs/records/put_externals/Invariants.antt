use Rattle.std.proofs.Common.{◌≡◌, ◌++◌, drop}
use Rattle.std.specs.Prelude.{map}
use Rattle.omf_layout.specs.Own.Written.{written}
use Rattle.omf_aliases.specs.Aliases.{external_record}
use Rattle.omf_aliases.proofs.records.put_externals.Given as goal

-- the names so far, and those that are left
abbrev pub invariant-loop-name : goal.invariant-loop-name
invariant-loop-name l = l.out.items ++ written (map external_record (drop l.name-index l.names)) ≡ l.fn.out.items ++ written (map external_record l.names)
