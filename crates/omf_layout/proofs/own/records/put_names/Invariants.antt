use Rattle.std.proofs.Common.{◌≡◌, ◌++◌, drop}
use Rattle.std.specs.Prelude.{map}
use Rattle.omf_layout.specs.Own.Written.{name_record, written}
use Rattle.omf_layout.proofs.own.records.put_names.Given as goal

-- the names so far, and those that are left
abbrev pub invariant-loop-name : goal.invariant-loop-name
invariant-loop-name l = l.out.items ++ written (map name_record (drop l.name-index l.names)) ≡ l.fn.out.items ++ written (map name_record l.names)
