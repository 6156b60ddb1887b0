use Rattle.std.proofs.Common.{◌≡◌, ◌++◌}
use Rattle.omf_c.specs.Tables.{places_of}
use Rattle.omf_c.proofs.tables.add_names.Given as goal

-- the places so far, and those of the names that are left, are all places
abbrev pub invariant-loop-name : goal.invariant-loop-name
invariant-loop-name l = l.rows.items ++ places_of l.place l.name-iterator ≡ l.fn.rows.items ++ places_of l.place l.fn.names
