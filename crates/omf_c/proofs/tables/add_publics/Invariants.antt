use Rattle.std.proofs.Common.{◌≡◌, ◌++◌}
use Rattle.std.specs.Prelude.{map}
use Rattle.omf_c.specs.Tables.{public_row}
use Rattle.omf_c.proofs.tables.add_publics.Given as goal

-- the rows so far, and those of the items that are left, are all rows
abbrev pub invariant-loop-public : goal.invariant-loop-public
invariant-loop-public l = l.rows.items ++ map (public_row l.base l.place) l.public-iterator ≡ l.fn.rows.items ++ map (public_row l.base l.place) l.fn.publics
