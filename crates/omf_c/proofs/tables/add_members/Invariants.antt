use Rattle.std.proofs.Common.{◌≡◌, ◌++◌}
use Rattle.std.specs.Prelude.{map}
use Rattle.omf_c.specs.Tables.{member_row}
use Rattle.omf_c.proofs.tables.add_members.Given as goal

-- the rows so far, and those of the items that are left, are all rows
abbrev pub invariant-loop-member : goal.invariant-loop-member
invariant-loop-member l = l.rows.items ++ map member_row l.member-iterator ≡ l.fn.rows.items ++ map member_row l.fn.members
