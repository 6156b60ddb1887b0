use Rattle.std.proofs.Common.{◌≡◌, ◌++◌}
use Rattle.omf_find.specs.Rows.{name_rows}
use Rattle.omf_find.proofs.rows.push_items.Given as goal

-- the rows so far, and those of the publics that are left
abbrev pub invariant-loop-public : goal.invariant-loop-public
invariant-loop-public l = l.rows.items ++ name_rows l.number l.segment l.base l.public-iterator ≡ l.fn.rows.items ++ name_rows l.number l.segment l.base l.fn.publics
