use Rattle.std.proofs.Common.{◌≡◌, map, take}
use Rattle.omf_c.specs.Libraries.{library_row}
use Rattle.omf_c.proofs.libraries.rows_of.Given as goal

-- the rows of the members so far
abbrev pub invariant-loop-member : goal.invariant-loop-member
invariant-loop-member l = l.rows.items ≡ map library_row (take l.member-index l.members)
