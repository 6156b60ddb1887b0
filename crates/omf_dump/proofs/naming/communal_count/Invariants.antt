use Rattle.std.proofs.Common.{◌≡◌, ◌+◌, length}
use Rattle.omf_dump.proofs.naming.communal_count.Given as goal

-- those so far, and those that are left
abbrev pub invariant-loop-communal : goal.invariant-loop-communal
invariant-loop-communal l = l.count + length l._communal-iterator ≡ length l.fn.communals
