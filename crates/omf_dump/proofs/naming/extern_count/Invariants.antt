use Rattle.std.proofs.Common.{◌≡◌, ◌+◌, length}
use Rattle.omf_dump.proofs.naming.extern_count.Given as goal

-- those so far, and those that are left
abbrev pub invariant-loop-external : goal.invariant-loop-external
invariant-loop-external l = l.count + length l._external-iterator ≡ length l.fn.externals
