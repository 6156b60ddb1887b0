use Rattle.std.proofs.Common.{◌≡◌, ◌≤◌, length}
use Rattle.omf_dump.specs.Library.{without}
use Rattle.omf_dump.proofs.padding.without.Given as goal

-- without the value, the bytes that are left are the same as the bytes
abbrev pub invariant-loop-first : goal.invariant-loop-first
invariant-loop-first l = record {
  rest : without l.value l.left ≡ without l.value l.bytes;
  within : length l.left ≤ length l.bytes;
}

abbrev pub decreases-loop-first : goal.decreases-loop-first
decreases-loop-first l = length l.left
