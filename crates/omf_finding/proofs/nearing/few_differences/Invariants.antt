use Rattle.std.proofs.Common.{◌≡◌, ◌≤◌, length, take}
use Rattle.omf_finding.specs.Near.{differences}
use Rattle.omf_finding.proofs.nearing.few_differences.Given as goal

-- the differences so far
abbrev pub invariant-loop-byte : goal.invariant-loop-byte
invariant-loop-byte l = record {
  count : l.count ≡ length (differences l.program.bytes.items l.program.base l.address (take l.byte-index l.closed));
  few : l.count ≤ l.most;
}
