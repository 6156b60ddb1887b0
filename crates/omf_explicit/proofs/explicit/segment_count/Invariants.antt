use Rattle.std.proofs.Common.{◌≡◌, ◌≤◌, ◌+◌, drop, length}
use Rattle.std.specs.List.{filter}
use Rattle.omf_explicit.specs.Explicit.{is_segdef}
use Rattle.omf_explicit.proofs.explicit.segment_count.Given as goal

-- the SEGDEFs so far, and those to come; no more so far than records
abbrev pub invariant-loop-record : goal.invariant-loop-record
invariant-loop-record l = record {
  all : l.count + length (filter (λ r. is_segdef r.kind) (drop l.record-index l.records)) ≡ length (filter (λ r. is_segdef r.kind) l.records);
  few : l.count ≤ l.record-index;
}
