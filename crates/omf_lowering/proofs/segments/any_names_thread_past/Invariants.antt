use Rattle.std.proofs.Common.{◌≡◌, drop}
use Rattle.std.specs.List.{list_any}
use Rattle.omf_lowering.specs.Segments.{names_thread_past}
use Rattle.omf_lowering.proofs.segments.any_names_thread_past.Given as goal

-- none of the records before is one
abbrev pub invariant-loop-record : goal.invariant-loop-record
invariant-loop-record l = list_any (names_thread_past l.count) (drop l.record-index l.records) ≡ list_any (names_thread_past l.count) l.records
