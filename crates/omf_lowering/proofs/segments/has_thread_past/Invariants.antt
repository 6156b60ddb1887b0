use Rattle.std.proofs.Common.{◌≡◌}
use Rattle.std.specs.List.{list_any}
use Rattle.omf_lowering.specs.Segments.{in_thread, is_past}
use Rattle.omf_lowering.proofs.segments.has_thread_past.Given as goal

-- none of the subrecords before is one
abbrev pub invariant-loop-subrecord : goal.invariant-loop-subrecord
invariant-loop-subrecord l = list_any (λ s. list_any (is_past l.count) (in_thread s.item)) l.subrecord-iterator ≡ list_any (λ s. list_any (is_past l.count) (in_thread s.item)) l.fn.subrecords
