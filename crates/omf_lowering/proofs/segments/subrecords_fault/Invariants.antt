use Rattle.std.proofs.Common.{◌≡◌}
use Rattle.std.specs.Prelude.{flat_map}
use Rattle.omf_lowering.specs.Segments.{first_past, in_subrecord}
use Rattle.omf_lowering.proofs.segments.subrecords_fault.Given as goal

-- the first fault is that of the subrecords that are left
abbrev pub invariant-loop-subrecord : goal.invariant-loop-subrecord
invariant-loop-subrecord l = first_past l.count (flat_map (λ s. in_subrecord s.item) l.subrecord-iterator) ≡ first_past l.count (flat_map (λ s. in_subrecord s.item) l.fn.subrecords)
