use Rattle.std.proofs.Common.{◌∙◌, ap, sym}
use Rattle.std.specs.Prelude.{flat_map}
use Rattle.omf_lowering.specs.Segments.{first_past, in_subrecord}
use Rattle.omf_lowering.proofs.SegmentLaws.{none_first, some_first}
use Rattle.omf_lowering.proofs.segments.subrecords_fault.Goals as goal

pub returns-in-Some-subrecord_fault : goal.returns-in-Some-subrecord_fault
returns-in-Some-subrecord_fault c =
    let s = c.in-Some.subrecord in
    some_first c.args.count (in_subrecord s.item) (flat_map (λ s. in_subrecord s.item) c.next.new.self) (flat_map (λ s. in_subrecord s.item) c.loop-subrecord.subrecord-iterator) c.in-Some-subrecord_fault.fault
    (first_past c.args.count (flat_map (λ s. in_subrecord s.item) c.args.subrecords)) (sym (ap (λ s. first_past c.args.count (in_subrecord s.item)) c.subrecord.view_is) ∙ sym c.in-Some-subrecord_fault.ensures) (ap (flat_map (λ s. in_subrecord s.item)) c.in-Some.ensures.steps) c.loop-subrecord.invariant

pub loop-subrecord-preserved : goal.loop-subrecord-preserved
loop-subrecord-preserved c =
    let s = c.in-Some.subrecord in
    none_first c.args.count (in_subrecord s.item) (flat_map (λ s. in_subrecord s.item) c.next.new.self) (flat_map (λ s. in_subrecord s.item) c.loop-subrecord.subrecord-iterator)
    (first_past c.args.count (flat_map (λ s. in_subrecord s.item) c.args.subrecords)) (sym (ap (λ s. first_past c.args.count (in_subrecord s.item)) c.subrecord.view_is) ∙ sym c.in-None-subrecord_fault.ensures) (ap (flat_map (λ s. in_subrecord s.item)) c.in-Some.ensures.steps) c.loop-subrecord.invariant
