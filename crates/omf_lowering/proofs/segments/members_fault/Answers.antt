use Rattle.std.proofs.Common.{[], ◌∷◌, ◌∙◌, ap, map, sym}
use Rattle.omf_lowering.specs.Segments.{first_past}
use Rattle.omf_lowering.proofs.SegmentLaws.{none_first, some_first}
use Rattle.omf_lowering.proofs.segments.members_fault.Goals as goal

pub returns-in-Some-member_fault : goal.returns-in-Some-member_fault
returns-in-Some-member_fault c =
    let m = c.in-Some.member in
    some_first c.args.count (m.item ∷ []) (map (λ m. m.item) c.next.new.self) (map (λ m. m.item) c.loop-member.member-iterator) c.in-Some-member_fault.fault (first_past c.args.count (map (λ m. m.item) c.args.members))
    (sym (ap (λ m. first_past c.args.count (m.item ∷ [])) c.member.view_is) ∙ sym c.in-Some-member_fault.ensures) (ap (map (λ m. m.item)) c.in-Some.ensures.steps) c.loop-member.invariant

pub loop-member-preserved : goal.loop-member-preserved
loop-member-preserved c =
    let m = c.in-Some.member in
    none_first c.args.count (m.item ∷ []) (map (λ m. m.item) c.next.new.self) (map (λ m. m.item) c.loop-member.member-iterator) (first_past c.args.count (map (λ m. m.item) c.args.members))
    (sym (ap (λ m. first_past c.args.count (m.item ∷ [])) c.member.view_is) ∙ sym c.in-None-member_fault.ensures) (ap (map (λ m. m.item)) c.in-Some.ensures.steps) c.loop-member.invariant
