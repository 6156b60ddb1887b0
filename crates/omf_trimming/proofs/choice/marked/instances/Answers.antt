use Rattle.std.proofs.Common.{◌∙◌, sym, ap, ◌++◌, arith}
use Rattle.omf_frame.specs.declared.fault.Place.{Place}
use Rattle.omf_records.specs.Values.{Rec}
use Rattle.omf_check.specs.Module.{recs_of}
use Rattle.omf_trimming.proofs.ChoiceLaws.{next-listed, other-walks, segment-walks, walk-ends}
use Rattle.omf_trimming.proofs.choice.marked.instances.Goals as goal

pub with_one-segments-requires : goal.with_one-segments-requires
with_one-segments-requires c =
    let w = c.loop-place.invariant in
    let x : Place × Rec = (c.in-Some.place, c.in-Some.record) in
    let n = next-listed w.number w.start w.rest x c.next.new.self (sym c.in-Some.ensures.steps ∙ w.listed) in
    omega (arith, n.number_is, w.low)

pub loop-place-preserved-in-Some-as_segment : goal.loop-place-preserved-in-Some-as_segment
loop-place-preserved-in-Some-as_segment c =
    let m = recs_of c.args.«module».now.bytes in
    let x : Place × Rec = (c.in-Some.place, c.in-Some.record) in
    let s = c.in-Some-as_segment.segment in
    rw c.length_of-size.ensures (rw c.with_one-segments.ensures (rw c.kind.ensures (segment-walks m c.loop-place.found.items c.loop-place.segments c.loop-place.begun c.loop-place.place-iterator c.next.new.self x s c.loop-place.invariant c.in-Some.ensures.steps c.in-Some-as_segment.ensures.some)))

pub loop-place-preserved : goal.loop-place-preserved
loop-place-preserved c =
    let m = recs_of c.args.«module».now.bytes in
    let x : Place × Rec = (c.in-Some.place, c.in-Some.record) in
    other-walks m c.loop-place.found.items c.push_some.new.found.items c.loop-place.segments c.loop-place.begun c.next-begun.result c.loop-place.place-iterator c.next.new.self x c.loop-place.invariant c.in-Some.ensures.steps
    c.in_default.ensures.none (c.in_ok-push_some.ensures ∙ ap (λ ys. c.loop-place.found.items ++ ys) c.ended_by.ensures) (λ k rest. c.next-begun.ensures k rest)

pub returns : goal.returns
returns c = walk-ends (recs_of c.args.«module».now.bytes) c.loop-place.found.items c.loop-place.segments c.loop-place.begun c.loop-place.place-iterator c.loop-place.invariant c.in-None.ensures.steps.0
