use Rattle.std.proofs.Common.{◌≡◌, ◌∙◌, refl, ap, subst, take, arith, None}
use Rattle.std.specs.Prelude.{◌==◌, OnSome}
use Rattle.omf_frame.specs.Framing.{frame_fault, standing_fault, is_whole, present}
use Rattle.omf_frame.proofs.Ahead.{on_some, part_shown, shown_now, type_some, whole_some, sound_is, whole_is, whole_long}
use Rattle.omf_frame.proofs.framer.whole_front.Goals as goal

pub returns-then-bytes-size-clause-stands : goal.returns-then-bytes-size-clause-stands
returns-then-bytes-size-clause-stands c =
    part_shown (c.args.number == 0) c.args.bytes.now (omega (arith, c.if-bytes-size.true, c.record_len-size.ensures.same))

pub returns-in-Some-clause-stands : goal.returns-in-Some-clause-stands
returns-in-Some-clause-stands c =
    let n = c.record_len-size.result in
    let b = c.args.bytes.now in
    type_some (c.args.number == 0) b (take n b) n c.record_len-size.ensures.same refl c.type_fault.result _ c.type_fault.ensures c.in-Some.is

pub returns-in-Some-whole_fault-clause-stands : goal.returns-in-Some-whole_fault-clause-stands
returns-in-Some-whole_fault-clause-stands c =
    let n = c.record_len-size.result in
    let b = c.args.bytes.now in
    whole_some (c.args.number == 0) b (take n b) n c.record_len-size.ensures.same refl c.type_fault.result c.whole_fault.result _ c.type_fault.ensures c.in_default.is c.whole_fault.ensures c.in-Some-whole_fault.is

pub front-requires-clause-sound : goal.front-requires-clause-sound
front-requires-clause-sound c =
    let n = c.record_len-size.result in
    let b = c.args.bytes.now in
    sound_is (c.args.number == 0) b (take n b) n c.record_len-size.ensures.same refl c.type_fault.result c.whole_fault.result c.type_fault.ensures c.in_default.is c.whole_fault.ensures c.in_default-whole_fault.is

pub returns-clause-stands : goal.returns-clause-stands
returns-clause-stands c =
    let n = c.record_len-size.result in
    let b = c.args.bytes.now in
    let f = c.args.number == 0 in
    let w = whole_is f b (take n b) n c.record_len-size.ensures.same refl in
    shown_now c.front.result f (present b) (c.front.ensures.stands ∙ ap is_whole w ∙ whole_long b (omega (arith, c.if-bytes-size.false, c.record_len-size.ensures.same)))
    (subst (λ x. OnSome c.front.result (frame_fault f x ≡ None)) w c.front.ensures.sound)

pub returns-clause-sound : goal.returns-clause-sound
returns-clause-sound c =
    let n = c.record_len-size.result in
    let b = c.args.bytes.now in
    let f = c.args.number == 0 in
    subst (λ x. OnSome c.front.result (frame_fault f x ≡ None)) (whole_is f b (take n b) n c.record_len-size.ensures.same refl) c.front.ensures.sound

pub returns-clause-standing : goal.returns-clause-standing
returns-clause-standing c =
    let n = c.record_len-size.result in
    let b = c.args.bytes.now in
    let f = c.args.number == 0 in
    on_some c.front.result (subst (λ x. standing_fault f x ≡ None) (whole_is f b (take n b) n c.record_len-size.ensures.same refl)
    (sound_is f b (take n b) n c.record_len-size.ensures.same refl c.type_fault.result c.whole_fault.result c.type_fault.ensures c.in_default.is c.whole_fault.ensures c.in_default-whole_fault.is))
