use Rattle.std.proofs.Common.{◌≡◌, ◌++◌, ◌∙◌, sym, ap}
use Rattle.omf_frame.specs.Framing.{front_record, raw_bytes}
use Rattle.omf_lowering.specs.Inner.State.{added, seen}
use Rattle.omf_lowering.proofs.FrontLaws.{sound_front}
use Rattle.omf_lowering.proofs.lowering.take_front.Goals as goal

pub returns-in-Ok-take-clause-spelled : goal.returns-in-Ok-take-clause-spelled
returns-in-Ok-take-clause-spelled c =
    let bytes = c.args.bytes.now in
    let f = sound_front bytes (λ i. (c.type_inv.bytes i).fits) c.in-Ok.ensures.sound in
    f.spelled ∙ ap (λ l. raw_bytes (front_record bytes) ++ l) (sym c.in-Ok.ensures.rest)

pub returns-in-Ok-take-clause-wide : goal.returns-in-Ok-take-clause-wide
returns-in-Ok-take-clause-wide c = (sound_front c.args.bytes.now (λ i. (c.type_inv.bytes i).fits) c.in-Ok.ensures.sound).wide

pub returns-in-Ok-take-clause-added : goal.returns-in-Ok-take-clause-added
returns-in-Ok-take-clause-added c =
    let front = c.in-Ok.front in
    let raw = front_record c.args.bytes.now in
    let same : seen front ≡ raw =
    ap (λ k. record { kind = k; body = front.body.now; checksum = front.checksum }) c.in-Ok.ensures.kind
    ∙ ap (λ b. record { kind = raw.kind; body = b; checksum = front.checksum }) c.in-Ok.ensures.body
    ∙ ap (λ s. record { kind = raw.kind; body = raw.body; checksum = s }) c.in-Ok.ensures.sum in
    c.in-Ok-take.ensures.ok ∙ ap (added c.args.work.now) same
