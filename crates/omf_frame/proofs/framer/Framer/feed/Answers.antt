use Rattle.std.proofs.Common.{◌≡◌, ◌∙◌, None, false, ap}
use Rattle.omf_frame.specs.Framing.{is_whole}
use Rattle.omf_frame.proofs.States.{takes}
use Rattle.omf_frame.proofs.framer.Framer.feed.Goals as goal

pub returns-in-Ok-clause-ok : goal.returns-in-Ok-clause-ok
returns-in-Ok-clause-ok c =
    let a = c.self.inside in
    let h = c.in-Ok.ensures in
    let no_fault : a.fault ≡ None = c.in_default.is in
    let going : a.ended ≡ false = c.if-self.false in
    rw (← c.self.view_is) (takes a.bytes.items a.number a.start a.ended a.fault c.args.piece.now c.in-Ok.taken c.is_whole.result c.advance.new.bytes.items no_fault going h.ok h.grown h.taken h.bound h.sound (c.is_whole.ensures ∙ ap is_whole c.deref.ensures.value))
