use Rattle.std.proofs.Common.{List, ℕ, ap, subst, ◌++◌, ◌∙◌}
use Rattle.std.specs.Io.KnownBytes.{Appends}
use Rattle.omf_dump.specs.Library.{left_text}
use Rattle.omf_dump.proofs.file.show_left.Goals as goal

pub returns : goal.returns
returns g c =
    let made = c.in-Ok.ensures ∙ ap (λ (t : List ℕ). t ++ left_text c.args.mode.style.format c.args.offset c.args.bytes.now) c.new-text.ensures.items in
    let sent = subst (λ (t : List ℕ). Appends (g.K.Sink.seen c.args.writer.now).bytes (g.K.Sink.seen c.send.new.writer).bytes t) c.deref.ensures.value c.in_ok-send.ensures in
    (c.put_left.new.text.items, made, sent)
