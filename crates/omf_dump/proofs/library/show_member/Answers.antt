use Rattle.std.proofs.Common.{List, ℕ, ap, subst, ◌++◌, ◌∙◌}
use Rattle.std.specs.Io.KnownBytes.{Appends}
use Rattle.omf_dump.specs.Library.{title_text}
use Rattle.omf_dump.proofs.LibraryLaws.{titled}
use Rattle.omf_dump.proofs.library.show_member.Goals as goal

pub returns : goal.returns
returns g c =
    let made = c.in-Ok.ensures ∙ ap (λ (t : List ℕ). t ++ title_text c.args.mode.style.format c.args.spot c.args.bytes.now) c.new-title.ensures.items in
    let sent = subst (λ (t : List ℕ). Appends (g.K.Sink.seen c.args.writer.now).bytes (g.K.Sink.seen c.send.new.writer).bytes t) c.deref.ensures.value c.in_ok-send.ensures in
    titled c.args.mode c.args.spot c.args.bytes.now _ _ _ _ c.put_title.new.text.items made sent c.in_ok-is_refused.ensures
