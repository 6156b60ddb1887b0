use Rattle.std.proofs.Common.{List, ℕ, ap, subst, ◌++◌, ◌∙◌}
use Rattle.std.specs.Io.KnownBytes.{Appends}
use Rattle.omf_dump.specs.Library.{module_title}
use Rattle.omf_dump.proofs.FileLaws.{titled}
use Rattle.omf_dump.proofs.file.show_next.Goals as goal

pub returns : goal.returns
returns g c =
    let made = c.in-Ok.ensures ∙ ap (λ (t : List ℕ). t ++ module_title c.args.mode.style.format c.args.rest.number c.args.rest.start c.args.rest.bytes.now) c.new-title.ensures.items in
    let sent = subst (λ (t : List ℕ). Appends (g.K.Sink.seen c.args.writer.now).bytes (g.K.Sink.seen c.send.new.writer).bytes t) c.deref.ensures.value c.in_ok-send.ensures in
    titled c.args.mode c.args.rest.number c.args.rest.start c.args.rest.bytes.now _ _ _ _ c.put_module_title.new.text.items made sent c.in_ok-is_refused.ensures
