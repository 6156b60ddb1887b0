use Rattle.std.proofs.Common.{List, ℕ, ap, subst, ◌++◌, ◌∙◌, arith}
use Rattle.std.specs.Io.KnownBytes.{Appends}
use Rattle.omf_library.specs.declared.header.Header.{Header}
use Rattle.omf_dump.specs.Library.{header_text}
use Rattle.omf_dump.proofs.LibraryLaws.{headed}
use Rattle.omf_dump.proofs.library.show_library.Goals as goal

pub show_pages-requires : goal.show_pages-requires
show_pages-requires g c = record {
  header = c.requires.0;
  page = ap (λ (h : Header). h.page) c.requires.1;
  small = omega arith;
}

pub returns : goal.returns
returns g c =
    let made = c.in-Ok.ensures ∙ ap (λ (t : List ℕ). t ++ header_text c.args.mode.style.format c.args.header) c.new-line.ensures.items in
    let sent = subst (λ (t : List ℕ). Appends (g.K.Sink.seen c.args.writer.now).bytes (g.K.Sink.seen c.send.new.writer).bytes t) c.deref.ensures.value c.in_ok-send.ensures in
    headed c.args.mode c.args.bytes.now c.args.header _ _ _ _ c.put_header.new.text.items c.requires.1 made sent c.in_ok-is_refused.ensures
