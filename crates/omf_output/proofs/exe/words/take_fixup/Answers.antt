use Rattle.std.proofs.Common.{ℕ, ◌+◌, ◌++◌, ◌∙◌, ap, sym}
use Rattle.std.specs.Prelude.{Some}
use Rattle.omf_reloc.specs.Inner.Names.{location_start}
use Rattle.omf_reloc.specs.Laws.{location_end}
use Rattle.omf_reloc.specs.Plain.{PlainFixup}
use Rattle.omf_output.specs.Exe.Overlaps.{are_clear, word_of}
use Rattle.omf_output.proofs.MarkLaws.{not-taken, taken}
use Rattle.omf_output.proofs.exe.words.take_fixup.Goals as goal

pub returns-then-not-is_fixup_clear : goal.returns-then-not-is_fixup_clear
returns-then-not-is_fixup_clear c kind =
    let ws = c.args.words.now in
    let s = c.args.source in
    let f : ℕ × PlainFixup = (kind, c.args.fixup.now) in
    not-taken c.is_fixup_clear.result (are_clear ws (s.1 + location_start f) (s.1 + location_end f)) (Some (ws ++ word_of c.args.movers.now s.0 s.1 f))
    (c.is_fixup_clear.ensures kind) c.if-not-is_fixup_clear.true

pub returns : goal.returns
returns c kind =
    let ws = c.args.words.now in
    let s = c.args.source in
    let f : ℕ × PlainFixup = (kind, c.args.fixup.now) in
    taken c.is_fixup_clear.result (are_clear ws (s.1 + location_start f) (s.1 + location_end f)) (Some (ws ++ word_of c.args.movers.now s.0 s.1 f))
    (c.is_fixup_clear.ensures kind) c.if-not-is_fixup_clear.false
    ∙ ap Some (sym (c.in_ok-add_site.ensures kind))
