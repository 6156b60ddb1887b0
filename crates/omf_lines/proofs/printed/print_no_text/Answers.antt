use Rattle.std.proofs.Common.{◌∷◌, [], List, ℕ, codes, subst, sym}
use Rattle.omf_cmd.specs.Printed.{line}
use Rattle.omf_cmd.specs.Runs.{IsWritten}
use Rattle.omf_cmd.specs.declared.fault.RunFault.TheVariants.{Write}
use Rattle.omf_cmd.proofs.Written.{cut_text, then_text}
use Rattle.omf_lines.specs.Faults.{input_at}
use Rattle.omf_lines.proofs.LinkLines.{no_text_line}
use Rattle.omf_lines.proofs.printed.print_no_text.Goals as goal

pub returns-in-Ok : goal.returns-in-Ok
returns-in-Ok g c =
    let old = g.K.Sink.seen c.args.writer.now in
    let new = g.K.Sink.seen c.print_words.new.writer in
    subst (λ (t : List ℕ). IsWritten old new t) (sym (no_text_line c.args.at))
    (then_text Write old (g.K.Sink.seen c.write_offset.new.writer) new (input_at c.args.at) (line (codes ": no module and no text" ∷ [])) c.in-Ok.ensures c.print_words.ensures)

pub returns-in_default : goal.returns-in_default
returns-in_default g c =
    let old = g.K.Sink.seen c.args.writer.now in
    let new = g.K.Sink.seen c.write_offset.new.writer in
    subst (λ (t : List ℕ). IsWritten old new t) (sym (no_text_line c.args.at))
    (cut_text Write old new (input_at c.args.at) (line (codes ": no module and no text" ∷ [])) c.in_default.field-0 c.in_default.ensures)
