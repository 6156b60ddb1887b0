use Rattle.std.proofs.Common.{List, ℕ, subst, sym}
use Rattle.omf_cmd.specs.Runs.{IsWritten}
use Rattle.omf_lines.proofs.LinkLines.{refused_line}
use Rattle.omf_lines.proofs.printed.print_link.Goals as goal

pub returns-in-Refused : goal.returns-in-Refused
returns-in-Refused g c =
    rw c.in-Refused.is (subst (λ (t : List ℕ). IsWritten (g.K.Sink.seen c.args.writer.now) (g.K.Sink.seen c.print_in_module.new.writer) t) (sym (refused_line c.in-Refused.«module» c.in-Refused.reason c.in-Refused.place)) c.print_in_module.ensures)

pub returns-in-Read : goal.returns-in-Read
returns-in-Read g c = rw c.in-Read.is c.print-in-Read.ensures

pub returns-in-Line : goal.returns-in-Line
returns-in-Line g c = rw c.in-Line.is c.print_not_linked.ensures

pub returns-in-NoText : goal.returns-in-NoText
returns-in-NoText g c = rw c.in-NoText.is c.print_no_text.ensures

pub returns-in-NoModules : goal.returns-in-NoModules
returns-in-NoModules g c = rw c.in-NoModules.is c.print_words.ensures

pub returns-in-External : goal.returns-in-External
returns-in-External g c = rw c.in-External.is c.print_not_linked-in-External.ensures

pub returns-in-Reach : goal.returns-in-Reach
returns-in-Reach g c = rw c.in-Reach.is c.print_not_linked-in-Reach.ensures

pub returns-in-Starts : goal.returns-in-Starts
returns-in-Starts g c = rw c.in-Starts.is c.print_not_linked-in-Starts.ensures

pub returns-in-Space : goal.returns-in-Space
returns-in-Space g c = rw c.in-Space.is c.print_not_linked-in-Space.ensures
