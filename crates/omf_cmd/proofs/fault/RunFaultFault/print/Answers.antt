use Rattle.std.proofs.Common.{subst}
use Rattle.omf_cmd.specs.Runs.{IsWritten}
use Rattle.omf_cmd.proofs.Written.{printed_text}
use Rattle.omf_cmd.proofs.fault.RunFaultFault.print.Goals as goal
use Rattle.omf_cmd.proofs.fault.RunFaultFault.print.Goals.{in-Write, in_default}

pub returns-then-not-matches : goal.returns-then-not-matches
returns-then-not-matches g c = elim c.match-matches.branch [
  | in-Write w ↦ let e = w.matches-is in absurd cc
  | in_default w ↦ subst (IsWritten (g.K.Sink.seen c.args.writer.now) (g.K.Sink.seen c.print_fault.new.writer)) (printed_text c.args.self.now w.in_default.not-Write) c.print_fault.ensures
]
