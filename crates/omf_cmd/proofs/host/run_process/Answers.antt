use Rattle.omf_cmd.proofs.ProgramLaws.{ran_out}
use Rattle.omf_cmd.proofs.host.run_process.Goals as goal

pub returns-in-Err-clause-ran : goal.returns-in-Err-clause-ran
returns-in-Err-clause-ran g c =
    let old = c.args.output.now in
    let new = c.fail_and_flush.new.output in
    ran_out g.P.Program.asks g.P.Program.performs g.P.Fault.Fault.report g.P.Program.called
    (record { bytes = g.W.Write.contents old.writer; failures = old.tally.failures; breaks = old.tally.breaks })
    (record { bytes = g.W.Write.contents new.writer; failures = new.tally.failures; breaks = new.tally.breaks })
    new.is_flushed c.fail_and_flush.result c.fail_and_flush.ensures.prints
