use Rattle.omf_drafting.proofs.TellingLaws.{failed_later}
use Rattle.omf_drafting.proofs.telling.perform.Goals as goal

pub returns-in_ok-tell_fault-in-Err : goal.returns-in_ok-tell_fault-in-Err
returns-in_ok-tell_fault-in-Err g c =
    let told = c.in_ok-tell_fault-in-Err.ensures in
    failed_later (g.P.Program.performs c.args.task) g.P.Fault.Fault.report c.args.streams.now.name.now _ _ _ g.K.Sink.seen c.perform.new.writer c.tell_fault.new.streams.output _ _ c.in-Err.fault c.of_code.result c.status.result told.output c.in-Err.ensures c.of_code.ensures c.status.ensures.status told.told
