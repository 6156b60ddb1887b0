use Rattle.std.proofs.Common.{refl}
use Rattle.omf_cmd.proofs.program.act.Goals as goal

pub returns-in-Ok-clause-acts : goal.returns-in-Ok-clause-acts
returns-in-Ok-clause-acts g c = rw c.in-Some.is record {
  ran = c.perform.result;
  between = g.K.Sink.seen c.perform.new.writer;
  run = c.perform.ensures;
  ended = rw c.in-Ok.is (refl, refl);
}

pub returns-in-Err-clause-acts : goal.returns-in-Err-clause-acts
returns-in-Err-clause-acts g c = rw c.in-Some.is record {
  ran = c.perform.result;
  between = g.K.Sink.seen c.perform.new.writer;
  run = c.perform.ensures;
  ended = rw c.in-Err.is (c.fail.ensures.status, c.fail.ensures.prints);
}
