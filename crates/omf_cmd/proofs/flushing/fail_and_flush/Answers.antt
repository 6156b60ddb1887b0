use Rattle.std.proofs.Common.{refl}
use Rattle.omf_cmd.proofs.flushing.fail_and_flush.Goals as goal

pub returns-clause-prints : goal.returns-clause-prints
returns-clause-prints g c = λ reader.
    let between = c.fail_early-status.new.writer in
    record {
      between = record { bytes = g.W.Write.contents between.writer; failures = between.tally.failures; breaks = between.tally.breaks };
      ended = c.fail_early-status.result;
      answer = (refl, c.fail_early-status.ensures.status, c.fail_early-status.ensures.prints);
      kept = c.flush.ensures.bytes;
      is = rw c.fail_early-status.ensures.status refl;
    }
