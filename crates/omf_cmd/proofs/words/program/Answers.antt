use Rattle.std.proofs.Common.{ap, ◌∙◌}
use Rattle.clap.specs.Words.{app_of}
use Rattle.omf_cmd.specs.Words.{with_flagged}
use Rattle.omf_cmd.proofs.Parsed.{next_job}
use Rattle.omf_cmd.proofs.words.program.Goals as goal

pub loop-job-preserved : goal.loop-job-preserved
loop-job-preserved c =
    let same = c.in_ok-omf.ensures ∙ ap (with_flagged (app_of c.loop-job.omf)) c.name.ensures in
    next_job c.loop-job.job-index _ (app_of c.loop-job.omf) (app_of c.in_ok-omf.omf) c.loop-job-test.true same c.loop-job.invariant
