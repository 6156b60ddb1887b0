use Rattle.omf_cmd.proofs.jobs.OmfProgram.perform.Goals as goal

pub returns : goal.returns
returns g c = record { run = c.run_job.ensures.runs; cause = c.run_job.ensures.cause; named = c.run_job.ensures.named }
