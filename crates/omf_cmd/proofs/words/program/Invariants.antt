use Rattle.std.proofs.Common.{◌≡◌, drop, map}
use Rattle.std.specs.Prelude.{fold}
use Rattle.clap.specs.Words.{app_of}
use Rattle.omf_cmd.specs.Words.{job_name, jobs, omf_app, with_flagged}
use Rattle.omf_cmd.proofs.words.program.Given as goal

-- with the subcommands that are left it is the command line
abbrev pub invariant-loop-job : goal.invariant-loop-job
invariant-loop-job l = fold with_flagged (app_of l.omf) (map job_name (drop l.job-index jobs)) ≡ omf_app
