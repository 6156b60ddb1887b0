-- The arguments of `omf`, and its exit statuses (this profile's rule).
use Rattle.std.specs.Prelude.{ℕ, List, [], ◌∷◌, ◌++◌, Bool, true, false, Option, Some, None, find, option_map, fold, map, codes, if◌then◌else◌}
use Rattle.std.specs.Str.{bytes_eq}
use Rattle.omf_check.specs.declared.profile.Profile.{Profile}
use Rattle.omf_cmd.specs.declared.fault.RunFault.{RunFault}
use Rattle.omf_cmd.specs.declared.fault.RunFault.TheVariants as fault
use Rattle.omf_cmd.specs.declared.words.Job.{Job}
use Rattle.omf_cmd.specs.declared.words.Job.TheVariants as job
use Rattle.clap.specs.Words.{App, Text, new_app, new_rule, with_rule, with_subcommand}
use Rattle.clap.specs.declared.builder.ArgAction.TheVariants.{SetTrue}

-- The jobs, in the order of the usage line, and the names of their subcommands.
abbrev pub jobs : List Job
jobs = job.List ∷ job.Check ∷ job.Reloc ∷ job.Canon ∷ []

abbrev pub job_name : Job → List ℕ
job_name job.List = codes "list"
job_name job.Check = codes "check"
job_name job.Reloc = codes "reloc"
job_name job.Canon = codes "canon"

abbrev pub job_named : List ℕ → Option Job
job_named name = find (λ j. bytes_eq name (job_name j)) jobs

abbrev pub profile_of : Bool → Profile
profile_of refuses = record { refuse_vendor_comments = refuses }

-- After the program's own name a subcommand, alone or followed by the flag.
abbrev pub asks : List (List ℕ) → Option (Job × Profile)
asks (program ∷ name ∷ []) = option_map (λ j. (j, profile_of false)) (job_named name)
asks (program ∷ name ∷ f ∷ []) = if bytes_eq f (codes "--refuse-vendor-comments") then option_map (λ j. (j, profile_of true)) (job_named name) else None
asks _ = None

-- The exit status of a fault: 3 for memory and devices, 1 if the input is refused.
abbrev pub status_of : RunFault → ℕ
status_of fault.Memory = 3
status_of fault.Read = 3
status_of fault.Write = 3
status_of _ = 1

-- The text printed if the arguments are not understood.
abbrev pub usage : List ℕ
usage = codes "usage: omf list|check|reloc|canon [--refuse-vendor-comments]" ++ 10 ∷ []

-- the value of the flag in clap
abbrev pub flag_text : Bool → Text
flag_text refuses = if refuses then codes "true" else codes "false"

-- The command line of `omf` in clap's definitions: a subcommand for each job, which has the flag.
abbrev pub flag_id : Text
flag_id = codes "refuse-vendor-comments"

abbrev pub with_flagged : App → Text → App
with_flagged app name = with_subcommand app (with_rule (new_app name) (record (new_rule flag_id) { long = Some flag_id; action = Some SetTrue })).top

abbrev pub omf_app : App
omf_app = fold with_flagged (new_app (codes "omf")) (map job_name jobs)
