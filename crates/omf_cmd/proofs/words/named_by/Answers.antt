use Rattle.std.proofs.Common.{◌≡◌, sym, ap, ◌∙◌}
use Rattle.clap.proofs.WalkLemmas.{one_text-rows}
use Rattle.clap.specs.Words.{found_of, rows_of, subcommand_rows_of}
use Rattle.omf_cmd.specs.Words.{flag_id, job_named}
use Rattle.omf_cmd.proofs.Parsed.{name_at, flag_at, flag_value, same_job}
use Rattle.omf_cmd.proofs.words.named_by.Goals as goal

pub returns-clause-some : goal.returns-clause-some
returns-clause-some c name job refuses parse is_job =
    let names = c.in_ok-name.ensures.name ∙ name_at _ _ _ ∙ parse.named in
    let flag = one_text-rows (found_of c.in_ok-name.inner.now) flag_id ∙ sym (flag_at (subcommand_rows_of c.args.matches.now) (rows_of (found_of c.in_ok-name.inner.now)) c.in_ok-name.ensures.rows) ∙ parse.set in
    let set = flag_value refuses _ _ c.get_flag-refuse_vendor_comments.ensures.value c.get_flag-refuse_vendor_comments.ensures.other flag in
    let same : c.in_ok-name.name.now ≡ name = cc in
    same_job _ _ c.in_ok-job.job job c.get_flag-refuse_vendor_comments.result refuses c.in_ok-job.was (c.job_named.ensures ∙ ap job_named same) is_job set
