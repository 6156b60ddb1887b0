use Rattle.std.proofs.Common.{[], inr, refl, subst}
use Rattle.omf_library.specs.Dictionary.{is_case_sensitive}
use Rattle.omf_making.specs.Taken.{IsJudgement}
use Rattle.omf_lib.proofs.DefiningLaws.{module_added, ok_given}
use Rattle.omf_lib.proofs.KeyLaws.{same_keys}
use Rattle.omf_lib.proofs.judging.judge_member.Goals as goal

pub returns-in-Refused : goal.returns-in-Refused
returns-in-Refused c = λ done h. ok_given c.put_refused.result (
  [],
  inr (c.in-Refused.why, subst (IsJudgement c.args.profile c.args.member.now.bytes.now) c.in-Refused.is c.in_ok-why.ensures, refl),
  same_keys c.args.keys.now done h,
)

pub returns-in_ok-judge_names-in-Taken : goal.returns-in_ok-judge_names-in-Taken
returns-in_ok-judge_names-in-Taken c = λ done h. ok_given c.note_lowered.result (
    module_added c.args.profile c.args.library.now.header.page c.args.member.now.offset c.args.member.now.bytes.now c.in-Taken.taken (is_case_sensitive c.args.library.now.header) done c.judge_names.new.keys
    (subst (IsJudgement c.args.profile c.args.member.now.bytes.now) c.in-Taken.is c.in_ok-why.ensures) (c.in_ok-judge_names-in-Taken.ensures done h))
