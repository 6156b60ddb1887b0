use Rattle.std.proofs.Common.{[], refl, sym, subst, inr}
use Rattle.std.proofs.lemmas.List.{append-nil}
use Rattle.omf_making.specs.Taken.{IsJudgement}
use Rattle.omf_lib.specs.Find.{any_profile}
use Rattle.omf_lib.specs.Members.{publics_seen}
use Rattle.omf_lib.proofs.finding.push_publics.Goals as goal

pub returns-in-Refused : goal.returns-in-Refused
returns-in-Refused c = (
  [],
  inr (c.in-Refused.field-0, subst (IsJudgement any_profile c.args.member.now.bytes.now) c.in-Refused.is c.in_ok-taken.ensures, refl),
  sym (append-nil (publics_seen c.args.all.now.items)),
)
