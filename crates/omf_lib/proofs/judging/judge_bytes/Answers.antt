use Rattle.std.proofs.Common.{subst}
use Rattle.omf_lib.specs.Members.{IsLibraryRead}
use Rattle.omf_lib.proofs.DefiningLaws.{all_there}
use Rattle.omf_lib.proofs.judging.judge_bytes.Goals as goal

pub returns-in-Ok : goal.returns-in-Ok
returns-in-Ok g c = all_there c.args.profile c.args.bytes.now c.in-Ok.library c.judge_library.result (subst (IsLibraryRead c.args.bytes.now) c.in-Ok.is c.in_ok-library.ensures) c.judge_library.ensures
