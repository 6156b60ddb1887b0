use Rattle.std.proofs.Common.{subst}
use Rattle.omf_lib.specs.Members.{IsLibraryRead}
use Rattle.omf_lib.proofs.FindLaws.{found_there}
use Rattle.omf_lib.proofs.finding.put_file.Goals as goal

pub returns-in_ok-is_refused-in-Ok : goal.returns-in_ok-is_refused-in-Ok
returns-in_ok-is_refused-in-Ok c =
    found_there c.args.asked.now c.args.bytes.now c.in-Ok.library _ _ _ (subst (IsLibraryRead c.args.bytes.now) c.in-Ok.is c.in_ok-library.ensures) c.in_ok-is_refused-in-Ok.ensures
