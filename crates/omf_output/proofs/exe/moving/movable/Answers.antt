use Rattle.std.proofs.Common.{◌∙◌, ap, sym}
use Rattle.omf_check.specs.Listed.{placed_from}
use Rattle.omf_check.specs.Module.{records_in}
use Rattle.omf_check.specs.WellFormed.{recs}
use Rattle.omf_reloc.proofs.PieceLaws.{pieces-listed}
use Rattle.omf_check.proofs.ListedLaws.{records_listed}
use Rattle.omf_output.proofs.MovableLaws.{decided-by}
use Rattle.omf_output.proofs.exe.moving.movable.Goals as goal

pub returns-clause-decided : goal.returns-clause-decided
returns-clause-decided c =
    let rs = records_in c.args.module.now.bytes in
    decided-by c.args.movers.now (recs rs) _ (pieces-listed (recs rs) (placed_from 0 0 rs) (records_listed 0 0 rs)) c.first_unmoved.result c.first_unmoved.ensures
