use Rattle.omf_layout.proofs.DosLaws.RankLaws.{parts-lie-apart}
use Rattle.omf_layout.proofs.own.laws.dos_parts_lie_apart.Goals as goal

pub returns : goal.returns
returns c = parts-lie-apart
