use Rattle.omf_drafting.proofs.SeenLaws.{look_among}
use Rattle.omf_drafting.proofs.laws.drafts_look_among_publics.Goals as goal

pub returns : goal.returns
returns c = look_among
