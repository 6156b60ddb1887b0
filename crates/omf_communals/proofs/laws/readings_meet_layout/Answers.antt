use Rattle.omf_records.specs.Inner.Meets.{whole_meets}
use Rattle.omf_communals.specs.Inner.Readers.{typdef_whole}
use Rattle.omf_communals.proofs.laws.readings_meet_layout.Goals as goal

pub returns : goal.returns
returns c = λ body h. whole_meets typdef_whole 3 body h
