use Rattle.omf_records.specs.Inner.Meets.{whole_meets}
use Rattle.omf_virtual.specs.Inner.Readers.{comdef_whole}
use Rattle.omf_virtual.proofs.laws.readings_meet_layout.Goals as goal

pub returns : goal.returns
returns c = λ body h. whole_meets comdef_whole 3 body h
