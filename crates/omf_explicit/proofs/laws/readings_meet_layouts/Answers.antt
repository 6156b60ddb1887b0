use Rattle.omf_records.specs.Inner.Meets.{whole_meets}
use Rattle.omf_explicit.specs.Inner.Readers.{fixupp_whole, start_whole}
use Rattle.omf_explicit.proofs.laws.readings_meet_layouts.Goals as goal

pub returns : goal.returns
returns c = record {
  fixupp = λ wide body h. whole_meets (fixupp_whole wide) 3 body h;
  start = λ wide body h. whole_meets (start_whole wide) 3 body h;
}
