use Rattle.omf_keys.proofs.laws.meanings_by_keys.Goals as goal
use Rattle.omf_image.specs.Limits.{profile_limits}
use Rattle.omf_check.specs.Module.{recs_of, records_in}

pub returns : goal.returns
returns c = λ m n h pl. c.equal_skeletons.ensures profile_limits pl (recs_of m.bytes) (recs_of n.bytes)
    ((c.canonicals_decide.ensures m.profile n.profile profile_limits profile_limits m.bytes n.bytes (records_in m.bytes) (records_in n.bytes) h.first h.second).0 h.keys)
