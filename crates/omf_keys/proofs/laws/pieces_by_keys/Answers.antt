use Rattle.omf_keys.proofs.MainLaws.{same-mains}
use Rattle.omf_keys.proofs.PieceLaws.{same-pieces}
use Rattle.omf_keys.proofs.laws.pieces_by_keys.Goals as goal
use Rattle.omf_image.specs.Limits.{profile_limits}
use Rattle.omf_check.specs.Module.{recs_of, records_in}

pub returns : goal.returns
returns c = λ m n h.
    let e = (c.canonicals_decide.ensures m.profile n.profile profile_limits profile_limits m.bytes n.bytes (records_in m.bytes) (records_in n.bytes) h.first h.second).0 h.keys in
    let bare = same-pieces c.skeletons_are_unique.ensures c.fixups_stand_alone.ensures (recs_of m.bytes) (recs_of n.bytes) e in
    record { bare = bare; mains = same-mains m n h.first h.second bare }
