use Rattle.omf_check.specs.WellFormed.{recs}
use Rattle.omf_canon.specs.Canonical.{canonical_raws}
use Rattle.omf_canon.specs.Skeleton.{skeleton}
use Rattle.omf_canon.proofs.laws.canonicals_mean_the_same.Goals as goal

pub returns : goal.returns
returns c = λ profile limits bytes records w pl.
    c.equal_skeletons.ensures limits pl (recs (canonical_raws (skeleton (recs records)))) (recs records) (c.canonicals_hold.ensures profile limits bytes records w).skeleton
