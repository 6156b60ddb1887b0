use Rattle.std.specs.Prelude.{refl}
use Rattle.std.specs.Fmt.{digits}
use Rattle.omf_layout.proofs.rows.drafts_of_a_raised_segment.Goals as goal

pub returns : goal.returns
unfolding digits
returns c = refl
