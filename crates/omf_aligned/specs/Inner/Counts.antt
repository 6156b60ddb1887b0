-- The number of records that replace a record, which does not depend on the segment's index.
use Rattle.std.specs.Prelude.{ℕ, ◌==◌, if◌then◌else◌}
use Rattle.omf_frame.specs.Framing.{Raw}
use Rattle.omf_aligned.specs.Aligned.{alignment_of, is_changed}

abbrev pub count_of : Raw → ℕ
count_of r = if is_changed r then (if alignment_of r.body == 6 then 2 else 1) else 1
