-- The number of records that replace a record, which does not depend on what is before it.
use Rattle.std.specs.Prelude.{ℕ, ◌&&◌, List, length, is_some, if◌then◌else◌}
use Rattle.std.specs.List.{list_any}
use Rattle.omf_frame.specs.Framing.{Raw}
use Rattle.omf_explicit.specs.Explicit.{is_right}
use Rattle.omf_virtual.specs.Virtual.{entries_of, externals_in, is_comdef}

abbrev pub count_of : Raw → ℕ
count_of r = if is_comdef r.kind then (if is_right r && list_any (λ x. is_some x) (externals_in r) then length (entries_of r.body) else 1) else 1
