-- What is kept of a module to find the kinds of its names.
use Rattle.std.specs.Prelude.{◌≡◌, ℕ, List}
use Rattle.std.specs.BTreeSet.{BTreeSet, contains}
use Rattle.std.specs.Ordering.{nat_cmp}
use Rattle.omf_frame.specs.Bytes.{is_one_of}
use Rattle.omf_records.specs.Values.{Rec}
use Rattle.omf_dump.specs.Names.{data_segments, weak_externals}

-- the sets have the segments with data, and the externals that comments name
pub record AreFacts (m : List Rec) (filled weak lazy : BTreeSet ℕ) : Type 0 where
  pub filled_are : (i : ℕ) → contains nat_cmp filled i ≡ is_one_of (data_segments m) i
  pub weak_are : (i : ℕ) → contains nat_cmp weak i ≡ is_one_of (weak_externals 0xA8 m) i
  pub lazy_are : (i : ℕ) → contains nat_cmp lazy i ≡ is_one_of (weak_externals 0xA9 m) i
