-- A table of the bases of groups, by the names and the classes of the segments that they have.
use Rattle.std.specs.Prelude.{◌≡◌, ℕ, List, ◌++◌}
use Rattle.std.specs.BTreeMap.{BTreeMap, get}
use Rattle.std.specs.Ordering.{ordering_then}
use Rattle.std.specs.declared.cmp.Ordering.{Ordering}
use denote.Ref.{Bor}
use Rattle.omf_names.specs.Names.{name_cmp}
use Rattle.omf_output.specs.Near.{GroupFrame, first_base}

-- Two names as a key.
abbrev pub Key : Type 0
Key = Bor (List ℕ) × Bor (List ℕ)

abbrev pub key_cmp : Key → Key → Ordering
key_cmp x y = ordering_then (name_cmp x.0.now y.0.now) (name_cmp x.1.now y.1.now)

-- A table has the base of the first group for each name and class; and one has these groups in addition to those of another.
abbrev pub IsFrameTable : BTreeMap Key ℕ → List GroupFrame → Type 0
IsFrameTable m xs = (q : Key) → get key_cmp m q ≡ first_base xs (q.0.now, q.1.now)

abbrev pub HasMore : BTreeMap Key ℕ → BTreeMap Key ℕ → List GroupFrame → Type 0
HasMore m n more = (xs : List GroupFrame) → IsFrameTable m xs → IsFrameTable n (xs ++ more)
