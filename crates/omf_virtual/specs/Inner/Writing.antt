-- What a module has up to the next record.
use Rattle.std.specs.Prelude.{◌+◌, ◌++◌, List, [], ◌∷◌, Option, fold, length}
use Rattle.omf_frame.specs.Framing.{Raw}
use Rattle.omf_explicit.specs.Explicit.{with_number}
use Rattle.omf_virtual.specs.Values.{Before, Table, VirtualItem}
use Rattle.omf_virtual.specs.Virtual.{externals_in, in_place, indices_in}

abbrev pub up_to_next : List (Option VirtualItem) → Before → Raw → Before
up_to_next xs b r = record { passed = b.passed + length (externals_in r); filled = fold with_number b.filled (indices_in xs r) }

-- The records in place of records, the module having this before them.
abbrev pub with_state : Table → Before → List Raw → List Raw
with_state t b [] = []
with_state t b (r ∷ rs) = in_place t b r ++ with_state t (up_to_next t.virtuals b r) rs
