-- How externals move, by the publics that they refer to as a linkage has them.
use Rattle.std.specs.Prelude.{◌≡◌, ℕ, false, List, [], ◌∷◌, ◌++◌, map, Option, Some, None, option_map, slice_get, unwrap_or, length}
use Rattle.std.specs.BTreeMap.{BTreeMap, get}
use Rattle.std.specs.List.{range_with_len}
use Rattle.std.specs.Ordering.{nat_cmp}
use Rattle.omf_records.specs.Values.{Rec}
use Rattle.omf_check.specs.Tables.{externals}
use Rattle.omf_placement.specs.declared.several.pairs.WeakPair.{WeakPair}
use Rattle.omf_placement.specs.declared.several.sources.Definer.{Definer}
use Rattle.omf_placement.specs.declared.several.sources.Definer.TheVariants.{Only, Several}
use Rattle.omf_placement.specs.declared.several.sources.Source.{Source}
use Rattle.omf_placement.specs.Inner.Linkage.{definer_at}
use Rattle.omf_placement.specs.Weak.{weak_pairs}
use Rattle.omf_output.specs.declared.exe.movers.Moving.{Moving}
use Rattle.omf_output.specs.Exe.Derived.{base_moving, default_moving}
use Rattle.omf_output.specs.Exe.Moved.{Movers, both}

-- How a public moves, by what moves of all modules; one of no module does not.
abbrev pub source_moving : List Movers → Source → Moving
source_moving bases s = unwrap_or (option_map (λ mv. base_moving mv s.base.group s.base.segment) (slice_get bases s.base.«module»)) (both false)

-- How the only public moves, if there is one.
abbrev pub only_moving : List Movers → Option Definer → Option Moving
only_moving bases None = None
only_moving bases (Some Several) = None
only_moving bases (Some (Only s)) = Some (source_moving bases s)

abbrev pub defined_moving : List Movers → Option Moving → Option Definer → Moving
defined_moving bases default None = unwrap_or default (both false)
defined_moving bases default (Some Several) = both false
defined_moving bases default (Some (Only s)) = source_moving bases s

-- How the single public moves that external i of module j refers to.
abbrev pub single_at : List Movers → List (List (Option Definer)) → ℕ → ℕ → Option Moving
single_at bases links j i = only_moving bases (definer_at links j i)

-- A table has how the default of each external moves by these pairs.
abbrev pub IsDefaultTable : BTreeMap ℕ Moving → (ℕ → Option Moving) → List WeakPair → Type 0
IsDefaultTable t single pairs = (i : ℕ) → get nat_cmp t i ≡ default_moving single pairs i

-- A table has one more pair, whose default moves so, if it refers to a single public.
abbrev pub HasPair : BTreeMap ℕ Moving → BTreeMap ℕ Moving → WeakPair → Option Moving → Type 0
HasPair t u p moving = (single : ℕ → Option Moving) (pairs : List WeakPair) → single p.substitute ≡ moving → IsDefaultTable t single pairs → IsDefaultTable u single (pairs ++ p ∷ [])

-- How each external of module j moves.
abbrev pub linked_moving : List Movers → List (List (Option Definer)) → ℕ → List WeakPair → ℕ → Moving
linked_moving bases links j pairs i = defined_moving bases (default_moving (single_at bases links j) pairs i) (definer_at links j i)

abbrev pub linked_externals : List Movers → List (List (Option Definer)) → ℕ × List Rec → List Moving
linked_externals bases links x = map (linked_moving bases links x.0 (weak_pairs x.1)) (range_with_len 1 (length (externals x.1)))

-- Movers with other externals.
abbrev pub completed : Movers × List Moving → Movers
completed x = record x.0 { externals = x.1 }
