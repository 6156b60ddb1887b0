-- Weak externals (TIS OMF 1.1, "COMENT", class A8H, WKEXT): where an external has no public, its default gives it a place. Class A9H (LZEXT) has the same
-- form, and counts the same (this profile's rule).
use Rattle.std.specs.Prelude.{ℕ, ◌+◌, ◌-◌, ◌*◌, List, [], ◌∷◌, ◌++◌, flat_map, filter_map, Bool, true, false, ◌==◌, ◌||◌, nat_lt, Option, Some, None, option_map, Result, Ok, Err, if◌then◌else◌}
use Rattle.std.specs.List.{enumerate_from}
use Rattle.omf_records.specs.Values.{Rec, Contents, Comment}
use Rattle.omf_check.specs.Tables.{entry}
use Rattle.omf_placement.specs.declared.several.fault.DeriveFault.{DeriveFault}
use Rattle.omf_placement.specs.declared.several.fault.DeriveFault.TheVariants as fault
use Rattle.omf_placement.specs.declared.several.given.Given.{Given}
use Rattle.omf_placement.specs.declared.several.pairs.WeakPair.{WeakPair}
use Rattle.omf_placement.specs.Derive.{PlacedModule, seen_publics}
-- computed: derived_is_taken of omf_placement.
use Rattle.omf_placement.specs.Inner.Derived.{external_places}
use Rattle.omf_placement.specs.declared.frame.Placed.{Placed}

-- The indices in a text: one byte each, or two, big-endian, if bit 7 of the first is set; that bit does not count (TIS OMF 1.1, "Index Fields"). One that is cut
-- short is none.
abbrev pub indices : List ℕ → List ℕ
indices [] = []
indices (a ∷ []) = if nat_lt a 128 then a ∷ [] else []
indices (a ∷ b ∷ bytes) = if nat_lt a 128 then a ∷ indices (b ∷ bytes) else ((a - 128) * 256 + b) ∷ indices bytes

-- By turns the indices of a weak external and of its default. One that is left over at the end makes no pair.
abbrev pub paired : List ℕ → List WeakPair
paired (w ∷ d ∷ is) = record { weak = w; substitute = d } ∷ paired is
paired _ = []

-- The pairs in a comment, and those of a module.
abbrev pub pairs_in : Contents → List WeakPair
pairs_in (Comment byte class text) = if class == 0xA8 || class == 0xA9 then paired (indices text) else []
pairs_in _ = []

abbrev pub weak_pairs : List Rec → List WeakPair
weak_pairs m = flat_map (λ r. pairs_in r.contents) m

-- No public has the name of an external, and it has no entry. An index that the module does not have is that of no external.
abbrev pub is_undefined : Option (Result Placed DeriveFault) → Bool
is_undefined (Some (Err (fault.Undefined j i))) = true
is_undefined _ = false

-- The place of a default; none if it has none itself. If it is too high, that is the fault of the default alone, and the place is any.
abbrev pub default_place : Option (Result Placed DeriveFault) → Option Placed
default_place (Some (Ok p)) = Some p
default_place (Some (Err (fault.TooHigh j i))) = Some (record { address = 0; frame = record { base = 0; selector = 0 } })
default_place _ = None

-- The entry of a pair of module j, by the places and the faults of the module's externals.
abbrev pub given_at : ℕ → ℕ → Placed → Given
given_at j i p = record { «module» = j; external = i; address = p.address; frame = p.frame }

abbrev pub pair_given : ℕ → List (Result Placed DeriveFault) → WeakPair → Option Given
pair_given j rs p = if is_undefined (entry rs p.weak) then option_map (given_at j p.weak) (default_place (entry rs p.substitute)) else None

-- The entries of the weak externals of a module, and of all modules, in order: of several for one external the first counts.
abbrev pub weak_in : List PlacedModule → List Given → ℕ × PlacedModule → List Given
weak_in ms given m = filter_map (pair_given m.0 (external_places (seen_publics ms m.1) given m.0 m.1.0)) (weak_pairs m.1.0)

abbrev pub weak_given : List PlacedModule → List Given → List Given
weak_given ms given = flat_map (weak_in ms given) (enumerate_from 0 ms)

-- These entries, and after them those of weak externals.
abbrev pub with_weak : List PlacedModule → List Given → List Given
with_weak ms given = given ++ weak_given ms given
