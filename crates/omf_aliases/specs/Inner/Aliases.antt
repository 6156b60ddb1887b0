-- The tables by which aliases are followed (the steps of the code).
use Rattle.std.specs.Prelude.{◌≡◌, ℕ, Bool, List, [], ◌∷◌, ◌++◌, flat_map, Option, Some, None, unwrap_or, if◌then◌else◌, Result, Ok, Err}
use Rattle.std.specs.BTreeMap.{BTreeMap, get, get_by}
use Rattle.std.specs.Ordering.{nat_cmp}
use Rattle.omf_names.specs.Names.{name_cmp}
use Rattle.omf_frame.specs.Framing.{Raw, raw_bytes}
use Rattle.omf_records.specs.Values.{Rec}
use Rattle.omf_check.specs.Checking.{Decides}
use Rattle.omf_check.specs.Module.{Module, records_in, recs_of}
use Rattle.omf_check.specs.Tables.{entry}
use Rattle.omf_placement.specs.Derive.{named_externals}
use Rattle.omf_placement.specs.declared.several.pairs.WeakPair.{WeakPair}
use Rattle.omf_library.specs.Aliases.{AliasPair}
use Rattle.omf_aliases.specs.Aliases.{AreBytesWith, Default, IsDefaultsFault, IsFollowed, default_of, defaults, next_name, own_default, substitute, any_profile}
use Rattle.omf_externals.specs.Names.{IsNameTable, has_name}
use Rattle.omf_aliases.specs.declared.fault.FollowingFault.{FollowingFault}
use Rattle.omf_aliases.specs.declared.ends.Aliases.{Aliases}
use Rattle.omf_aliases.specs.declared.substitutes.SubstituteTable.{SubstituteTable}

abbrev pub found_at : SubstituteTable → List ℕ → Option (List ℕ)
found_at t name = get_by (λ k. name_cmp name k.now) t.by_alias

-- A table has the substitutes of these pairs.
abbrev pub IsSubstituteTable : SubstituteTable → List AliasPair → Type 0
IsSubstituteTable t pairs = (name : List ℕ) → found_at t name ≡ substitute pairs name

-- A table has these pairs after those of another.
abbrev pub HasPairs : SubstituteTable → SubstituteTable → List AliasPair → Type 0
HasPairs t u more = (pairs : List AliasPair) → IsSubstituteTable t pairs → IsSubstituteTable u (pairs ++ more)

-- The tables have the publics and the aliases of these modules; or no publics, if there are no aliases.
pub record AreAliases (a : Aliases) (ms : List (List Rec)) : Type 0 where
  pub names : List (List ℕ)
  pub pairs : List AliasPair
  pub publics : IsNameTable a.publics names
  pub substitutes : IsSubstituteTable a.substitutes pairs
  pub same : (name : List ℕ) → (if has_name names name then None else substitute pairs name) ≡ next_name ms name

-- A table has the own default of each external by these pairs; it has one pair more.
abbrev pub IsOwnTable : BTreeMap ℕ ℕ → List WeakPair → Type 0
IsOwnTable t ps = (i : ℕ) → get nat_cmp t i ≡ own_default ps i

abbrev pub HasOwn : BTreeMap ℕ ℕ → BTreeMap ℕ ℕ → WeakPair → Type 0
HasOwn t u p = (ps : List WeakPair) → IsOwnTable t ps → IsOwnTable u (ps ++ p ∷ [])

-- After other defaults there is that of an external, if it has one.
pub record IsNextDefault (ms : List (List Rec)) (m : List Rec) (i : ℕ) (old new : List Default) : Type 0 where
  pub external : List ℕ × Bool
  pub there : entry (named_externals m) i ≡ Some external
  pub added : new ≡ old ++ default_of ms m (i, external)

-- A module's bytes are split before its last record.
pub record IsSplit (bytes front back : List ℕ) : Type 0 where
  pub before : List Raw
  pub last : Raw
  pub records : records_in bytes ≡ before ++ last ∷ []
  pub in_front : front ≡ flat_map raw_bytes before
  pub at_end : back ≡ raw_bytes last

-- What takes the place of a module: one with the defaults of its externals, if it has any.
abbrev pub IsReplacement : List (List Rec) → Module → Option Module → Type 0
IsReplacement ms m None = defaults ms (recs_of m.bytes) ≡ []
IsReplacement ms m (Some n) = IsFollowed ms m n

abbrev pub replaced : List Module → List (Option Module) → List Module
replaced (m ∷ ms) (r ∷ rs) = unwrap_or r m ∷ replaced ms rs
replaced _ _ = []

-- A module with defaults was made, or why not.
abbrev pub IsMadeWith : Module → List Default → Result Module FollowingFault → Type 0
IsMadeWith m ds (Ok n) = (bytes : List ℕ) × AreBytesWith m ds bytes × Decides any_profile bytes (Ok n)
IsMadeWith m ds (Err f) = IsDefaultsFault m ds f
