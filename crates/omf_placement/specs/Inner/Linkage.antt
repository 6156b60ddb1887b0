-- The publics of modules before they have places, and those that externals refer to.
use Rattle.std.specs.Prelude.{◌≡◌, ◌<◌, ◌≤◌, ℕ, ◌+◌, length, List, [], ◌∷◌, ◌++◌, map, flat_map, filter_map, All, Bool, true, false, Option, Some, None, option_and_then, unwrap_or, slice_get, bytes_eq, if◌then◌else◌}
use Rattle.std.specs.List.{enumerate_from}
use Rattle.std.specs.BTreeMap.{get_by}
use Rattle.omf_names.specs.Names.{name_cmp}
use Rattle.omf_records.specs.Values.{At, Rec, Contents, Publics, PublicItem}
use Rattle.omf_frame.specs.Types.{is_local}
use Rattle.omf_image.specs.Limits.{profile_limits}
use Rattle.omf_check.specs.Sound.{ModuleHolds}
use Rattle.omf_check.specs.Tables.{entry, externals}
use Rattle.omf_placement.specs.declared.frame.Placed.{Placed}
use Rattle.omf_placement.specs.declared.several.publics.Found.{Found}
use Rattle.omf_placement.specs.declared.several.publics.Found.TheVariants as found
use Rattle.omf_placement.specs.declared.several.sources.Base.{Base}
use Rattle.omf_placement.specs.declared.several.sources.Source.{Source}
use Rattle.omf_placement.specs.declared.several.sources.Definer.{Definer}
use Rattle.omf_placement.specs.declared.several.sources.Definer.TheVariants.{Only, Several}
use Rattle.omf_placement.specs.declared.several.sources.SourceTable.{SourceTable}
use Rattle.omf_placement.specs.Weak.{weak_pairs}
use Rattle.omf_placement.specs.Placement.{Places}
use Rattle.omf_placement.specs.Derive.{PlacedPublic, base_of, named_externals, paragraph}
use Rattle.omf_placement.specs.Inner.Derived.{of_name}
use Rattle.omf_placement.specs.Inner.PublicTable.{summed}

-- A public without a place: its name, and where it is.
pub record NamedSource : Type 0 where
  pub name : List ℕ
  pub source : Source

-- A public at an offset from a base; the publics of a record with their base, if there is one.
abbrev pub source_at : List ℕ → Base → ℕ → NamedSource
source_at name base offset = record { name = name; source = record { base = base; offset = offset } }

abbrev pub sources_at : Base → List (At PublicItem) → List NamedSource
sources_at base items = map (λ q. source_at q.item.name base q.item.offset) items

abbrev pub sourced : Option (Base × List (At PublicItem)) → List NamedSource
sourced None = []
sourced (Some b) = sources_at b.0 b.1

-- The publics of the module with a number, as `publics` lists them with their places.
abbrev pub contents_sources : ℕ → Contents → List NamedSource
contents_sources j (Publics p) = sources_at (record { «module» = j; group = p.group.item; segment = p.segment.item; frame = p.frame }) p.items
contents_sources j _ = []

abbrev pub record_sources : Bool → ℕ → ℕ → Contents → List NamedSource
record_sources true j kind c = if is_local kind then contents_sources j c else []
record_sources false j kind c = if is_local kind then [] else contents_sources j c

abbrev pub sources : Bool → ℕ → List Rec → List NamedSource
sources local j m = flat_map (λ r. record_sources local j r.kind r.contents) m

abbrev pub all_sources : List (List Rec) → List NamedSource
all_sources ms = flat_map (λ m. sources false m.0 m.1) (enumerate_from 0 ms)

-- Those that an external of the module with a number can refer to.
abbrev pub seen_sources : List (List Rec) → ℕ → List Rec → Bool → List NamedSource
seen_sources ms j m local = if local then sources true j m else all_sources ms

abbrev pub of_source : List ℕ → NamedSource → Option Source
of_source name s = if bytes_eq name s.name then Some s.source else None

-- No two publics have one name.
abbrev pub AreSourcesApart : List NamedSource → Type 0
AreSourcesApart among = (name : List ℕ) → length (filter_map (of_source name) among) ≤ 1

-- No public, the only one, or several.
abbrev pub definer : List Source → Option Definer
definer [] = None
definer (s ∷ []) = Some (Only s)
definer (s ∷ t ∷ ss) = Some Several

-- The entry after one more public.
abbrev pub definer_after : Source → Option Definer → Definer
definer_after s None = Only s
definer_after s (Some d) = Several

-- A table holds these publics; if `repeats` is not set, no two have one name.
pub record IsSourceTable (t : SourceTable) (among : List NamedSource) : Type 0 where
  pub found : (name : List ℕ) → get_by (λ k. name_cmp name k.now) t.by_name ≡ definer (filter_map (of_source name) among)
  pub apart : t.repeats ≡ false → AreSourcesApart among

-- The second table holds these publics in addition to those of the first.
abbrev pub HasMoreSources : SourceTable → SourceTable → List NamedSource → Type 0
HasMoreSources t u more = (among : List NamedSource) → IsSourceTable t among → IsSourceTable u (among ++ more)

-- What each external of a module refers to, by the publics that it can refer to.
abbrev pub definers : (Bool → List NamedSource) → List Rec → List (Option Definer)
definers among m = map (λ e. definer (filter_map (of_source e.0) (among e.1))) (named_externals m)

abbrev pub linkage : List (List Rec) → List (List (Option Definer))
linkage ms = map (λ m. definers (seen_sources ms m.0 m.1) m.1) (enumerate_from 0 ms)

-- What an external of a module refers to, by the module's number, from 0, and the external's index, from 1.
abbrev pub definer_at : List (List (Option Definer)) → ℕ → ℕ → Option Definer
definer_at links j i = option_and_then (λ ds. option_and_then (λ d. d) (entry ds i)) (slice_get links j)

-- What is known of modules: the publics that their externals refer to, whether two publics may have one name, and whether externals may be weak.
pub record Known : Type 0 where
  pub links : List (List (Option Definer))
  pub repeats : Bool
  pub is_weak : Bool

-- This is known of well-formed modules; each has at most 32,767 externals.
pub record IsLinkage (ms : List (List Rec)) (l : Known) : Type 0 where
  pub is : l.links ≡ linkage ms
  pub apart : l.repeats ≡ false → AreSourcesApart (all_sources ms)
  pub strong : l.is_weak ≡ false → flat_map weak_pairs ms ≡ []
  pub hold : All (ModuleHolds profile_limits) ms
  pub few : All (λ m. length (externals m) < 32768) ms

-- The place of a base by the placements of all modules; any place, if it has none there.
abbrev pub base_place : List Places → Base → Placed
base_place pls b = unwrap_or (option_and_then (λ pl. base_of pl b.group b.segment b.frame) (slice_get pls b.«module»)) (paragraph 0)

-- What a table of publics with places would have for these publics.
abbrev pub found_by : List Places → Option Definer → Option Found
found_by pls None = None
found_by pls (Some Several) = Some found.Several
found_by pls (Some (Only s)) = Some (found.One ((base_place pls s.base).address + s.offset) (base_place pls s.base).frame)

-- By these placements the externals of a module refer to what they do among these publics with places.
abbrev pub AreFound : List Places → List (Option Definer) → (Bool → List PlacedPublic) → List Rec → Type 0
AreFound pls links among m = map (found_by pls) links ≡ map (λ e. summed (filter_map (of_name e.0) (among e.1))) (named_externals m)
