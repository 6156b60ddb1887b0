-- How a linker follows ALIAS records (TIS OMF 1.1, "ALIAS"; this profile's rule): an external that no public has, and whose name is an alias, is a weak external
-- (COMENT, class A8H). Its default is the name at the end of the aliases. A default of its own counts before, and is followed in its place.
use Rattle.std.specs.Prelude.{false, ◌≡◌, ⊤, ℕ, zero, suc, ◌+◌, ◌==◌, ◌<◌, List, [], ◌∷◌, ◌++◌, length, find, map, flat_map, codes, bytes_eq, Option, Some, None, option_and_then, option_map, unwrap_or, Contains, if◌then◌else◌, Bool, Ok, Err}
use Rattle.std.specs.List.{AllZip, enumerate_from, filter, list_any}
use Rattle.omf_frame.specs.Fields.{index_bytes}
use Rattle.omf_frame.specs.Framing.{Raw, raw_bytes}
use Rattle.omf_records.specs.Values.{Comment, Externs, Rec, nowhere}
use Rattle.omf_check.specs.Checking.{Decides}
use Rattle.omf_check.specs.Module.{Module, records_in, recs_of, typed_modules}
use Rattle.omf_check.specs.Tables.{entry, externals}
use Rattle.omf_check.specs.declared.fault.CheckFault.TheVariants.{Refused}
use Rattle.omf_placement.specs.Derive.{named_externals}
use Rattle.omf_placement.specs.Weak.{weak_pairs}
use Rattle.omf_placement.specs.declared.several.pairs.WeakPair.{WeakPair}
use Rattle.omf_layout.specs.Own.Order.{bss_names, data_names}
use Rattle.omf_layout.specs.Own.Written.{end_record, header, typed, written}
use Rattle.omf_library.specs.Aliases.{AliasPair, alias_pairs}
use Rattle.omf_externals.specs.Names.{all_names, has_name}
use Rattle.omf_aliases.specs.declared.fault.FollowingFault.{FollowingFault}
use Rattle.omf_aliases.specs.declared.fault.FollowingFault.TheVariants as fault
use Rattle.omf_check.specs.declared.profile.Profile.{Profile}

-- The profile with which modules are checked.
abbrev pub any_profile : Profile
any_profile = record { refuse_vendor_comments = false }

-- ---- The name at the end of aliases

-- The pairs of modules, in order. The substitute of a name is that of its first pair.
abbrev pub all_pairs : List (List Rec) → List AliasPair
all_pairs ms = flat_map alias_pairs ms

abbrev pub substitute : List AliasPair → List ℕ → Option (List ℕ)
substitute [] name = None
substitute (p ∷ ps) name = if bytes_eq p.alias name then Some p.substitute else substitute ps name

-- Where a name leads: nowhere if it is that of a public (PUBDEF), else to its substitute.
abbrev pub next_name : List (List Rec) → List ℕ → Option (List ℕ)
next_name ms name = if has_name (all_names ms) name then None else substitute (all_pairs ms) name

-- The first of a name and those to which it leads, one after another, that leads nowhere; none if the first n all lead on, as in a circle.
abbrev pub end_or : (List ℕ → Option (List ℕ)) → List ℕ → Option (List ℕ) → Option (List ℕ)
end_or end name None = Some name
end_or end name (Some other) = end other

abbrev pub end_among : List (List Rec) → ℕ → List ℕ → Option (List ℕ)
end_among ms zero name = None
end_among ms (suc n) name = end_or (end_among ms n) name (next_name ms name)

-- At most 64 aliases are followed from one name.
abbrev pub most : ℕ
most = 64

-- The name at the end of the aliases of a name; none if it leads nowhere, or has no end.
abbrev pub end_after : List (List Rec) → Option (List ℕ) → Option (List ℕ)
end_after ms None = None
end_after ms (Some name) = end_among ms most name

abbrev pub end_of : List (List Rec) → List ℕ → Option (List ℕ)
end_of ms name = end_after ms (next_name ms name)

-- ---- The defaults of externals

-- An external of a module, by its index, and the name of its default.
pub record Default : Type 0 where
  pub external : ℕ
  pub name : List ℕ

abbrev pub default_named : ℕ → Option (List ℕ) → List Default
default_named i None = []
default_named i (Some name) = record { external = i; name = name } ∷ []

-- The default that a comment of its module gives to an external (class A8H or A9H; of several pairs the first): its index, and its name with whether it is local.
abbrev pub is_pair_of : ℕ → WeakPair → Bool
is_pair_of i p = p.weak == i

abbrev pub default_in : WeakPair → ℕ
default_in p = p.substitute

abbrev pub own_default : List WeakPair → ℕ → Option ℕ
own_default ps i = option_map default_in (find (is_pair_of i) ps)

abbrev pub own_entry : List Rec → ℕ → Option (List ℕ × Bool)
own_entry m i = option_and_then (entry (named_externals m)) (own_default (weak_pairs m) i)

-- The name by which an external is followed: that of its own default, if it has one, else its own.
abbrev pub followed_entry : List Rec → ℕ × (List ℕ × Bool) → List ℕ × Bool
followed_entry m e = unwrap_or (own_entry m e.0) e.1

-- The name at the end of the aliases of that name is its default. A local name (LEXTDEF, LCOMDEF) is not followed.
abbrev pub default_by : List (List Rec) → ℕ → List ℕ × Bool → List Default
default_by ms i x = if x.1 then [] else default_named i (end_of ms x.0)

abbrev pub default_of : List (List Rec) → List Rec → ℕ × (List ℕ × Bool) → List Default
default_of ms m e = default_by ms e.0 (followed_entry m e)

-- The defaults of a module, one of modules, in the order of its externals.
abbrev pub defaults : List (List Rec) → List Rec → List Default
defaults ms m = flat_map (default_of ms m) (enumerate_from 1 (named_externals m))

-- The records for defaults, in a module with `count` externals before: an EXTDEF of the default's name, and a COMENT of class A8H that pairs the two.
abbrev pub external_record : List ℕ → Rec
external_record name = typed 0x8C (Externs (nowhere (record { name = name; type_index = 0 }) ∷ []))

abbrev pub weak_record : ℕ → ℕ → Rec
weak_record weak default = typed 0x88 (Comment 0x80 0xA8 (index_bytes weak ++ index_bytes default))

abbrev pub default_records : ℕ → List Default → List Rec
default_records count [] = []
default_records count (d ∷ ds) = external_record d.name ∷ weak_record d.external (count + 1) ∷ default_records (count + 1) ds

-- ---- The names of the linker

-- Of the names that a linker defines where modules ask for them (`_edata` and others), those that are the default of an external by its aliases.
abbrev pub all_defaults : List (List Rec) → List Default
all_defaults ms = flat_map (defaults ms) ms

abbrev pub is_default : List Default → List ℕ → Bool
is_default ds name = list_any (λ d. bytes_eq d.name name) ds

abbrev pub linker_names : List (List ℕ)
linker_names = data_names ++ bss_names

abbrev pub asked_by_aliases : List (List Rec) → List (List ℕ)
asked_by_aliases ms = filter (is_default (all_defaults ms)) linker_names

-- A module that asks for names: an EXTDEF for each. It has no segment and no public.
abbrev pub asking_records : List (List ℕ) → List Rec
asking_records names = header (codes "aliases") ∷ (map external_record names ++ end_record ∷ [])

-- The module that asks for those names of modules; there is none if there are no such names.
abbrev pub IsAskerOf : List Module → Option Module → Type 0
IsAskerOf ms None = asked_by_aliases (typed_modules ms) ≡ []
IsAskerOf ms (Some m) = Decides any_profile (written (asking_records (asked_by_aliases (typed_modules ms)))) (Ok m)

-- ---- The modules

-- The bytes of a module with defaults: their records are before its last one, its MODEND. So each other record is where it was.
pub record AreBytesWith (m : Module) (ds : List Default) (bytes : List ℕ) : Type 0 where
  pub before : List Raw
  pub last : Raw
  pub records : records_in m.bytes ≡ before ++ last ∷ []
  pub joined : bytes ≡ flat_map raw_bytes before ++ (written (default_records (length (externals (recs_of m.bytes))) ds) ++ raw_bytes last)

-- A module with defaults is the checked one of these bytes; without defaults it is the module itself.
abbrev pub IsWith : Module → List Default → Module → Type 0
IsWith m [] n = n ≡ m
IsWith m (d ∷ ds) n = (bytes : List ℕ) × AreBytesWith m (d ∷ ds) bytes × Decides any_profile bytes (Ok n)

-- Modules with the defaults of their externals, by all aliases of these modules.
abbrev pub IsFollowed : List (List Rec) → Module → Module → Type 0
IsFollowed ms m n = IsWith m (defaults ms (recs_of m.bytes)) n

abbrev pub AreFollowed : List Module → List Module → Type 0
AreFollowed ms ns = AllZip (IsFollowed (typed_modules ms)) ms ns

-- Why there are no such modules: one would have more than 32,767 externals; or one is refused. Memory may run out at any time.
abbrev pub IsDefaultsFault : Module → List Default → FollowingFault → Type 0
IsDefaultsFault m ds fault.Memory = ⊤
IsDefaultsFault m ds fault.TooMany = 32767 < length (externals (recs_of m.bytes)) + length ds
IsDefaultsFault m ds (fault.Refused why at) = (bytes : List ℕ) × AreBytesWith m ds bytes × Decides any_profile bytes (Err (Refused why at))

abbrev pub IsModuleFault : List (List Rec) → FollowingFault → Module → Type 0
IsModuleFault ms f m = IsDefaultsFault m (defaults ms (recs_of m.bytes)) f

pub record HasFault (ms : List Module) (f : FollowingFault) : Type 0 where
  pub one : Module
  pub here : Contains ms one
  pub fails : IsModuleFault (typed_modules ms) f one

abbrev pub IsFollowingFault : List Module → FollowingFault → Type 0
IsFollowingFault ms fault.Memory = ⊤
IsFollowingFault ms fault.TooMany = HasFault ms fault.TooMany
IsFollowingFault ms (fault.Refused why at) = HasFault ms (fault.Refused why at)
