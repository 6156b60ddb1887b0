-- The table of the definers of names.
use Rattle.std.specs.Prelude.{◌≡◌, ℕ, Bool, List, Option, Some, None, option_map, if◌then◌else◌}
use Rattle.std.specs.BTreeMap.{get_by}
use Rattle.omf_names.specs.Names.{name_cmp}
use Rattle.omf_library.specs.Needed.{Linkage, Offer, offer, has_name, is_defined, definer}
use Rattle.omf_library.specs.declared.needed.search.Definer.{Definer}
use Rattle.omf_library.specs.declared.needed.search.Definer.TheVariants.{Given, Member}
use Rattle.omf_library.specs.declared.needed.search.Definers.{Definers}
use Rattle.omf_library.specs.declared.needed.search.Search.{Search}

abbrev pub found_at : Definers → List ℕ → Option Definer
found_at t name = get_by (λ k. name_cmp name k.now) t.by_name

-- The first of two, if there is one.
abbrev pub first_some : {A : Type 0} → Option A → Option A → Option A
first_some (Some a) other = Some a
first_some None other = other

-- A definer, if a test holds.
abbrev pub some_if : {A : Type 0} → Bool → A → Option A
some_if b a = if b then Some a else None

-- A table has a definer for these names in addition, where it had none.
abbrev pub HasMore : Definers → Definers → List (List ℕ) → Definer → Type 0
HasMore t u names d = (name : List ℕ) → found_at u name ≡ first_some (found_at t name) (some_if (has_name names name) d)

-- What a table has for a name, if it is that of these modules: the given ones, and the members.
abbrev pub definer_among : List Linkage → List Linkage → List ℕ → Option Definer
definer_among given members name = if is_defined given name then Some Given else option_map Member (definer members name)

abbrev pub IsTable : Definers → List Linkage → List Linkage → Type 0
IsTable t given members = (name : List ℕ) → found_at t name ≡ definer_among given members name

abbrev pub offered : Search → Offer
offered s = offer s.modules.now s.members.now

abbrev pub IsReady : Search → Type 0
IsReady s = IsTable s.definers (offered s).given (offered s).members

-- The number of a definer, if it is a member.
abbrev pub numbered : Option Definer → Option ℕ
numbered (Some (Member n)) = Some n
numbered (Some Given) = None
numbered None = None
