-- The names that were asked for so far.
use Rattle.std.specs.Prelude.{◌≡◌, ℕ, Bool, List, is_some}
use Rattle.std.specs.BTreeMap.{get_by}
use Rattle.omf_names.specs.Names.{name_cmp}
use Rattle.omf_library.specs.Needed.{has_name}
use Rattle.omf_library.specs.Defaults.{once}
use Rattle.omf_library.specs.Inner.Names.{names_seen}
use Rattle.omf_library.specs.declared.needed.defaults.Asked.{Asked}

abbrev pub is_known : Asked → List ℕ → Bool
is_known a name = is_some (get_by (λ k. name_cmp name k.now) a.known)

-- Of these names each is kept once, and known.
pub record HasAsked (a : Asked) (done : List (List ℕ)) : Type 0 where
  pub kept : names_seen a.names.items ≡ once done
  pub known : (name : List ℕ) → is_known a name ≡ has_name done name
