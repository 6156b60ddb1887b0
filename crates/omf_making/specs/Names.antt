-- The names that a module defines, and those of them that the dictionary of its library has.
use Rattle.std.specs.Prelude.{ℕ, Bool, true, false, ◌==◌, if◌then◌else◌, List, [], ◌∷◌, ◌++◌, map, filter, is_some, option_to_list}
use Rattle.omf_frame.specs.Types.{is_local}
use Rattle.omf_lowering.specs.Marks.{selection_by}
use Rattle.omf_library.specs.Aliases.{AliasPair, alias_pairs}
use Rattle.omf_library.specs.Imports.{import_class, imported}
use Rattle.omf_records.specs.Values.{Rec, Contents, Comment, Publics, Communals}
use Rattle.omf_making.specs.declared.names.Kind.{Kind}
use Rattle.omf_making.specs.declared.names.Kind.TheVariants as kind
use Rattle.omf_making.specs.declared.names.Defined.{Defined as CodeDefined}

-- A name, and how it is defined.
pub record Defined : Type 0 where
  pub kind : Kind
  pub name : List ℕ

-- Publics and imports count before COMDATs, communals and aliases: one name has at most one of them in a library. A linker follows an alias only where
-- nothing defines its name (this profile's rule).
abbrev pub is_strong : Kind → Bool
is_strong kind.Public = true
is_strong kind.Import = true
is_strong kind.Comdat = false
is_strong kind.Communal = false
is_strong kind.Alias = false

-- The names that a record defines: those of a PUBDEF, of an IMPDEF and of a COMDEF. Local ones are not seen from outside
-- their module.
abbrev pub defined_in : Contents → List Defined
defined_in (Publics p) = map (λ q. record { kind = kind.Public; name = q.item.name }) p.items
defined_in (Communals items) = map (λ c. record { kind = kind.Communal; name = c.item.name }) items
defined_in (Comment type_byte class text) = if class == import_class then map (λ n. record { kind = kind.Import; name = n }) (option_to_list (imported text)) else []
defined_in _ = []

abbrev pub defined_by : Rec → List Defined
defined_by r = if is_local r.kind then [] else defined_in r.contents

-- A PUBDEF that a mark follows is of a COMDAT that was lowered. Other modules may have a COMDAT of the name too (TIS OMF 1.1, "COMDAT").
abbrev pub is_before_mark : List Rec → Bool
is_before_mark [] = false
is_before_mark (r ∷ rest) = is_some (selection_by r.contents)

abbrev pub kind_by : Bool → Kind → Kind
kind_by marked kind.Public = if marked then kind.Comdat else kind.Public
kind_by marked kind.Import = kind.Import
kind_by marked kind.Comdat = kind.Comdat
kind_by marked kind.Communal = kind.Communal
kind_by marked kind.Alias = kind.Alias

abbrev pub defined_as : Bool → Defined → Defined
defined_as marked d = record { kind = kind_by marked d.kind; name = d.name }

-- The names that a module's records define by themselves, in their order.
abbrev pub recorded_names : List Rec → List Defined
recorded_names [] = []
recorded_names (r ∷ rest) = map (defined_as (is_before_mark rest)) (defined_by r) ++ recorded_names rest

-- The name that an ALIAS defines, for its substitute (TIS OMF 1.1, "ALIAS").
abbrev pub alias_named : AliasPair → Defined
alias_named p = record { kind = kind.Alias; name = p.alias }

-- The names that a module defines, in the order of its records; then those of its aliases.
abbrev pub defined_names : List Rec → List Defined
defined_names m = recorded_names m ++ map alias_named (alias_pairs m)

-- The dictionary of a library that is made has no names of communals: no member is taken for one (this profile's rule).
abbrev pub has_entry : Kind → Bool
has_entry kind.Public = true
has_entry kind.Import = true
has_entry kind.Comdat = true
has_entry kind.Communal = false
has_entry kind.Alias = true

-- Those of a module's names that the dictionary has.
abbrev pub entered : List Defined → List Defined
entered ds = filter (λ d. has_entry d.kind) ds

-- A name of the code.
abbrev pub name_seen : CodeDefined → Defined
name_seen d = record { kind = d.kind; name = d.name.items }

abbrev pub names_seen : List CodeDefined → List Defined
names_seen ds = map name_seen ds
