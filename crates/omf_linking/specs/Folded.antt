-- Modules whose names are compared without case (`--ignore-case`; this profile's rule): the names of publics, externals, communals and aliases are in lower case.
use Rattle.std.specs.Prelude.{◌≡◌, ℕ, ◌-◌, ◌==◌, List, [], ◌∷◌, length, map, if◌then◌else◌}
use Rattle.std.specs.Char.{to_ascii_lowercase}
use Rattle.omf_check.specs.Module.{Module, recs_of}
use Rattle.omf_records.specs.Values.{At, Carried, CommunalItem, Communals, Contents, ExternalItem, Externs, PublicItem, Publics, Rec}

-- In a name A to Z are a to z, and all other bytes stay.
abbrev pub folded_external : ExternalItem → ExternalItem
folded_external e = record e { name = map to_ascii_lowercase e.name }

abbrev pub folded_public : PublicItem → PublicItem
folded_public p = record p { name = map to_ascii_lowercase p.name }

abbrev pub folded_communal : CommunalItem → CommunalItem
folded_communal c = record c { name = map to_ascii_lowercase c.name }

abbrev pub at_place : {A : Type 0} → (A → A) → At A → At A
at_place f a = record { within = a.within; item = f a.item }

-- Names one after another, each after its length in one byte: the lengths stay. `left` characters of a name are to come.
abbrev pub folded_at : ℕ → ℕ → ℕ
folded_at left b = if left == 0 then b else to_ascii_lowercase b

abbrev pub left_after : ℕ → ℕ → ℕ
left_after left b = if left == 0 then b else left - 1

abbrev pub folded_names : ℕ → List ℕ → List ℕ
folded_names left [] = []
folded_names left (b ∷ bytes) = folded_at left b ∷ folded_names (left_after left b) bytes

-- EXTDEF, PUBDEF, COMDEF and their local kinds have such names, and ALIAS (C6H); all other records stay.
abbrev pub named_contents : Contents → Contents
named_contents (Externs items) = Externs (map (at_place folded_external) items)
named_contents (Publics p) = Publics (record p { items = map (at_place folded_public) p.items })
named_contents (Communals items) = Communals (map (at_place folded_communal) items)
named_contents c = c

abbrev pub folded_contents : ℕ → Contents → Contents
folded_contents kind (Carried bytes) = if kind == 0xC6 then Carried (folded_names 0 bytes) else Carried bytes
folded_contents kind c = named_contents c

abbrev pub folded_record : Rec → Rec
folded_record r = record r { contents = folded_contents r.kind r.contents }

abbrev pub folded : List Rec → List Rec
folded rs = map folded_record rs

-- A module has the records of another one with folded names, and as many bytes, so each record is where it was.
pub record IsFolded (m lower : Module) : Type 0 where
  pub profile : lower.profile ≡ m.profile
  pub size : length lower.bytes ≡ length m.bytes
  pub records : recs_of lower.bytes ≡ folded (recs_of m.bytes)
