-- Records of the worked examples of aliases.
use Rattle.std.specs.Prelude.{ℕ, List, [], ◌∷◌, flat_map, None}
use Rattle.omf_frame.specs.Fields.{name_bytes}
use Rattle.omf_records.specs.Values.{Carried, Comment, Externs, Publics, Rec, nowhere}
use Rattle.omf_aliases.specs.Aliases.{Default}

-- An ALIAS with these names, a PUBDEF with one name, an EXTDEF (8CH) or a LEXTDEF (B4H) with one, and a COMENT of class A8H with these indices.
abbrev pub alias_record : List (List ℕ) → Rec
alias_record names = record { kind = 0xC6; contents = Carried (flat_map name_bytes names) }

abbrev pub defining : List ℕ → Rec
defining name = record { kind = 0x90; contents = Publics (record { group = nowhere 0; segment = nowhere 1; frame = None; items = nowhere (record { name = name; offset = 0; type_index = 0 }) ∷ [] }) }

abbrev pub asking : ℕ → List ℕ → Rec
asking kind name = record { kind = kind; contents = Externs (nowhere (record { name = name; type_index = 0 }) ∷ []) }

abbrev pub pairing : List ℕ → Rec
pairing indices = record { kind = 0x88; contents = Comment 0 0xA8 indices }

abbrev pub default_at : ℕ → List ℕ → Default
default_at i name = record { external = i; name = name }
