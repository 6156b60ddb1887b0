-- Records of the worked examples.
use Rattle.std.specs.Prelude.{ℕ, List, [], ◌∷◌, None}
use Rattle.omf_library.specs.Rows.{at}
use Rattle.omf_making.specs.Names.{Defined}
use Rattle.omf_making.specs.declared.names.Kind.{Kind}
use Rattle.omf_records.specs.Values.{PublicItem, Publics, Rec}

-- A PUBDEF (90H) or an LPUBDEF (B6H) of one name in the segment with the index 1, and a name that is defined.
abbrev pub public_item : List ℕ → PublicItem
public_item name = record { name = name; offset = 0; type_index = 0 }

abbrev pub public : ℕ → List ℕ → Rec
public kind name = record { kind = kind; contents = Publics (record { group = at 0; segment = at 1; frame = None; items = at (public_item name) ∷ [] }) }

abbrev pub defined : Kind → List ℕ → Defined
defined kind name = record { kind = kind; name = name }
