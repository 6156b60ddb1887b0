-- Records of the worked examples.
use Rattle.std.specs.Prelude.{ℕ, List, [], ◌∷◌, map, codes}
use Rattle.omf_records.specs.Values.{At, Carried, CommunalItem, ExternalItem, Rec, Comment, Communals, Externs, Near}

abbrev pub at : {A : Type 0} → A → At A
at a = record { within = 0; item = a }

-- An EXTDEF (8CH) or a LEXTDEF (B4H) of names, a COMDEF (B0H) or an LCOMDEF (B8H) of one, and a comment.
abbrev pub external : List ℕ → At ExternalItem
external name = at (record { name = name; type_index = 0 })

abbrev pub externs : ℕ → List (List ℕ) → Rec
externs kind names = record { kind = kind; contents = Externs (map external names) }

abbrev pub communal : ℕ → List ℕ → Rec
communal kind name = record { kind = kind; contents = Communals (at (record { name = name; type_index = 0; size = Near 2 }) ∷ []) }

abbrev pub comment : ℕ → List ℕ → Rec
comment class text = record { kind = 0x88; contents = Comment 0x80 class text }

-- A module with the externals A and B, C, which is local, the communal D and the local communal E, after which come comments.
abbrev pub asking : List Rec → List Rec
asking comments = externs 0x8C (codes "A" ∷ codes "B" ∷ []) ∷ externs 0xB4 (codes "C" ∷ []) ∷ communal 0xB0 (codes "D") ∷ communal 0xB8 (codes "E") ∷ comments

-- An ALIAS with these bytes.
abbrev pub alias_record : List ℕ → Rec
alias_record bytes = record { kind = 0xC6; contents = Carried bytes }
