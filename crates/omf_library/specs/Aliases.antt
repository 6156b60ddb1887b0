-- ALIAS records (TIS OMF 1.1, "ALIAS"): each has pairs of a name, the alias, and a name that is taken for it, its substitute.
use Rattle.std.specs.Prelude.{ℕ, ◌==◌, nat_lt, if◌then◌else◌, List, [], ◌∷◌, length, map, flat_map}
use Rattle.omf_records.specs.Values.{Contents, Carried, Names, Rec}
-- computed: readings_meet_layouts and contents_are_typed_once of omf_records.
use Rattle.omf_records.specs.Inner.Reading.{contents_or, read_body}

pub record AliasPair : Type 0 where
  pub alias : List ℕ
  pub substitute : List ℕ

-- The names in bytes, as an LNAMES has them: each after its length in one byte, up to the end; none if the bytes end within a name. (No record has more than
-- 65,534 bytes of contents.)
abbrev pub names_in : Contents → List (List ℕ)
names_in (Names items) = map (λ n. n.item) items
names_in _ = []

abbrev pub counted_names : List ℕ → List (List ℕ)
counted_names bytes = if nat_lt 65534 (length bytes) then [] else names_in (contents_or bytes (read_body 0x96 bytes))

-- By turns an alias and its substitute. A name that is left over at the end makes no pair.
abbrev pub paired : List (List ℕ) → List AliasPair
paired (a ∷ s ∷ names) = record { alias = a; substitute = s } ∷ paired names
paired _ = []

-- The pairs of a record, if it is an ALIAS (C6H), and those of a module, in order.
abbrev pub pairs_of : ℕ → Contents → List AliasPair
pairs_of kind (Carried bytes) = if kind == 0xC6 then paired (counted_names bytes) else []
pairs_of kind _ = []

abbrev pub alias_pairs : List Rec → List AliasPair
alias_pairs m = flat_map (λ r. pairs_of r.kind r.contents) m

-- The aliases of a module, and their substitutes.
abbrev pub aliases : List Rec → List (List ℕ)
aliases m = map (λ p. p.alias) (alias_pairs m)

abbrev pub substitutes : List Rec → List (List ℕ)
substitutes m = map (λ p. p.substitute) (alias_pairs m)
