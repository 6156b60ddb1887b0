-- A record whose contents are known to be valid, before they are decoded.
use Rattle.std.specs.Prelude.{◌≡◌, ◌==◌, ◌||◌, ◌⊎◌, ◌≤◌, ⊤, ℕ, Bool, List, length, not, IsTrue, true, false, if◌then◌else◌}
use Rattle.omf_frame.specs.Bytes.{is_one_of}
use Rattle.omf_frame.specs.Framing.{is_taken}
use Rattle.omf_frame.specs.Types.{is_local, coment, comdef, extdef, fixupp, grpdef, lcomdef, ledata, lextdef, lidata, llnames, lnames, lpubdef, pubdef, row, segdef}
use Rattle.omf_frame.specs.declared.kinds.RecordType.TheVariants.{Modend}
use Rattle.omf_records.specs.Inner.Reading.{contents_or, read_body}
use Rattle.omf_records.specs.Records.{IsTyped}
use Rattle.omf_records.specs.Values.{Rec, Contents, Comment, Names, Segment, Group, Externs, Publics, Communals, Plain, Iterated, Fixups, ModEnd}

-- The record of this type with these bytes as its contents.
abbrev pub known : ℕ → List ℕ → Rec
known kind body = record { kind = kind; contents = contents_or body (read_body kind body) }

pub record IsKnown (kind : ℕ) (body : List ℕ) : Type 0 where
  pub taken : IsTrue (is_taken kind)
  pub short : length body ≤ 65534
  pub typed : IsTyped (known kind body) body

-- The type byte is one of those whose records have such contents.
abbrev pub HasType : ℕ → Contents → Type 0
HasType kind (Comment t c b) = is_one_of coment kind ≡ true
HasType kind (Names ns) = (is_one_of lnames kind ≡ true) ⊎ (is_one_of llnames kind ≡ true)
HasType kind (Segment s) = is_one_of segdef kind ≡ true
HasType kind (Group g) = is_one_of grpdef kind ≡ true
HasType kind (Externs xs) = (is_one_of extdef kind ≡ true) ⊎ (is_one_of lextdef kind ≡ true)
HasType kind (Publics p) = (is_one_of pubdef kind ≡ true) ⊎ (is_one_of lpubdef kind ≡ true)
HasType kind (Communals xs) = (is_one_of comdef kind ≡ true) ⊎ (is_one_of lcomdef kind ≡ true)
HasType kind (Plain d) = is_one_of ledata kind ≡ true
HasType kind (Iterated d) = is_one_of lidata kind ≡ true
HasType kind (Fixups xs) = is_one_of fixupp kind ≡ true
HasType kind (ModEnd t s) = is_one_of (row Modend).bytes kind ≡ true
HasType kind _ = ⊤

-- What contents hold.
abbrev pub holds_comment : Contents → Bool
holds_comment (Comment t c b) = true
holds_comment _ = false

abbrev pub holds_segment : Contents → Bool
holds_segment (Segment s) = true
holds_segment _ = false

abbrev pub holds_externals : Contents → Bool
holds_externals (Externs xs) = true
holds_externals (Communals xs) = true
holds_externals _ = false

abbrev pub holds_references : Contents → Bool
holds_references (Fixups xs) = true
holds_references (ModEnd t s) = true
holds_references _ = false

abbrev pub holds_data : Contents → Bool
holds_data (Plain d) = true
holds_data (Iterated d) = true
holds_data _ = false

-- Those of a record with this type byte hold local publics, or others.
abbrev pub holds_publics : Bool → ℕ → Contents → Bool
holds_publics local kind (Publics p) = if local then is_local kind else not (is_local kind)
holds_publics local kind _ = false

-- The type bytes of the records that hold them.
abbrev pub has_segment : ℕ → Bool
has_segment kind = (kind == 0x98) || (kind == 0x99)

abbrev pub has_publics : Bool → ℕ → Bool
has_publics local kind = if local then (kind == 0xB6) || (kind == 0xB7) else (kind == 0x90) || (kind == 0x91)

abbrev pub has_externals : ℕ → Bool
has_externals kind = (kind == 0x8C) || ((kind == 0xB0) || ((kind == 0xB4) || ((kind == 0xB5) || (kind == 0xB8))))

abbrev pub has_references : ℕ → Bool
has_references kind = (kind == 0x8A) || ((kind == 0x8B) || ((kind == 0x9C) || (kind == 0x9D)))

abbrev pub has_data : ℕ → Bool
has_data kind = (kind == 0xA0) || ((kind == 0xA1) || ((kind == 0xA2) || (kind == 0xA3)))
