-- The shortest contents of a typed record: each index and communal length in its shortest encoding.
use Rattle.std.specs.Prelude.{ℕ, ◌/◌, ◌%◌, List, [], ◌∷◌, ◌++◌, flat_map, Option, Some, None}
use Rattle.byteorder.specs.Endian.{little_bytes}
use Rattle.omf_frame.specs.Fields.{index_bytes, name_bytes, communal_length_bytes}
use Rattle.omf_records.specs.Values.{At, SegmentItem, ExternalItem, PublicItem, CommunalItem, CommunalSize, Near, Far, DataItem, Reference, Subrecord, Thread, Fixup, Contents, Header, Comment, Names, Segment, Group, Externs, Publics, Communals, Plain, Iterated, Fixups, ModEnd, Carried, width}

abbrev pub option_bytes : {A : Type 0} → (A → List ℕ) → Option A → List ℕ
option_bytes f None = []
option_bytes f (Some a) = f a

-- an index
abbrev pub datum_bytes : At ℕ → List ℕ
datum_bytes a = index_bytes a.item

abbrev pub reference_bytes : ℕ → Reference → List ℕ
reference_bytes kind r = r.fix.item ∷ (option_bytes datum_bytes r.frame ++ (option_bytes datum_bytes r.target ++ option_bytes (little_bytes (width kind)) r.displacement))

abbrev pub subrecord_bytes : ℕ → Subrecord → List ℕ
subrecord_bytes kind (Thread byte datum) = byte ∷ option_bytes datum_bytes datum
subrecord_bytes kind (Fixup locat r) = locat / 256 ∷ locat % 256 ∷ reference_bytes kind r

abbrev pub size_bytes : CommunalSize → List ℕ
size_bytes (Near n) = 0x62 ∷ communal_length_bytes n
size_bytes (Far count size) = 0x61 ∷ (communal_length_bytes count ++ communal_length_bytes size)

-- the items of GRPDEF, EXTDEF, PUBDEF and COMDEF
abbrev pub member_bytes : At ℕ → List ℕ
member_bytes m = 0xFF ∷ datum_bytes m

abbrev pub external_bytes : ExternalItem → List ℕ
external_bytes e = name_bytes e.name ++ index_bytes e.type_index

abbrev pub public_bytes : ℕ → PublicItem → List ℕ
public_bytes kind p = name_bytes p.name ++ (little_bytes (width kind) p.offset ++ index_bytes p.type_index)

abbrev pub communal_bytes : CommunalItem → List ℕ
communal_bytes c = name_bytes c.name ++ (index_bytes c.type_index ++ size_bytes c.size)

abbrev pub segment_bytes : ℕ → SegmentItem → List ℕ
segment_bytes kind s = s.attribute ∷ (option_bytes (λ a. little_bytes 2 a.0 ++ a.1 ∷ []) s.absolute ++ (little_bytes (width kind) s.size
    ++ (datum_bytes s.name ++ (datum_bytes s.class ++ index_bytes s.overlay))))

abbrev pub data_bytes : ℕ → DataItem → List ℕ
data_bytes kind d = datum_bytes d.segment ++ (little_bytes (width kind) d.offset.item ++ d.bytes)

abbrev pub contents_bytes : ℕ → Contents → List ℕ
contents_bytes kind (Header name) = name_bytes name
contents_bytes kind (Comment byte class text) = byte ∷ class ∷ text
contents_bytes kind (Names items) = flat_map (λ n. name_bytes n.item) items
contents_bytes kind (Segment s) = segment_bytes kind s
contents_bytes kind (Group g) = datum_bytes g.name ++ flat_map (λ m. member_bytes m.item) g.members
contents_bytes kind (Externs items) = flat_map (λ e. external_bytes e.item) items
contents_bytes kind (Publics p) = datum_bytes p.group ++ (datum_bytes p.segment ++ (option_bytes (little_bytes 2) p.frame
    ++ flat_map (λ q. public_bytes kind q.item) p.items))
contents_bytes kind (Communals items) = flat_map (λ c. communal_bytes c.item) items
contents_bytes kind (Plain d) = data_bytes kind d
contents_bytes kind (Iterated d) = data_bytes kind d
contents_bytes kind (Fixups subs) = flat_map (λ s. subrecord_bytes kind s.item) subs
contents_bytes kind (ModEnd byte start) = byte ∷ option_bytes (reference_bytes kind) start
contents_bytes kind (Carried bytes) = bytes
