-- The module that gives the segments of a program DOS order, and the names that a linker defines in that order (Microsoft LINK's option DOSSEG; the records are
-- this profile's rule).
use Rattle.std.specs.Prelude.{◌≡◌, ℕ, ◌+◌, ◌*◌, List, [], ◌∷◌, ◌++◌, length, map, flat_map, filter_map, find, Bool, true, false, not, ◌&&◌, ◌==◌, Option, option_map, is_some, unwrap_or, slice_get, codes, bytes_eq, if◌then◌else◌}
use Rattle.std.specs.List.{filter, list_any}
use Rattle.std.specs.BTreeMap.{BTreeMap, get_by}
use denote.Ref.{Bor}
use Rattle.omf_names.specs.Names.{name_cmp}
use Rattle.omf_records.specs.Values.{At, Rec, Contents, Comment, Group}
use Rattle.omf_check.specs.Classes.{is_code_class}
use Rattle.omf_check.specs.Tables.{segments, externals, entry}
use Rattle.omf_layout.specs.declared.alignment.Alignment.{Alignment}
use Rattle.omf_layout.specs.declared.alignment.Alignment.TheVariants as aligned
use Rattle.omf_layout.specs.declared.several.portion.Combination.{Combination}
use Rattle.omf_layout.specs.declared.several.portion.Combination.TheVariants as combined
use Rattle.omf_layout.specs.declared.several.portion.Portion.{Portion}
use Rattle.omf_layout.specs.declared.own.slots.DosPart.{DosPart}
use Rattle.omf_layout.specs.declared.own.slots.DosPart.TheVariants as part
use Rattle.omf_layout.specs.declared.own.slots.Slot.{Slot}
use Rattle.omf_layout.specs.Several.Order.{runs}
use Rattle.omf_layout.specs.Several.Portions.{name_at}
use Rattle.omf_layout.specs.Own.Claims.{Claim, all_claims}
use Rattle.omf_layout.specs.Own.Communals.{are_grouped, is_dgroup}
use Rattle.omf_layout.specs.Several.Portions.{Named}
use Rattle.omf_layout.specs.Own.Written.{header, name_record, segment_record, empty_group_record, public_record, raisings, end_record}

-- ---- The classes of DGROUP

-- The classes of the members of a group, if it is DGROUP; those of a module, and those of all modules.
abbrev pub class_at : List Rec → ℕ → Option (List ℕ)
class_at m i = option_map (λ s. name_at m s.class) (entry (segments m) i)

abbrev pub member_class : List Rec → At (At ℕ) → Option (List ℕ)
member_class m x = class_at m x.item.item

abbrev pub classes_in : List Rec → Contents → List (List ℕ)
classes_in m (Group g) = if is_dgroup (name_at m g.name.item) then filter_map (member_class m) g.members else []
classes_in m _ = []

abbrev pub module_classes : List Rec → List (List ℕ)
module_classes m = flat_map (λ r. classes_in m r.contents) m

abbrev pub dgroup_classes : List (List Rec) → List (List ℕ)
dgroup_classes ms = flat_map module_classes ms

abbrev pub has_name : List (List ℕ) → List ℕ → Bool
has_name names name = list_any (λ x. bytes_eq x name) names

-- A table has exactly these names.
abbrev pub IsNameTable : BTreeMap (Bor (List ℕ)) (Unit {0}) → List (List ℕ) → Type 0
IsNameTable t names = (name : List ℕ) → is_some (get_by (λ k. name_cmp name k.now) t) ≡ has_name names name

-- ---- The empty segments

-- The part of a program in which a class is: a class that ends in CODE; STACK; one without a segment in DGROUP; and the others, all in DGROUP.
abbrev pub part_of : List (List ℕ) → List ℕ → DosPart
part_of inside class =
    if is_code_class class then part.Code
    else (if bytes_eq class (codes "STACK") then part.Stack
    else (if not (has_name inside class) then part.Outside
    else (if bytes_eq class (codes "BEGDATA") then part.Begin
    else (if bytes_eq class (codes "BSS") then part.Bss
    else part.Data))))

-- The attribute byte of an empty segment that is aligned and combines like another: A in the bits from 5 on, C in those from 2 on. No A is 4,096 bytes: it is
-- 4 there, and a comment raises the segment. Of a segment that is joined with others C is 2 (public), whatever it is there.
abbrev pub alignment_bits : Alignment → ℕ
alignment_bits aligned.Byte = 0x20
alignment_bits aligned.Word = 0x40
alignment_bits aligned.Paragraph = 0x60
alignment_bits aligned.Page = 0x80
alignment_bits aligned.Dword = 0xA0
alignment_bits aligned.Block = 0x80

-- A comment raises an empty segment with such bits to its alignment.
abbrev pub is_block : Alignment → Bool
is_block aligned.Block = true
is_block _ = false

abbrev pub combination_bits : Combination → ℕ
combination_bits combined.Joined = 0x08
combination_bits combined.Common = 0x18
combination_bits combined.Alone = 0

-- The empty segment for a segment of these modules: of its class and its name.
abbrev pub module_at : List (List Rec) → ℕ → List Rec
module_at ms j = unwrap_or (slice_get ms j) []

abbrev pub slot : List (List Rec) → Portion → Slot
slot ms p =
    let class = name_at (module_at ms p.«module») p.segment.class in
    record { part = part_of (dgroup_classes ms) class; class = class; name = name_at (module_at ms p.«module») p.segment.name; attribute = alignment_bits p.alignment + combination_bits p.combination; raised = is_block p.alignment }

-- The first of the segments of one class and name that is not absolute.
abbrev pub first_of : List Portion → Option Portion
first_of run = find (λ p. not (is_some p.segment.absolute)) run

-- The empty segments of modules: one for each class and name, in the order in which the classes, and in each class the names, first appear.
abbrev pub slots : List (List Rec) → List Slot
slots ms = map (slot ms) (filter_map first_of (runs ms))

-- ---- DOS order

abbrev pub is_same_part : DosPart → DosPart → Bool
is_same_part part.Code part.Code = true
is_same_part part.Outside part.Outside = true
is_same_part part.Begin part.Begin = true
is_same_part part.Data part.Data = true
is_same_part part.Bss part.Bss = true
is_same_part part.Stack part.Stack = true
is_same_part _ _ = false

abbrev pub in_part : DosPart → List Slot → List Slot
in_part p ss = filter (λ s. is_same_part p s.part) ss

-- Two more empty segments in DGROUP, if there is such a group: one at the end of its data, and one at the end of its BSS. Each has a class of its own.
abbrev pub marker : Bool → List ℕ → List Slot
marker grouped name = if grouped then record { part = part.Data; class = name; name = name; attribute = 0x28; raised = false } ∷ [] else []

-- The segments in DOS order. Those of one class stay together, since a class is in one part.
abbrev pub data_slots : List Slot → List Slot
data_slots ss = in_part part.Code ss ++ (in_part part.Outside ss ++ (in_part part.Begin ss ++ in_part part.Data ss))

abbrev pub bss_slots : Bool → List Slot → List Slot
bss_slots grouped ss = data_slots ss ++ (marker grouped (codes "END OF DATA") ++ in_part part.Bss ss)

abbrev pub dos_slots : Bool → List Slot → List Slot
dos_slots grouped ss = bss_slots grouped ss ++ (marker grouped (codes "END OF BSS") ++ in_part part.Stack ss)

-- ---- The names that a linker defines

-- A module asks for a name; one of several does.
abbrev pub asks_for : List ℕ → List Rec → Bool
asks_for name m = has_name (externals m) name

abbrev pub ask_for : List ℕ → List (List Rec) → Bool
ask_for name ms = list_any (asks_for name) ms

-- A name is that of a PUBDEF or a COMDEF.
abbrev pub has_claim : List (Named Claim) → List ℕ → Bool
has_claim claims name = list_any (λ c. bytes_eq c.0 name) claims

-- Of these names, those that a module asks for and none defines. There are none without a group DGROUP.
abbrev pub is_missing : List (List Rec) → List ℕ → Bool
is_missing ms name = ask_for name ms && not (has_claim (all_claims ms) name)

abbrev pub missing : List (List Rec) → List (List ℕ) → List (List ℕ)
missing ms names = if are_grouped ms then filter (is_missing ms) names else []

-- The first address after the data of DGROUP, and the first after its BSS.
abbrev pub data_names : List (List ℕ)
data_names = codes "_edata" ∷ codes "__edata" ∷ []

abbrev pub bss_names : List (List ℕ)
bss_names = codes "_end" ∷ codes "__end" ∷ []

-- ---- The records

-- The names and the segment of an empty segment, after others.
abbrev pub slot_names : Slot → List Rec
slot_names s = name_record s.class ∷ name_record s.name ∷ []

abbrev pub slot_records : ℕ → Slot → List Rec
slot_records j s = slot_names s ++ segment_record s.attribute 0 (2 * j + 2) (2 * j + 1) ∷ []

abbrev pub slots_records : ℕ → List Slot → List Rec
slots_records j [] = []
slots_records j (s ∷ ss) = slot_records j s ++ slots_records (j + 1) ss

-- The group DGROUP, without members of its own: its members are in the other modules.
abbrev pub dgroup_records : ℕ → List Rec
dgroup_records count = name_record (codes "DGROUP") ∷ empty_group_record (2 * count + 1) ∷ []

abbrev pub order_group : Bool → ℕ → List Rec
order_group grouped count = if grouped then dgroup_records count else []

-- Publics at the beginning of a segment of the module, in its group.
abbrev pub end_publics : ℕ → List (List ℕ) → List Rec
end_publics segment names = map (λ name. public_record 1 segment name 0) names

-- The comments that raise empty segments, from the first on.
abbrev pub raise_records : List Slot → List Rec
raise_records ss = raisings 1 (map (λ s. s.raised) ss)

-- The module: its name, the segments, the comments that raise them, the group, the publics, the end.
abbrev pub order_records : List (List Rec) → List Rec
order_records ms =
    let grouped = are_grouped ms in
    let ss = slots ms in
    let all = dos_slots grouped ss in
    header (codes "order") ∷ (slots_records 0 all ++ (raise_records all ++ (order_group grouped (length all)
    ++ (end_publics (length (data_slots ss) + 1) (missing ms data_names) ++ (end_publics (length (bss_slots grouped ss) + 1) (missing ms bss_names) ++ end_record ∷ [])))))

-- ---- Whether DOS order is asked for

-- A comment of class 9EH asks for it.
abbrev pub is_dosseg : Contents → Bool
is_dosseg (Comment byte class text) = class == 0x9E
is_dosseg _ = false

abbrev pub asks_dos_order : List Rec → Bool
asks_dos_order m = list_any (λ r. is_dosseg r.contents) m

abbrev pub ask_dos_order : List (List Rec) → Bool
ask_dos_order ms = list_any asks_dos_order ms
