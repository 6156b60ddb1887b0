-- Definitions and modules of the worked examples.
use Rattle.std.specs.Prelude.{ℕ, List, [], ◌∷◌, ◌++◌, false, true, flat_map, replicate, Option, Some, None, codes, ◌≡◌}
use Rattle.omf_frame.specs.Fault.{Fault, broken, least}
use Rattle.omf_frame.specs.Framing.{raw_bytes}
use Rattle.omf_frame.specs.Rows.{hex}
use Rattle.omf_frame.specs.declared.fault.Place.{Place}
use Rattle.omf_frame.specs.declared.fault.Reason.{Reason}
use Rattle.omf_records.specs.Rows.{put_at}
use Rattle.omf_records.specs.Values.{At, Rec, ExternalItem, Names, Segment, Group, Externs}
use Rattle.omf_image.specs.Limits.{profile_limits}
use Rattle.omf_check.specs.Rules.{rules}
use Rattle.omf_check.specs.Inner.Verdict.{Verdict, Accepted, Refused, Unknown, verdict}
use Rattle.omf_check.specs.declared.profile.Profile.{Profile}

abbrev pub any : Profile
any = record { refuse_vendor_comments = false }

abbrev pub no_vendors : Profile
no_vendors = record { refuse_vendor_comments = true }

abbrev pub verdict_of : List ℕ → Verdict
verdict_of input = verdict any profile_limits input

-- the bytes of the accepted module
abbrev pub module_in : Verdict → Option (List ℕ)
module_in (Accepted records) = Some (flat_map raw_bytes records)
module_in (Refused why at) = None
module_in Unknown = None

abbrev pub place : ℕ → ℕ → ℕ → Place
place number start within = record { number = number; start = start; within = within }

-- The bytes are accepted, and are the whole module; or they are refused for this reason at this place.
abbrev pub IsTaken : List ℕ → Type 0
IsTaken bytes = module_in (verdict_of bytes) ≡ Some bytes

abbrev pub Fails : List ℕ → Reason → ℕ → ℕ → ℕ → Type 0
Fails bytes why number start within = verdict_of bytes ≡ Refused why (place number start within)

-- a header, a name T, a segment T of 4 bytes, its data, a fixup of its bytes 1 and 2, and the end
abbrev pub H : List ℕ
H = hex (codes "80 03 00 01 41 3B")

abbrev pub N : List ℕ
N = hex (codes "96 04 00 00 01 54 11")

abbrev pub S : List ℕ
S = hex (codes "98 07 00 28 04 00 02 01 01 31")

abbrev pub L : List ℕ
L = hex (codes "A0 08 00 01 00 00 B8 00 00 90 0F")

abbrev pub F : List ℕ
F = hex (codes "9C 06 00 C4 01 04 01 01 93")

abbrev pub M : List ℕ
M = hex (codes "8A 02 00 00 74")

abbrev pub first_module : List ℕ
first_module = H ++ N ++ S ++ L ++ F ++ M

abbrev pub without_checksums : List ℕ
without_checksums = hex (codes "80 03 00 01 41 00") ++ hex (codes "96 04 00 00 01 54 00")
    ++ hex (codes "98 07 00 28 04 00 02 01 01 00") ++ hex (codes "A0 08 00 01 00 00 B8 00 00 90 00")
    ++ hex (codes "9C 06 00 C4 01 04 01 01 00") ++ hex (codes "8A 02 00 00 00")

abbrev pub wrong_checksum : List ℕ
wrong_checksum = H ++ N ++ S ++ hex (codes "A0 08 00 01 00 00 B8 00 00 90 10") ++ F ++ M

-- the data's segment index in two bytes
abbrev pub long_index : List ℕ
long_index = H ++ N ++ S ++ hex (codes "A0 09 00 80 01 00 00 B8 00 00 90 8E") ++ F ++ M

-- threads across FIXUPPs and data records; the second FIXUPP is given
abbrev pub threads : List ℕ → List ℕ
threads second = H ++ N ++ S ++ hex (codes "98 07 00 28 02 00 02 01 01 33")
    ++ hex (codes "A0 08 00 01 00 00 00 00 00 00 57") ++ hex (codes "9C 09 00 50 00 01 C4 00 8C 00 02 B8") ++ second
    ++ hex (codes "A0 06 00 02 00 00 00 00 58 9C 04 00 C4 00 8C 10") ++ M

abbrev pub defined_thread : List ℕ
defined_thread = hex (codes "9C 04 00 C4 02 8C 0E")

abbrev pub undefined_thread : List ℕ
undefined_thread = hex (codes "9C 04 00 C4 02 8D 0D")

-- 32-bit records and the group FLAT
abbrev pub flat : List ℕ
flat = H ++ hex (codes "96 09 00 00 01 54 04 46 4C 41 54 E1") ++ hex (codes "99 09 00 A9 0A 00 00 00 02 01 01 A7")
    ++ hex (codes "9A 02 00 03 61") ++ hex (codes "A1 10 00 01 00 00 00 00 00 00 00 00 00 00 00 00 00 00 4E")
    ++ hex (codes "9D 0F 00 EC 00 14 01 01 E4 06 10 01 01 04 00 00 00 52") ++ M

-- a segment of 12 bytes, then the given records
abbrev pub repeated : List ℕ → List ℕ
repeated records = H ++ N ++ hex (codes "98 07 00 28 0C 00 02 01 01 29") ++ records ++ M

abbrev pub nested_blocks : List ℕ
nested_blocks = hex (codes "A2 15 00 01 00 00 03 00 02 00 02 00 00 00 01 AA 01 00 00 00 02 BB CC 0C")

abbrev pub blocks_of_nothing : List ℕ
blocks_of_nothing = hex (codes "A3 0D 00 01 00 00 00 00 FF FF FF FF 00 00 00 53")

abbrev pub too_many_bytes : List ℕ
too_many_bytes = hex (codes "A3 0E 00 01 00 00 00 00 01 00 00 10 00 00 01 AA 92")

abbrev pub most_bytes : List ℕ
most_bytes = hex (codes "A3 0E 00 01 00 00 00 00 00 00 00 10 00 00 01 AA 93")

abbrev pub many_bytes : List ℕ
many_bytes = hex (codes "A3 0E 00 01 00 00 00 00 01 00 00 01 00 00 01 AA A1")

-- the first module with another fixup
abbrev pub with_fixup : List ℕ → List ℕ
with_fixup f = H ++ N ++ S ++ L ++ f ++ M

-- a big segment, and data at its end
abbrev pub big : List ℕ → List ℕ
big records = H ++ N ++ hex (codes "98 07 00 2A 00 00 02 01 01 33") ++ records ++ M

-- a group, a frame thread, and an end with a start
abbrev pub started : List ℕ → List ℕ
started end = H ++ N ++ S ++ hex (codes "9A 04 00 02 FF 01 60 9C 03 00 46 01 1A") ++ end

abbrev pub absolute : List ℕ
absolute = H ++ N ++ hex (codes "98 0A 00 08 00 B8 00 04 00 02 01 01 96") ++ L ++ F ++ M

-- a thread refers to segment 2 before it is defined; the next records are given
abbrev pub thread_ahead : List ℕ → List ℕ
thread_ahead records = H ++ N ++ S ++ hex (codes "9C 03 00 01 02 5E") ++ records ++ L
    ++ hex (codes "9C 05 00 C4 01 0D 01 8C") ++ M

abbrev pub comment : ℕ → ℕ → List ℕ
comment class checksum = H ++ hex (codes "88 03 00 00") ++ class ∷ checksum ∷ M

abbrev pub communal : List ℕ
communal = H ++ hex (codes "B0 08 00 01 58 00 62 81 80 00 8C") ++ M

abbrev pub public : List ℕ
public = H ++ N ++ S ++ hex (codes "90 08 00 00 01 01 58 02 00 00 0C") ++ M

-- a jump to a local external; a segment named by an LLNAMES; an LCOMDEF
abbrev pub local_jump : List ℕ
local_jump = H ++ N ++ S
    ++ hex (codes "B4 04 00 01 58 00 EF A0 08 00 01 00 00 EB 00 00 90 DC 9C 06 00 80 01 06 01 01 D5") ++ M

abbrev pub local_name : List ℕ
local_name = H ++ hex (codes "CA 03 00 01 55 DD 98 07 00 28 04 00 01 00 00 34") ++ M

abbrev pub local_communal : List ℕ
local_communal = H ++ hex (codes "B8 08 00 01 58 00 62 81 80 00 84") ++ M

-- no names, and a public at a base frame number
abbrev pub nameless : List ℕ
nameless = H ++ hex (codes "98 07 00 28 04 00 00 00 01 00") ++ hex (codes "9A 04 00 00 FF 01 00")
    ++ hex (codes "90 0A 00 00 00 00 B8 01 58 02 00 00 53") ++ M

-- records of one segment, one group, two externals; of this name index
abbrev pub segment_named : ℕ → Rec
segment_named i = record {
  kind = 0x98;
  contents = Segment (record { attribute = 0x28; absolute = None; size = 4; name = put_at 6 i; class = put_at 7 0; overlay = 0 });
}

abbrev pub group_named : ℕ → Rec
group_named i = record { kind = 0x9A; contents = Group (record { name = put_at 3 i; members = [] }) }

abbrev pub external_at : ℕ → At ExternalItem
external_at within = put_at within (record { name = hex (codes "58"); type_index = 0 })

abbrev pub two_externals : Rec
two_externals = record { kind = 0x8C; contents = Externs (external_at 3 ∷ external_at 6 ∷ []) }

-- one name, in a record of this type
abbrev pub named_in : ℕ → Rec
named_in kind = record { kind = kind; contents = Names (put_at 3 (hex (codes "55")) ∷ []) }

-- the fault of meaning of a record after n records of one kind
abbrev pub meaning_after : ℕ → Rec → Rec → Option Fault
meaning_after n before r = least (broken (rules any profile_limits (replicate n before) r))
