-- The modules of the worked examples, besides those of omf_check.
use Rattle.std.specs.Prelude.{ℕ, List, [], ◌∷◌, ◌++◌, Some, None, codes}
use Rattle.std.specs.List.{repeat}
use Rattle.omf_frame.specs.Framing.{Raw}
use Rattle.omf_frame.specs.Rows.{hex}
use Rattle.omf_records.specs.Values.{Rec, Plain, Fixups, Fixup}
use Rattle.omf_check.specs.Inner.Verdict.{Verdict, Accepted, Refused, Unknown}
use Rattle.omf_check.specs.WellFormed.{recs}
use Rattle.omf_check.specs.Rows.{verdict_of, H, N, S, L, F, M, with_fixup, threads, defined_thread, repeated, nested_blocks, big, started, thread_ahead}

-- The records of an input that is accepted; none of any other.
abbrev pub accepted : Verdict → List Raw
accepted (Accepted rs) = rs
accepted (Refused r p) = []
accepted Unknown = []

abbrev pub raws_of : List ℕ → List Raw
raws_of input = accepted (verdict_of input)

abbrev pub module_of : List ℕ → List Rec
module_of input = recs (raws_of input)

-- Frame thread 0 is F4; target thread 0 names the first segment, and later the second.
abbrev pub with_threads : List ℕ
with_threads = threads defined_thread

-- A second data record over part of the first, each with a fixup.
abbrev pub overlaid : List ℕ
overlaid = H ++ N ++ S ++ L ++ F ++ hex (codes "A0 06 00 01 01 00 05 00 53 9C 06 00 C4 00 04 01 01 94") ++ M

-- Two fixups whose locations overlap.
abbrev pub overlapping : List ℕ
overlapping = H ++ N ++ S ++ hex (codes "A0 08 00 01 00 00 F0 FF 00 00 68 9C 0B 00 C4 00 04 01 01 C4 01 04 01 01 C4") ++ M

-- A displacement of FFFCH.
abbrev pub displaced : List ℕ
displaced = with_fixup (hex (codes "9C 08 00 C4 01 00 01 01 FC FF 9A"))

-- A near call of the segment itself.
abbrev pub call : List ℕ
call = H ++ N ++ S ++ hex (codes "A0 08 00 01 00 00 E8 00 00 90 DF 9C 06 00 84 01 04 01 01 D3") ++ M

-- A short jump to an external.
abbrev pub jump : List ℕ
jump = H ++ N ++ S ++ hex (codes "8C 04 00 01 58 00 17 A0 08 00 01 00 00 EB 00 00 90 DC 9C 06 00 80 01 06 01 01 D5") ++ M

abbrev pub with_blocks : List ℕ
with_blocks = repeated nested_blocks

-- The last two bytes of a big segment.
abbrev pub big_end : List ℕ
big_end = big (hex (codes "A0 06 00 01 FE FF AB CD E4"))

-- A start in the segment; its frame is that of a group, by a thread.
abbrev pub with_start : List ℕ
with_start = started (hex (codes "8A 06 00 C1 A0 01 02 00 0C"))

-- A thread that names the second segment before its SEGDEF.
abbrev pub early_thread : List ℕ
early_thread = thread_ahead S

-- A group of the segment, and a base by the frame of its target, which is the group.
abbrev pub group_base : List ℕ
group_base = H ++ N ++ S ++ hex (codes "9A 04 00 02 FF 01 60") ++ L ++ hex (codes "9C 05 00 C8 01 55 01 40") ++ M

-- A fixup by the segment, in the frame of the external X.
abbrev pub by_external : List ℕ
by_external = H ++ N ++ S ++ hex (codes "8C 04 00 01 58 00 17") ++ L ++ hex (codes "9C 06 00 C4 01 24 01 01 73") ++ M

-- 205 fixups of one location.
abbrev pub many_fixups : List ℕ
many_fixups = with_fixup (hex (codes "9C 02 04") ++ repeat 205 (hex (codes "C4 01 04 01 01")) ++ 0xCF ∷ [])

-- A module that uses the external X, and two that have a public of that name, by a group and without a segment.
abbrev pub using : List ℕ
using = H ++ N ++ S ++ hex (codes "8C 04 00 01 58 00 17") ++ L ++ hex (codes "9C 05 00 C4 01 56 01 43") ++ M

-- The same by a local external, followed by these records.
abbrev pub using_locally : List ℕ → List ℕ
using_locally records = H ++ N ++ S ++ hex (codes "B4 04 00 01 58 00 EF") ++ records ++ L ++ hex (codes "9C 05 00 C4 01 56 01 43") ++ M

abbrev pub local_public : List ℕ
local_public = hex (codes "B6 08 00 00 01 01 58 03 00 00 E5")

abbrev pub group_public : List ℕ
group_public = H ++ N ++ S ++ hex (codes "9A 04 00 02 FF 01 60 90 08 00 01 01 01 58 02 00 00 0B") ++ M

abbrev pub constant_public : List ℕ
constant_public = H ++ N ++ S ++ hex (codes "90 0A 00 00 00 00 B8 01 58 02 00 00 53") ++ M

-- The short jump with a displacement of these two bytes.
abbrev pub jump_by : ℕ → ℕ → List ℕ
jump_by low high = H ++ N ++ S ++ hex (codes "8C 04 00 01 58 00 17 A0 08 00 01 00 00 EB 00 00 90 DC 9C 08 00 80 01 02 01 01") ++ low ∷ high ∷ 0x00 ∷ M

-- An absolute segment at B800H and a byte offset.
abbrev pub absolute_at : ℕ → List ℕ
absolute_at offset = H ++ N ++ hex (codes "98 0A 00 08 00 B8") ++ offset ∷ hex (codes "04 00 02 01 01 00") ++ L ++ F ++ M

-- Two segments, and a group that names the second first.
abbrev pub two_segments : List ℕ
two_segments = H ++ N ++ S ++ S ++ hex (codes "9A 06 00 02 FF 02 FF 01 00") ++ M

-- A start of the segment in its own frame, in a MODEND of this type, without a displacement.
abbrev pub start_at : ℕ → List ℕ
start_at kind = H ++ N ++ S ++ kind ∷ hex (codes "05 00 C1 04 01 01 00")

-- An LEDATA in segment 7, and a fixup by that segment, where no segment is defined.
abbrev pub data_in_7 : Rec
data_in_7 = record { kind = 0xA0; contents = Plain (record { segment = record { within = 3; item = 7 }; offset = record { within = 4; item = 0 }; bytes = 0 ∷ 0 ∷ [] }) }

abbrev pub fixup_by_7 : Rec
fixup_by_7 = record {
  kind = 0x9C;
  contents = Fixups (record {
    within = 3;
    item = Fixup 0xC800 (record {
      fix = record { within = 5; item = 4 };
      frame = Some (record { within = 6; item = 7 });
      target = Some (record { within = 7; item = 7 });
      displacement = None;
    });
  } ∷ []);
}

abbrev pub in_no_segment : List Rec
in_no_segment = data_in_7 ∷ fixup_by_7 ∷ []
