-- Modules of the worked examples of what is reached.
use Rattle.std.specs.Prelude.{ℕ, List, ◌++◌, codes, true, false}
use Rattle.omf_frame.specs.Rows.{hex}
use Rattle.omf_check.specs.Module.{recs_of}
use Rattle.omf_check.specs.Rows.{H, M}
use Rattle.omf_records.specs.Values.{Rec}
use Rattle.omf_trimming.specs.declared.optional.LeftOut.{LeftOut}

abbrev pub code_out : LeftOut
code_out = record { code = true; debug = false }

abbrev pub debug_out : LeftOut
debug_out = record { code = false; debug = true }

-- the names "", T, CODE and DATA; a segment T of the class DATA and two of the class CODE, each of 4 bytes
abbrev pub three : List ℕ
three = H ++ hex (codes "96 0E 00 00 01 54 04 43 4F 44 45 04 44 41 54 41 00") ++ hex (codes "98 07 00 28 04 00 02 04 01 00") ++ hex (codes "98 07 00 28 04 00 02 03 01 00")
    ++ hex (codes "98 07 00 28 04 00 02 03 01 00")

-- data of segment 1 with a word that refers to segment 2, and data of segment 3 with one that refers to segment 1
abbrev pub one_refers : List Rec
one_refers = recs_of (three ++ hex (codes "A0 06 00 01 00 00 00 00 00") ++ hex (codes "9C 05 00 C4 00 54 02 00") ++ hex (codes "A0 06 00 03 00 00 00 00 00")
    ++ hex (codes "9C 05 00 C4 00 54 01 00") ++ M)

-- a group of the segments 2 and 3, and a start at the group's first byte in the frame of segment 2
abbrev pub starts : List Rec
starts = recs_of (three ++ hex (codes "9A 06 00 02 FF 02 FF 03 00") ++ hex (codes "8A 05 00 C0 05 02 01 00"))

-- the external f, and data of segment 1 with a word that refers to it
abbrev pub asks : List Rec
asks = recs_of (three ++ hex (codes "8C 04 00 01 66 00 00") ++ hex (codes "A0 06 00 01 00 00 00 00 00") ++ hex (codes "9C 05 00 C4 00 56 01 00") ++ M)

-- f in segment 3
abbrev pub defines : List Rec
defines = recs_of (three ++ hex (codes "90 08 00 00 03 01 66 02 00 00 00") ++ M)

-- a segment S of the class DEBSYM
abbrev pub symbols : List Rec
symbols = recs_of (H ++ hex (codes "96 0B 00 00 01 53 06 44 45 42 53 59 4D 00") ++ hex (codes "98 07 00 28 04 00 02 03 01 00") ++ M)
