-- Definitions of the worked examples.
use Rattle.std.specs.Prelude.{ℕ, List, [], ◌∷◌, ◌++◌, codes, flat_map}
use Rattle.omf_check.specs.Module.{recs_of}
use Rattle.omf_frame.specs.Rows.{hex}
use Rattle.omf_dump.specs.Names.{module_rows, rows_text}
use Rattle.omf_dump.specs.declared.format.Shape.{Shape}
use Rattle.omf_dump.specs.declared.format.Which.{Which}
use Rattle.omf_dump.specs.declared.format.Format.TheVariants as format
use Rattle.omf_dump.specs.declared.format.Style.{Style}

abbrev pub lines : List (List ℕ) → List ℕ
lines ls = flat_map (λ l. l ++ 10 ∷ []) ls

-- text and JSON with all data; text with two bytes of them for each record
abbrev pub text : Style
text = record { format = format.Text; most = 65536 }

abbrev pub json : Style
json = record { format = format.Json; most = 65536 }

abbrev pub short : Style
short = record { format = format.Text; most = 2 }

-- A module with a segment _TEXT of class CODE, with data, and _DATA of class DATA, without; externals w and u, of which a WKEXT names w; publics m in
-- _TEXT, d in _DATA and, local, t in the frame 0040H; a communal c; an import i.
abbrev pub named_front : List ℕ
named_front = hex (codes "80 03 00 01 61 1B") ++ hex (codes "96 18 00 00 05 5F 54 45 58 54 04 43 4F 44 45 05 5F 44 41 54 41 04 44 41 54 41 EE")
    ++ hex (codes "98 07 00 28 01 00 02 03 01 32") ++ hex (codes "98 07 00 48 02 00 04 05 01 0D")

abbrev pub named_back : List ℕ
named_back = hex (codes "8C 07 00 01 77 00 01 75 00 7F") ++ hex (codes "88 05 00 80 A8 01 02 48") ++ hex (codes "90 08 00 00 01 01 6D 00 00 00 F9")
    ++ hex (codes "90 08 00 00 02 01 64 01 00 00 00") ++ hex (codes "B6 0A 00 00 00 40 00 01 74 6C 00 00 1F") ++ hex (codes "B0 06 00 01 63 00 62 02 82")
    ++ hex (codes "88 0A 00 80 A0 01 00 01 69 01 44 00 9E") ++ hex (codes "A0 05 00 01 00 00 C3 97") ++ hex (codes "8A 02 00 00 74")

abbrev pub named_text : Shape → Which → List ℕ → List ℕ
named_text f w head = rows_text f w head (module_rows (recs_of (named_front ++ named_back)))
