-- Definitions of the worked examples.
use Rattle.std.specs.Prelude.{ℕ, List, [], ◌∷◌, ◌++◌, codes}
use Rattle.omf_frame.specs.Rows.{hex}
use Rattle.omf_image.specs.declared.run.Run.{Run}
use Rattle.omf_image.specs.Overlay.{Laid}

-- a block of one byte, repeated once
abbrev pub innermost : List ℕ
innermost = hex (codes "01 00 00 00 01 AA")

abbrev pub lay : ℕ → ℕ → List ℕ → Laid
lay segment offset bytes = record { segment = segment; offset = offset; bytes = bytes }

abbrev pub run : ℕ → ℕ → Run
run first len = record { first = first; len = len }

abbrev pub five : List Laid
five = lay 1 0 (hex (codes "01 02 03 04")) ∷ lay 1 1 (hex (codes "AA")) ∷ lay 1 6 (hex (codes "05"))
    ∷ lay 1 4 (hex (codes "BB CC")) ∷ lay 1 2 [] ∷ []

abbrev pub six : List Laid
six = five ++ lay 1 0xFFFFFFFF (hex (codes "EE")) ∷ []
