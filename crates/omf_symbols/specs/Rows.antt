-- Definitions for the worked examples.
use Rattle.std.specs.Prelude.{ℕ, List, [], ◌∷◌, ◌++◌, Bool, codes}
use Rattle.omf_check.specs.Inner.Verdict.{Verdict, Accepted, Refused, Unknown}
use Rattle.omf_check.specs.Rows.{H, M, verdict_of}
use Rattle.omf_check.specs.WellFormed.{recs}
use Rattle.omf_frame.specs.Framing.{Raw}
use Rattle.omf_frame.specs.Rows.{hex}
use Rattle.omf_placement.specs.Placement.{Places}
use Rattle.omf_placement.specs.declared.frame.Placed.{Placed}
use Rattle.omf_records.specs.Values.{Rec}
use Rattle.omf_symbols.specs.Symbol.{Symbol}

abbrev pub at : Bool → ℕ → List ℕ → Symbol
at is_code address name = record { is_code = is_code; address = address; name = name }

-- The records of an input that is accepted; none of any other.
abbrev pub accepted : Verdict → List Raw
accepted (Accepted rs) = rs
accepted (Refused r p) = []
accepted Unknown = []

-- Segments of 4 bytes of the classes CODE and DATA; the local public L in the first, V in the second, C at 2 of frame B800H.
abbrev pub coded : List Rec
coded = recs (accepted (verdict_of (H ++ hex (codes "96 0E 00 00 01 54 04 43 4F 44 45 04 44 41 54 41 CA") ++ hex (codes "98 07 00 28 04 00 02 03 01 2F") ++ hex (codes "98 07 00 28 04 00 02 04 01 2E") ++ hex (codes "B6 08 00 00 01 01 4C 01 00 00 F3") ++ hex (codes "90 08 00 00 02 01 56 02 00 00 0D") ++ hex (codes "90 0A 00 00 00 00 B8 01 43 02 00 00 68") ++ M)))

-- Its segments at two addresses, in one frame.
abbrev pub place : ℕ → Placed
place address = record { address = address; frame = record { base = 0; selector = 0 } }

abbrev pub placed_at : ℕ → ℕ → Places
placed_at first second = record { segments = place first ∷ place second ∷ []; groups = []; externals = [] }
