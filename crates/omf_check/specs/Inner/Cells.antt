-- The threads in force as cells: one setting for each kind and number. A THREAD sets one cell.
use Rattle.std.specs.Prelude.{ℕ, List, fold, Bool, Option, None}
use Rattle.std.specs.Option.{option_or}
use Rattle.omf_records.specs.Values.{Subrecord}
use Rattle.omf_check.specs.Threads.{Setting, setting_of}

-- the setting of each frame and target thread, by number
abbrev pub Cells : Type 0
Cells = Bool → ℕ → Option Setting

-- no thread is set
abbrev pub no_cells : Cells
no_cells is_frame k = None

-- the cells after one more subrecord
abbrev pub set_cell : Cells → Subrecord → Cells
set_cell cells s is_frame k = option_or (setting_of is_frame k s) (cells is_frame k)

-- the cells after some subrecords
abbrev pub cells_after : List Subrecord → Cells
cells_after subs = fold set_cell no_cells subs
