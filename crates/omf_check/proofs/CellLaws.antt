-- The cells are the threads found by a search backward.
use Rattle.std.proofs.Common.{◌≡◌, ℕ, ◌<◌, Bool, List, [], ◌∷◌, ◌++◌, append_assoc, refl, sym, ◌∙◌, ap, arith}
use Rattle.std.specs.Prelude.{fold}
use Rattle.std.specs.Option.{option_or}
use Rattle.std.proofs.lemmas.List.{append-nil}
use Rattle.omf_records.specs.Inner.Names.{thread_number}
use Rattle.omf_records.specs.Values.{Subrecord}
use Rattle.omf_image.proofs.LastLaws.{last_filter_map}
use Rattle.omf_check.specs.Threads.{setting_of, thread}
use Rattle.omf_check.specs.Inner.Cells.{Cells, no_cells, set_cell, cells_after}

-- A thread after one more subrecord.
pub thread-append : (is_frame : Bool) (k : ℕ) (earlier : List Subrecord) (s : Subrecord) → thread is_frame k (earlier ++ s ∷ []) ≡ option_or (setting_of is_frame k s) (thread is_frame k earlier)
thread-append is_frame k earlier s =
    last_filter_map (setting_of is_frame k) earlier s

-- the cells after these subrecords, from cells that are the threads of the earlier ones
cells_from : (earlier subs : List Subrecord) (cells : Cells) → ((is_frame : Bool) (k : ℕ) → cells is_frame k ≡ thread is_frame k earlier)
    → (is_frame : Bool) (k : ℕ) → fold set_cell cells subs is_frame k ≡ thread is_frame k (earlier ++ subs)
cells_from earlier [] cells h is_frame k = h is_frame k ∙ ap (thread is_frame k) (sym (append-nil earlier))
cells_from earlier (s ∷ subs) cells h is_frame k =
    cells_from (earlier ++ s ∷ []) subs (set_cell cells s) (λ d n. ap (option_or (setting_of d n s)) (h d n) ∙ sym (thread-append d n earlier s)) is_frame k
    ∙ ap (thread is_frame k) (append_assoc earlier (s ∷ []) subs)

pub cells_are_threads : (subs : List Subrecord) (is_frame : Bool) (k : ℕ) → cells_after subs is_frame k ≡ thread is_frame k subs
cells_are_threads subs = cells_from [] subs no_cells (λ d n. refl)

pub few_numbers : (byte : ℕ) → thread_number byte < 4
few_numbers byte = omega arith
