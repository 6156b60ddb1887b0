-- The groups of a draft, in order.
use Rattle.std.proofs.Common.{◌≡◌, ℕ, ◌+◌, ◌<◌, List, [], ◌∷◌, ◌++◌, length, drop, slice_index_or, add-one, drop-cons, append_assoc, false, refl, sym, ap, ◌∙◌}
use Rattle.std.specs.Prelude.{filter_map, Option, Some, None, Result, Ok, Err, IsOk, is_ok, if◌then◌else◌}
use Rattle.std.specs.List.{enumerate_from}
use Rattle.std.specs.Result.{is_err}
use Rattle.std.proofs.lemmas.Bool.{true≢false}
use Rattle.omf_placement.specs.PlacementText.{unresolved_group, resolved_group}
use Rattle.omf_placement.specs.Inner.Names.{ok_or_first}
use Rattle.omf_placement.specs.declared.frame.Frame.{Frame}
use Rattle.omf_records.specs.Values.{Rec}
use Rattle.omf_placement.specs.Placement.{Placed}
use Rattle.omf_placement.specs.Inner.Parsing.{frames_from}

-- The frames of group entries, of which the first is the k-th; and the lines of those without one.
abbrev pub frames_in : List Rec → List Placed → ℕ → List (ℕ × Option Frame) → List Frame
frames_in m xs k groups = filter_map (resolved_group m xs) (enumerate_from k groups)

abbrev pub lines_in : List Rec → List Placed → ℕ → List (ℕ × Option Frame) → List ℕ
lines_in m xs k groups = filter_map (unresolved_group m xs) (enumerate_from k groups)

-- the entries from a place on
pub from_place : (groups : List (ℕ × Option Frame)) (i : ℕ) → i < length groups → drop i groups ≡ slice_index_or groups i (0, None) ∷ drop (i + 1) groups
from_place groups i h = rw (add-one, drop-cons groups i (0, None)) refl

-- a group whose frame is found
next_frame : (m : List Rec) (xs : List Placed) (k : ℕ) (g : ℕ × Option Frame) (rest : List (ℕ × Option Frame)) (frame : Frame) → resolved_group m xs (k, g) ≡ Some frame → frames_in m xs k (g ∷ rest) ≡ frame ∷ frames_in m xs (k + 1) rest
next_frame m xs k g rest frame e = rw e refl

no_line : (m : List Rec) (xs : List Placed) (k : ℕ) (g : ℕ × Option Frame) (rest : List (ℕ × Option Frame)) (frame : Frame) → resolved_group m xs (k, g) ≡ Some frame → lines_in m xs k (g ∷ rest) ≡ lines_in m xs (k + 1) rest
no_line m xs k g rest frame e = rw e refl

pub one_found : (m : List Rec) (xs : List Placed) (k : ℕ) (g : ℕ × Option Frame) (groups rest : List (ℕ × Option Frame)) (frame : Frame) (frames now all : List Frame) → groups ≡ g ∷ rest → resolved_group m xs (k, g) ≡ Some frame → now ≡ frames ++ frame ∷ []
    → frames ++ frames_in m xs k groups ≡ all → now ++ frames_in m xs (k + 1) rest ≡ all
one_found m xs k g groups rest frame frames now all e f n h =
    ap (λ t. t ++ frames_in m xs (k + 1) rest) n ∙ append_assoc frames (frame ∷ []) (frames_in m xs (k + 1) rest)
    ∙ ap (λ t. frames ++ t) (sym (next_frame m xs k g rest frame f)) ∙ ap (λ t. frames ++ frames_in m xs k t) (sym e) ∙ h

pub one_sound : (m : List Rec) (xs : List Placed) (k : ℕ) (g : ℕ × Option Frame) (groups rest : List (ℕ × Option Frame)) (frame : Frame) (all : List ℕ) → groups ≡ g ∷ rest → resolved_group m xs (k, g) ≡ Some frame
    → lines_in m xs k groups ≡ all → lines_in m xs (k + 1) rest ≡ all
one_sound m xs k g groups rest frame all e f h = sym (no_line m xs k g rest frame f) ∙ ap (lines_in m xs k) (sym e) ∙ h

-- the value of an Ok
pub not_refused : {A B E : Type 0} (r : Result A E) (new old : B) → is_err r ≡ false → (if is_ok r then new else old) ≡ new
not_refused (Ok a) new old e = refl
not_refused (Err x) new old e = absurd (true≢false e)

-- at the end no line is at fault
pub none_at_fault : (m : List Rec) (xs : List Placed) (k : ℕ) (groups rest : List (ℕ × Option Frame)) → rest ≡ [] → lines_in m xs k rest ≡ lines_in m xs 1 groups → IsOk (frames_from m xs 1 groups)
none_at_fault m xs k groups rest e h = let none : lines_in m xs 1 groups ≡ [] = sym h ∙ ap (lines_in m xs k) e in rw none refl

-- a group whose frame cannot be found is the first
pub not_found : (m : List Rec) (xs : List Placed) (k : ℕ) (g : ℕ × Option Frame) (groups rest all : List (ℕ × Option Frame)) → groups ≡ g ∷ rest → resolved_group m xs (k, g) ≡ None
    → lines_in m xs k groups ≡ lines_in m xs 1 all → frames_from m xs 1 all ≡ Err g.0
not_found m xs k g groups rest all e f h =
    let first : lines_in m xs k (g ∷ rest) ≡ g.0 ∷ lines_in m xs (k + 1) rest = rw f refl in
    ap (ok_or_first (frames_in m xs 1 all)) (sym h ∙ ap (lines_in m xs k) e ∙ first)
