-- The entry on a line, computed.
use Rattle.std.specs.Prelude.{ℕ, List, [], ◌∷◌, length, Option, Some, None, option_map, option_and_then, ◌==◌, ◌&&◌, nat_le, nat_lt, codes, if◌then◌else◌, bytes_eq}
use Rattle.std.specs.List.{slice_split, list_all}
use Rattle.std.specs.Char.{is_digit}
use Rattle.std.specs.Str.Parse.{digits_value}
use Rattle.omf_placement.specs.declared.frame.Frame.{Frame}
use Rattle.omf_placement.specs.Placement.{Placed, real_frame}
use Rattle.omf_placement.specs.Entries.{Entry, Blank, SegmentEntry, GroupEntry, ExternalEntry}

abbrev pub hexadecimal : ℕ → List ℕ → Option ℕ
hexadecimal most cs = if nat_lt 0 (length cs) && (nat_le (length cs) most && list_all (λ c. is_digit c 16) cs) then Some (digits_value 16 cs) else None

abbrev pub frame_of : List ℕ → List ℕ → Option Frame
frame_of base selector = option_and_then (λ b. option_map (λ s. record { base = b; selector = s }) (hexadecimal 4 selector)) (hexadecimal 8 base)

abbrev pub placed_of : List ℕ → List ℕ → List ℕ → Option Placed
placed_of address base selector = option_and_then (λ a. option_map (λ f. record { address = a; frame = f }) (frame_of base selector)) (hexadecimal 8 address)

abbrev pub real_of : List ℕ → Option Placed
real_of address = option_and_then (λ a. option_map (λ f. record { address = a; frame = f }) (real_frame a)) (hexadecimal 8 address)

-- The entry of one to four words; none if they are no entry.
abbrev pub one_word : List ℕ → Option Entry
one_word [] = Some Blank
one_word (c ∷ cs) = None

abbrev pub two_words : List ℕ → List ℕ → Option Entry
two_words w x = if bytes_eq w (codes "G") && bytes_eq x (codes "real") then Some (GroupEntry None) else None

abbrev pub three_words : List ℕ → List ℕ → List ℕ → Option Entry
three_words w x y = if bytes_eq w (codes "S") && bytes_eq y (codes "real") then option_map SegmentEntry (real_of x)
    else (if bytes_eq w (codes "G") then option_map (λ f. GroupEntry (Some f)) (frame_of x y) else None)

abbrev pub four_words : List ℕ → List ℕ → List ℕ → List ℕ → Option Entry
four_words w x y z = if bytes_eq w (codes "S") then option_map SegmentEntry (placed_of x y z)
    else (if bytes_eq w (codes "E") then option_map ExternalEntry (placed_of x y z) else None)

abbrev pub entry_of_words : List (List ℕ) → Option Entry
entry_of_words (w ∷ []) = one_word w
entry_of_words (w ∷ x ∷ []) = two_words w x
entry_of_words (w ∷ x ∷ y ∷ []) = three_words w x y
entry_of_words (w ∷ x ∷ y ∷ z ∷ []) = four_words w x y z
entry_of_words _ = None

abbrev pub words_of : List ℕ → List (List ℕ)
words_of text = slice_split (λ c. c == 32) text

-- The entry of a line's text.
abbrev pub entry_said : List ℕ → Option Entry
entry_said text = entry_of_words (words_of text)
