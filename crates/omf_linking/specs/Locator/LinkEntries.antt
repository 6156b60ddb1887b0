-- The entry of a line of a locator's text (this profile's rule): a letter, a key, and a place, a frame, or `shared`; for all modules where its letter is C, P or F.
use Rattle.std.specs.Prelude.{ℕ, List, [], ◌∷◌, length, map, Bool, ◌==◌, ◌&&◌, ◌^◌, nat_le, nat_lt, Option, Some, None, option_map, option_and_then, codes, if◌then◌else◌, bytes_eq}
use Rattle.std.specs.List.{list_all, list_any, slice_split}
use Rattle.std.specs.Char.{is_digit}
use Rattle.std.specs.Str.Parse.{digits_value}
use Rattle.omf_placement.specs.Entries.{said}
-- computed: entries_are_read, places_are_read and numbers_are_read of omf_placement.
use Rattle.omf_placement.specs.Inner.EntryReading.{frame_of, hexadecimal, placed_of, real_of, words_of}
use Rattle.omf_placement.specs.PlacementText.{numbered_lines}
use Rattle.omf_placement.specs.declared.frame.Frame.{Frame}
use Rattle.omf_placement.specs.declared.frame.Placed.{Placed}
use Rattle.omf_text.specs.Numerals.{digits_of}
use Rattle.omf_linking.specs.declared.locator.span.Span.{Span}
use Rattle.omf_linking.specs.declared.locator.span.Where.{Where}
use Rattle.omf_linking.specs.declared.locator.span.Where.TheVariants.{From, After}

-- A key names a module, or an entry of a module's table: by its name, as it is between the quotes; by its name and class; or by its number.
pub data Key : Type 0 where
  Named : List ℕ → Key
  OfClass : List ℕ → List ℕ → Key
  Numbered : ℕ → Key

-- A line gives a segment a place, or a place and the address at which its bytes are stored; a group a frame (none: that of its lowest member); an external a place.
pub data Target : Type 0 where
  SegmentPlace : Placed → Target
  StoredPlace : Placed → ℕ → Target
  GroupFrame : Option Frame → Target
  ExternalPlace : Placed → Target

-- What a line says: a place or a frame of its own; the address of a segment, in the frame that its name shares, without or with an address at which it is stored; or
-- that a group is in the frame that its name shares.
pub data Told : Type 0 where
  Own : Target → Told
  SharedPlace : ℕ → Told
  SharedStored : ℕ → ℕ → Told
  SharedFrame : Told

-- The segments of all modules that are of a class, of a name, or of a name and a class, each as it is between the quotes.
pub data Parts : Type 0 where
  ClassParts : List ℕ → Parts
  NameParts : List ℕ → Parts
  NamedParts : List ℕ → List ℕ → Parts

-- A line begins the lines of a module, or gives an entry of that module something. For all modules it lays such segments, or gives the groups of a name a frame.
pub data LinkEntry : Type 0 where
  Blank : LinkEntry
  Opens : Key → LinkEntry
  Gives : Key → Told → LinkEntry
  Lays : Parts → Span → LinkEntry
  Frames : List ℕ → Frame → LinkEntry

-- A place is `address base selector` or `address real`; a frame is `base selector` or `real`. Numbers may be marked as hexadecimal: 0x7C00, 7C00H.
abbrev pub place_in : List (List ℕ) → Option Placed
place_in (a ∷ r ∷ []) = if bytes_eq r (codes "real") then real_of (digits_of a) else None
place_in (a ∷ b ∷ s ∷ []) = placed_of (digits_of a) (digits_of b) (digits_of s)
place_in _ = None

abbrev pub frame_in : List (List ℕ) → Option (Option Frame)
frame_in (r ∷ []) = if bytes_eq r (codes "real") then Some None else None
frame_in (b ∷ s ∷ []) = option_map Some (frame_of (digits_of b) (digits_of s))
frame_in _ = None

-- A segment's line may say `address shared`, and a group's `shared`.
abbrev pub is_shared : List ℕ → Bool
is_shared w = bytes_eq w (codes "shared")

abbrev pub shared_place : List (List ℕ) → Option Told
shared_place (a ∷ w ∷ []) = if is_shared w then option_map SharedPlace (hexadecimal 8 (digits_of a)) else None
shared_place _ = None

abbrev pub shared_word : List (List ℕ) → Option Told
shared_word (w ∷ []) = if is_shared w then Some SharedFrame else None
shared_word _ = None

-- What the words of an `S` and of a `G` line say.
abbrev pub own_or : Option Target → Option Told → Option Told
own_or (Some t) o = Some (Own t)
own_or None o = o

abbrev pub run_place : List (List ℕ) → Option Told
run_place ws = own_or (option_map SegmentPlace (place_in ws)) (shared_place ws)

-- A segment may be stored elsewhere than it runs: `address base selector at stored`, `address real at stored` or `address shared at stored`.
abbrev pub is_at : List ℕ → Bool
is_at w = bytes_eq w (codes "at")

abbrev pub stored_at : Option Told → Option ℕ → Option Told
stored_at (Some (Own (SegmentPlace p))) (Some s) = Some (Own (StoredPlace p s))
stored_at (Some (SharedPlace a)) (Some s) = Some (SharedStored a s)
stored_at _ _ = None

abbrev pub stored_word : List ℕ → List ℕ → Option ℕ
stored_word w s = if is_at w then hexadecimal 8 (digits_of s) else None

abbrev pub stored_place : List (List ℕ) → Option Told
stored_place (a ∷ b ∷ w ∷ s ∷ []) = stored_at (run_place (a ∷ b ∷ [])) (stored_word w s)
stored_place (a ∷ b ∷ c ∷ w ∷ s ∷ []) = stored_at (run_place (a ∷ b ∷ c ∷ [])) (stored_word w s)
stored_place _ = None

abbrev pub told_or : Option Told → Option Told → Option Told
told_or (Some t) o = Some t
told_or None o = o

abbrev pub segment_in : List (List ℕ) → Option Told
segment_in ws = told_or (run_place ws) (stored_place ws)

abbrev pub group_in : List (List ℕ) → Option Told
group_in ws = own_or (option_map GroupFrame (frame_in ws)) (shared_word ws)

-- Segments are laid from an address on, or `after` others.
abbrev pub where_in : List ℕ → Option Where
where_in w = if bytes_eq w (codes "after") then Some After else option_map From (hexadecimal 8 (digits_of w))

-- They may be stored elsewhere than they run: `at` and an address, or `at after`.
abbrev pub store_in : List (List ℕ) → Option (Option Where)
store_in [] = Some None
store_in (w ∷ s ∷ []) = if is_at w then option_map Some (where_in s) else None
store_in _ = None

-- Where they are: `where base selector` or `where real`, without or with that.
abbrev pub span_of : List ℕ → Option Frame → List (List ℕ) → Option Span
span_of a f ws = option_and_then (λ start. option_map (λ stored. record { start = start; frame = f; stored = stored }) (store_in ws)) (where_in a)

abbrev pub framed_span : List ℕ → List ℕ → List (List ℕ) → Option Span
framed_span a b (s ∷ ws) = option_and_then (λ f. span_of a (Some f) ws) (frame_of (digits_of b) (digits_of s))
framed_span a b [] = None

abbrev pub span_in : List (List ℕ) → Option Span
span_in (a ∷ r ∷ ws) = if bytes_eq r (codes "real") then span_of a None ws else framed_span a r ws
span_in _ = None

-- A `C` line has a class; a `P` line a name, or a name and a class; an `F` line a name, and a frame.
abbrev pub class_parts : Key → Option Parts
class_parts (Named c) = Some (ClassParts c)
class_parts k = None

abbrev pub name_parts : Key → Option Parts
name_parts (Named n) = Some (NameParts n)
name_parts (OfClass n c) = Some (NamedParts n c)
name_parts k = None

abbrev pub lays : Option Parts → List (List ℕ) → Option LinkEntry
lays o ws = option_and_then (λ ps. option_map (Lays ps) (span_in ws)) o

abbrev pub frames_by : Key → Option (Option Frame) → Option LinkEntry
frames_by (Named n) (Some (Some f)) = Some (Frames n f)
frames_by k o = None

-- The words after a key; none after that of an `M`.
abbrev pub words_in : List ℕ → List (List ℕ)
words_in text = if length text == 0 then [] else words_of text

abbrev pub opens : Key → List (List ℕ) → Option LinkEntry
opens k [] = Some (Opens k)
opens k _ = None

-- The entry of a letter, a key and the words after it.
abbrev pub entry_of_all : List ℕ → Key → List (List ℕ) → Option LinkEntry
entry_of_all letter k ws =
    if bytes_eq letter (codes "C") then lays (class_parts k) ws
    else if bytes_eq letter (codes "P") then lays (name_parts k) ws
    else if bytes_eq letter (codes "F") then frames_by k (frame_in ws)
    else None

abbrev pub entry_by : List ℕ → Key → List (List ℕ) → Option LinkEntry
entry_by letter k ws =
    if bytes_eq letter (codes "M") then opens k ws
    else if bytes_eq letter (codes "S") then option_map (λ t. Gives k t) (segment_in ws)
    else if bytes_eq letter (codes "G") then option_map (λ t. Gives k t) (group_in ws)
    else if bytes_eq letter (codes "X") then option_map (λ p. Gives k (Own (ExternalPlace p))) (place_in ws)
    else entry_of_all letter k ws

-- A number: `#` and 1 to 10 decimal digits. It is below 2^32.
abbrev pub if_short : ℕ → Option ℕ
if_short n = if nat_lt n (2 ^ 32) then Some n else None

abbrev pub decimal_of : List ℕ → Option ℕ
decimal_of cs = if nat_lt 0 (length cs) && (nat_le (length cs) 10 && list_all (λ c. is_digit c 10) cs) then if_short (digits_value 10 cs) else None

abbrev pub number_of : List ℕ → Option ℕ
number_of [] = None
number_of (c ∷ cs) = if c == 35 then decimal_of cs else None

-- A line without a name: blank, or a letter, a number and words.
abbrev pub numbered_entry : List (List ℕ) → Option LinkEntry
numbered_entry (letter ∷ number ∷ ws) = option_and_then (λ n. entry_by letter (Numbered n) ws) (number_of number)
numbered_entry _ = None

abbrev pub unnamed_entry : List ℕ → Option LinkEntry
unnamed_entry [] = Some Blank
unnamed_entry (c ∷ cs) = numbered_entry (words_of (c ∷ cs))

-- The bytes of a name are 20H to 7EH, except the quote.
abbrev pub is_printed : ℕ → Bool
is_printed c = nat_le 0x20 c && nat_le c 0x7E

abbrev pub name_entry : List ℕ → Key → List ℕ → List ℕ → Option LinkEntry
name_entry letter k name rest = if list_all is_printed name then entry_by letter k (words_in (said rest)) else None

-- The parts of a line between its quotes are by turns outside and inside of a name. From a `;` outside on it is a comment.
abbrev pub has_comment : List ℕ → Bool
has_comment text = list_any (λ c. c == 59) text

abbrev pub classed_entry : List ℕ → List ℕ → List (List ℕ) → Option LinkEntry
classed_entry letter name (class ∷ rest ∷ []) = if list_all is_printed name then name_entry letter (OfClass name class) class rest else None
classed_entry letter name (class ∷ rest ∷ more) = if has_comment rest && list_all is_printed name then name_entry letter (OfClass name class) class rest else None
classed_entry letter name _ = None

abbrev pub class_after : List ℕ → List ℕ → List ℕ → List (List ℕ) → Option LinkEntry
class_after letter name [] parts = classed_entry letter name parts
class_after letter name (c ∷ cs) parts = None

abbrev pub named_entry : List ℕ → List (List ℕ) → Option LinkEntry
named_entry letter (name ∷ rest ∷ []) = name_entry letter (Named name) name rest
named_entry letter (name ∷ rest ∷ more) = if has_comment rest then name_entry letter (Named name) name rest else class_after letter name (said rest) more
named_entry letter _ = None

abbrev pub entry_of_parts : List (List ℕ) → Option LinkEntry
entry_of_parts [] = None
entry_of_parts (front ∷ []) = unnamed_entry (said front)
entry_of_parts (front ∷ parts) = if has_comment front then unnamed_entry (said front) else named_entry (said front) parts

abbrev pub link_entry_on : List ℕ → Option LinkEntry
link_entry_on line = entry_of_parts (slice_split (λ c. c == 34) line)

-- The lines of a text, each with its number from 1 and its entry, if it has one; the numbers of those that have none.
abbrev pub Line : Type 0
Line = ℕ × Option LinkEntry

abbrev pub link_lines : List ℕ → List Line
link_lines text = map (λ l. (l.0, link_entry_on l.1)) (numbered_lines text)

abbrev pub bad_line : Line → Option ℕ
bad_line (n, None) = Some n
bad_line (n, Some e) = None
