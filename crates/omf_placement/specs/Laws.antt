-- Laws of placement texts and of the frames of groups, each the contract of a function of the same name.
use Rattle.std.specs.Prelude.{◌≡◌, ◌↔◌, ℕ, ◌<◌, ◌≤◌, List, Some, ◌∷◌, ◌++◌, map, All}
use Rattle.omf_records.specs.Values.{GroupItem, Rec}
use Rattle.omf_check.specs.Tables.{groups, entry}
use Rattle.omf_placement.specs.declared.frame.Frame.{Frame}
use Rattle.omf_placement.specs.Entries.{Entry, IsHexadecimal, Spells}
-- computed: entries_are_read, places_are_read and numbers_are_read of omf_placement.
use Rattle.omf_placement.specs.Inner.EntryReading.{hexadecimal, placed_of, entry_said}
use Rattle.omf_placement.specs.Placement.{Placed, real_group}

-- The entry computed for the text of a line is the entry that it spells.
abbrev pub EntriesAreRead : Type 0
EntriesAreRead = (text : List ℕ) (e : Entry) → (entry_said text ≡ Some e) ↔ Spells text e

-- Digits are parsed as a number exactly if they spell it.
abbrev pub NumbersAreRead : Type 0
NumbersAreRead = (most : ℕ) (cs : List ℕ) (n : ℕ) → (hexadecimal most cs ≡ Some n) ↔ IsHexadecimal most cs n

-- Three words are parsed as a place exactly if they spell its address, and the base and the selector of its frame.
abbrev pub PlacesAreRead : Type 0
PlacesAreRead = (a b s : List ℕ) (p : Placed) → (placed_of a b s ≡ Some p) ↔ (IsHexadecimal 8 a p.address × (IsHexadecimal 8 b p.frame.base × IsHexadecimal 4 s p.frame.selector))

-- A place has the lowest address of a list, and is the first that has.
pub record IsLowest (ps : List Placed) (p : Placed) : Type 0 where
  pub before : List Placed
  pub after : List Placed
  pub all : ps ≡ before ++ p ∷ after
  pub higher : All (λ q. p.address < q.address) before
  pub not_lower : All (λ q. p.address ≤ q.address) after

-- The frame of a group by its members: the group exists, each of its members has a place, and this is the frame of the lowest place.
pub record TakesFrame (m : List Rec) (xs : List Placed) (i : ℕ) (f : Frame) : Type 0 where
  pub group : GroupItem
  pub defined : entry (groups m) i ≡ Some group
  pub members : List Placed
  pub each_placed : map (λ x. entry xs x.item.item) group.members ≡ map Some members
  pub member : Placed
  pub is_lowest : IsLowest members member
  pub frame : member.frame ≡ f

abbrev pub GroupsTakeTheLowest : Type 0
GroupsTakeTheLowest = (m : List Rec) (xs : List Placed) (i : ℕ) (f : Frame) → (real_group m xs i ≡ Some f) ↔ TakesFrame m xs i f
