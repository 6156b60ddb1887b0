-- The offsets of names and groups in a module.
use Rattle.std.specs.Prelude.{◌≡◌, ◌<◌, ℕ, List, [], ◌∷◌, ◌++◌, length, Option, Some, None, true, ⊤}
use Rattle.omf_frame.specs.Bytes.{last}
use Rattle.omf_frame.specs.Framing.{Raw, raw_bytes}
use Rattle.omf_records.specs.Inner.Reading.{typed}
use Rattle.omf_records.specs.Values.{Rec, Group, GroupItem}
use Rattle.omf_check.specs.Listed.{IsReadable}
use Rattle.omf_check.specs.Inner.Kept.{Kept}
use Rattle.omf_check.specs.Sound.{is_module_end}
use Rattle.omf_check.specs.Tables.{names, groups, externals}

-- A name at an offset: its length byte, and then its bytes.
pub record NameAt (bytes : List ℕ) (at : ℕ) (name : List ℕ) : Type 0 where
  pub front : List ℕ
  pub rest : List ℕ
  pub spelled : bytes ≡ front ++ ((length name ∷ name) ++ rest)
  pub place : at ≡ length front
  pub short : length name < 256

-- There is a name at the offset.
abbrev pub HasName : List ℕ → ℕ → Type 0
HasName bytes at = (name : List ℕ) × NameAt bytes at name

-- The record of a group at an offset.
pub record GroupAt (bytes : List ℕ) (at : ℕ) (g : GroupItem) : Type 0 where
  pub front : List ℕ
  pub rest : List ℕ
  pub one : Raw
  pub spelled : bytes ≡ front ++ (raw_bytes one ++ rest)
  pub place : at ≡ length front
  pub readable : IsReadable one
  pub is : (typed one).contents ≡ Group g

-- The record at an offset.
pub record RecordAt (bytes : List ℕ) (at : ℕ) (r : Rec) : Type 0 where
  pub front : List ℕ
  pub rest : List ℕ
  pub one : Raw
  pub spelled : bytes ≡ front ++ (raw_bytes one ++ rest)
  pub place : at ≡ length front
  pub readable : IsReadable one
  pub is : typed one ≡ r

-- There is a record at the offset.
abbrev pub HasRecord : List ℕ → ℕ → Type 0
HasRecord bytes at = (r : Rec) × RecordAt bytes at r

-- Each item is at its place, and there are as many places as items.
abbrev pub AllAt : {A : Type 0} → (ℕ → A → Type 0) → List ℕ → List A → Type 0
AllAt Stands [] [] = ⊤
AllAt Stands (p ∷ ps) (x ∷ xs) = Stands p x × AllAt Stands ps xs
AllAt Stands [] (x ∷ xs) = ⊥
AllAt Stands (p ∷ ps) [] = ⊥

-- The item is at the place, if there is one.
abbrev pub IsItemAt : {A : Type 0} → (ℕ → A → Type 0) → Option ℕ → Option A → Type 0
IsItemAt Stands (Some p) (Some x) = Stands p x
IsItemAt Stands None None = ⊤
IsItemAt Stands (Some p) None = ⊥
IsItemAt Stands None (Some x) = ⊥

-- The offsets kept of names, groups and external names are right; so is that of the MODEND, if it is the last record.
pub record PointsTo (bytes : List ℕ) (kept : Kept) (before : List Rec) : Type 0 where
  pub names : AllAt (NameAt bytes) kept.names (names before)
  pub groups : AllAt (GroupAt bytes) kept.groups (groups before)
  pub externals : AllAt (NameAt bytes) kept.externals (externals before)
  pub end : (r : Rec) → last before ≡ Some r → is_module_end r.contents ≡ true → RecordAt bytes kept.end r
