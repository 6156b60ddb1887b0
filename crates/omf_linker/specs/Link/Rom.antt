-- The memory of several modules as a file for a chip, or why there is none (a rule of this profile).
use Rattle.std.specs.Prelude.{◌≡◌, ◌⊎◌, ℕ, List, true, false, Option, option_map, slice_get, Result, Ok, Err}
use Rattle.omf_image.specs.Overlay.{byte_at}
use Rattle.omf_records.specs.Values.{Rec}
use Rattle.omf_linking.specs.Placing.{stored_by}
use Rattle.omf_linking.specs.Space.Segments.{SegmentAt, segment_shares}
use Rattle.omf_linking.specs.Together.{segments_of}
use Rattle.omf_linking.specs.declared.fault.LinkFault.TheVariants as link
use Rattle.omf_linking.specs.declared.space.stretch.Owner.{Owner}
use Rattle.omf_output.specs.Rom.Memory.{IsFileOr, IsFirstOutside}
use Rattle.omf_output.specs.declared.rom.form.Form.{Form}
use Rattle.omf_lines.specs.Faults.{is_of_modules}
use Rattle.omf_linker.specs.Link.Linked.{AreTogether, IsFirstFault}
use Rattle.omf_lines.specs.Named.{HasLines, outside_line}
use Rattle.omf_lines.specs.declared.fault.ImageFault.{ImageFault}
use Rattle.omf_linker.specs.declared.link.linking.LinkedModules.{LinkedModules}
use Rattle.omf_lines.specs.declared.fault.ImageFault.TheVariants as fault

-- The first segment with a byte at an address.
abbrev pub first_owner : List SegmentAt → ℕ → Option Owner
first_owner ss a = option_map (λ s. s.owner) (slice_get (segment_shares ss a) 0)

-- That of modules at the placements of a link text.
abbrev pub owner_at : (ms : List (List Rec)) (text : List ℕ) → AreTogether ms text → ℕ → Option Owner
owner_at ms text t a = first_owner (segments_of ms t.placements (stored_by ms text t.placements)) a

-- The same of modules that are linked.
abbrev pub linked_owner : List (List Rec) → LinkedModules → ℕ → Option Owner
linked_owner ms l a = first_owner (segments_of ms l.placements.items l.stored.items) a

-- A byte of their memory is at an address that the form does not have. This is the lowest, and the first segment with a byte there.
pub record IsOutsideOf (f : Form) (ms : List (List Rec)) (text : List ℕ) (address : ℕ) (owner : Option Owner) : Type 0 where
  pub together : AreTogether ms text
  pub first : IsFirstOutside f (byte_at together.together.memory 0) address
  pub owned : owner ≡ owner_at ms text together address

-- The result for modules with these labels and a link text: the file of their memory; or the first fault of the image, with its lines if it is about a module and its
-- parts; or a byte that the form does not have, with its line. Out of memory is possible at any time.
abbrev pub IsRom : Form → List (List ℕ) → List (List Rec) → List ℕ → Result (List ℕ) ImageFault → Type 0
IsRom f labels ms text (Ok file) = (t : AreTogether ms text) × IsFileOr f t.together.memory (Ok file)
IsRom f labels ms text (Err (fault.Outside a o lines)) = IsOutsideOf f ms text a o × (lines.items ≡ outside_line labels ms a o)
IsRom f labels ms text (Err (fault.Link g)) = (IsFirstFault ms text g × (is_of_modules g ≡ false)) ⊎ (g ≡ link.Memory)
IsRom f labels ms text (Err (fault.Lines g lines)) = IsFirstFault ms text g × (is_of_modules g ≡ true) × HasLines labels ms text g lines.items
IsRom f labels ms text (Err _) = ⊥

-- The fault for an address that the form does not have. Out of memory is possible.
abbrev pub IsOutside : List (List ℕ) → List (List Rec) → ℕ → Option Owner → ImageFault → Type 0
IsOutside labels ms a o (fault.Outside b p lines) = (b ≡ a) × (p ≡ o) × (lines.items ≡ outside_line labels ms a o)
IsOutside labels ms a o (fault.Link g) = g ≡ link.Memory
IsOutside labels ms a o _ = ⊥

-- The same of modules that are linked, with the first segment that has a byte there.
abbrev pub IsOwned : List (List ℕ) → List (List Rec) → LinkedModules → ℕ → ImageFault → Type 0
IsOwned labels ms l a f = IsOutside labels ms a (linked_owner ms l a) f

-- The file of modules that are linked, or why there is none.
abbrev pub IsLinkedFile : Form → List (List ℕ) → List (List Rec) → LinkedModules → Result (List ℕ) ImageFault → Type 0
IsLinkedFile f labels ms l (Ok file) = IsFileOr f l.together.memory (Ok file)
IsLinkedFile f labels ms l (Err (fault.Outside a o lines)) = IsFirstOutside f (byte_at l.together.memory 0) a × (o ≡ linked_owner ms l a) × (lines.items ≡ outside_line labels ms a o)
IsLinkedFile f labels ms l (Err (fault.Link g)) = g ≡ link.Memory
IsLinkedFile f labels ms l (Err _) = ⊥
