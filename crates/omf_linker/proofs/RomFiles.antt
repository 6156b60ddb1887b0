-- The file of modules, from its steps.
use Rattle.std.proofs.Common.{◌≡◌, ℕ, List, inl, inr, ap, sym, subst, ◌∙◌}
use Rattle.std.specs.Prelude.{Option, Result, Ok, Err}
use Rattle.omf_linking.specs.Together.{segments_of}
use Rattle.omf_placement.specs.Placement.{Places}
use Rattle.omf_records.specs.Values.{Rec}
use Rattle.omf_linking.specs.declared.fault.LinkFault.{LinkFault}
use Rattle.omf_linking.specs.declared.space.stretch.Owner.{Owner}
use Rattle.omf_output.specs.declared.rom.form.Form.{Form}
use Rattle.omf_lines.specs.Faults.{IsNamed, is_of_modules}
use Rattle.omf_lines.specs.Named.{HasLines, outside_line}
use Rattle.omf_linker.specs.Link.Linked.{AreLinkedUp, IsFirstFault}
use Rattle.omf_linker.proofs.LinkedModules.{together}
use Rattle.omf_linker.specs.Link.Rom.{IsLinkedFile, IsOwned, IsRom, first_owner, linked_owner}
use Rattle.omf_output.specs.Rom.Memory.{IsFirstOutside}
use Rattle.omf_image.specs.Overlay.{byte_at}
use Rattle.omf_lines.specs.declared.fault.ImageFault.{ImageFault}
use Rattle.omf_lines.specs.declared.fault.ImageFault.TheVariants as fault
use Rattle.omf_linker.specs.declared.link.linking.LinkedModules.{LinkedModules}

-- linked modules
pub rom_is : (f : Form) (labels : List (List ℕ)) (ms : List (List Rec)) (text : List ℕ) (l : LinkedModules) (r : Result (List ℕ) ImageFault) → AreLinkedUp ms text l → IsLinkedFile f labels ms l r → IsRom f labels ms text r
rom_is f labels ms text l (Ok file) h i = (together ms text l h, i)
rom_is f labels ms text l (Err (fault.Outside a o lines)) h i = (record { together = together ms text l h; first = i.0; owned = i.1 ∙ ap (λ (at : List Places). first_owner (segments_of ms l.placements.items at) a) h.stored }, i.2)
rom_is f labels ms text l (Err (fault.Link g)) h i = inr i
rom_is f labels ms text l (Err (fault.Lines g lines)) h i = absurd i
rom_is f labels ms text l (Err fault.NoRoom) h i = absurd i
rom_is f labels ms text l (Err fault.Write) h i = absurd i

-- modules that are not linked
pub not_linked : (f : Form) (labels : List (List ℕ)) (ms : List (List Rec)) (text : List ℕ) (g : LinkFault) (e : ImageFault) → IsFirstFault ms text g → IsNamed labels ms text g e → IsRom f labels ms text (Err e)
not_linked f labels ms text g (fault.Link k) h (inl same) = inl (subst (IsFirstFault ms text) (sym same.0) h, ap is_of_modules same.0 ∙ same.1)
not_linked f labels ms text g (fault.Link k) h (inr memory) = inr memory
not_linked f labels ms text g (fault.Lines k lines) h n =
    (subst (IsFirstFault ms text) (sym n.0) h, ap is_of_modules n.0 ∙ n.1, subst (λ (x : LinkFault). HasLines labels ms text x lines.items) (sym n.0) n.2)
not_linked f labels ms text g (fault.Outside a o lines) h n = absurd n
not_linked f labels ms text g fault.NoRoom h n = absurd n
not_linked f labels ms text g fault.Write h n = absurd n

-- an address that the form does not have
pub owned_file : (f : Form) (labels : List (List ℕ)) (ms : List (List Rec)) (l : LinkedModules) (a : ℕ) (e : ImageFault) → IsFirstOutside f (byte_at l.together.memory 0) a → IsOwned labels ms l a e → IsLinkedFile f labels ms l (Err e)
owned_file f labels ms l a (fault.Link g) h i = i
owned_file f labels ms l a (fault.Outside b o lines) h i = (
  subst (IsFirstOutside f (byte_at l.together.memory 0)) (sym i.0) h,
  subst (λ (x : ℕ). o ≡ linked_owner ms l x) (sym i.0) i.1,
  i.2 ∙ ap (λ (p : Option Owner). outside_line labels ms a p) (sym i.1) ∙ ap (λ (x : ℕ). outside_line labels ms x o) (sym i.0),
)
owned_file f labels ms l a (fault.Lines g lines) h i = absurd i
owned_file f labels ms l a fault.NoRoom h i = absurd i
owned_file f labels ms l a fault.Write h i = absurd i
