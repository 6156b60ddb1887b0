-- What the code keeps of the keys of a module's entries: which have a name of their own, and which a name and class of their own.
use Rattle.std.specs.Prelude.{◌≡◌, ◌≤◌, ℕ, List, Bool, false, unwrap_or}
use Rattle.omf_records.specs.Values.{Rec}
use Rattle.omf_check.specs.Tables.{entry}
use Rattle.omf_reloc.specs.declared.fault.Kind.{Kind}
use Rattle.omf_linking.specs.Locator.KeyForms.{owns}
use Rattle.omf_reloc.specs.Reach.{entries}
use Rattle.omf_linking.specs.declared.locator.forms.KeyForm.{KeyForm}
use Rattle.omf_linking.specs.declared.locator.forms.KeyForm.TheVariants as form

abbrev pub AreOwned : List Rec → Kind → KeyForm → List Bool → Type 0
AreOwned m kind k owned = (i : ℕ) → 1 ≤ i → i ≤ entries m kind → unwrap_or (entry owned i) false ≡ owns m kind k i

pub record AreKeys (m : List Rec) (kind : Kind) (by_name by_class : List Bool) : Type 0 where
  pub names : AreOwned m kind form.Name by_name
  pub classes : AreOwned m kind form.OfClass by_class
