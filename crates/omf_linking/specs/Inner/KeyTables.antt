-- What the code keeps of the names of modules and of entries, to look up keys.
use Rattle.std.specs.Prelude.{◌≡◌, ℕ, List, [], ◌∷◌, ◌++◌, length, filter, flat_map, Bool, false, Option, Some, None, option_map, slice_get, bytes_eq}
use Rattle.std.specs.BTreeMap.{BTreeMap, get_by}
use Rattle.std.specs.Cmp.Lexicographic.{slice_cmp}
use Rattle.std.specs.Global.{Vec}
use Rattle.std.specs.Ordering.{nat_cmp}
use Rattle.omf_records.specs.Values.{Rec}
use Rattle.omf_placement.specs.Quoted.{escaped}
use Rattle.omf_reloc.specs.Reach.{entries}
use Rattle.omf_reloc.specs.declared.fault.Kind.{Kind}
use Rattle.omf_reloc.specs.declared.fault.Kind.TheVariants as kinds
use Rattle.omf_linking.specs.Locator.Keys.{class_name, count_from, entry_name, module_name}
use Rattle.omf_linking.specs.declared.locator.tables.EntryKeys.{EntryKeys}
use Rattle.omf_linking.specs.declared.locator.tables.Holder.{Holder}
use Rattle.omf_linking.specs.declared.locator.tables.Holder.TheVariants.{One, Several}
use Rattle.omf_linking.specs.declared.locator.tables.KeyTable.{KeyTable}
use Rattle.omf_linking.specs.declared.locator.tables.ModuleKeys.{ModuleKeys}

-- What has a text, when one more has it; and when these have it.
abbrev pub holder_after : ℕ → Option Holder → Holder
holder_after n None = One n
holder_after n (Some h) = Several

abbrev pub holder_of : List ℕ → Option Holder
holder_of [] = None
holder_of (n ∷ []) = Some (One n)
holder_of (n ∷ o ∷ ns) = Some Several

-- A text is that of one that may have none.
abbrev pub is_text : List ℕ → Option (List ℕ) → Bool
is_text text None = false
is_text text (Some t) = bytes_eq text t

-- A table has for each text those of these numbers that have it.
abbrev pub kept : BTreeMap (Vec ℕ) Holder → List ℕ → Option Holder
kept m text = get_by (λ k. slice_cmp nat_cmp text k.items) m

abbrev pub IsKeyTable : (ℕ → Option (List ℕ)) → List ℕ → BTreeMap (Vec ℕ) Holder → Type 0
IsKeyTable texts numbers m = (text : List ℕ) → kept m text ≡ holder_of (filter (λ i. is_text text (texts i)) numbers)

-- A name as it is written in quotes, if there is one.
abbrev pub written : Option (List ℕ) → Option (List ℕ)
written name = option_map (flat_map escaped) name

-- The texts of entries and of modules: their names. That of a segment with a class: both, with a line feed between them.
abbrev pub name_text : List Rec → Kind → ℕ → Option (List ℕ)
name_text m kind i = written (entry_name m kind i)

abbrev pub both_texts : Option (List ℕ) → Option (List ℕ) → Option (List ℕ)
both_texts None class = None
both_texts (Some n) None = None
both_texts (Some n) (Some c) = Some (n ++ 10 ∷ c)

abbrev pub class_text : List Rec → ℕ → Option (List ℕ)
class_text m i = both_texts (written (entry_name m kinds.Segment i)) (written (class_name m i))

abbrev pub module_text : List (List Rec) → ℕ → Option (List ℕ)
module_text ms j = option_map (λ m. flat_map escaped (module_name m)) (slice_get ms j)

-- The tables of a module's entries, and that of modules.
abbrev pub AreNames : List Rec → Kind → KeyTable → Type 0
AreNames m kind t = IsKeyTable (name_text m kind) (count_from 1 (entries m kind)) t.by_text

pub record AreEntryKeys (m : List Rec) (k : EntryKeys) : Type 0 where
  pub segments_are : AreNames m kinds.Segment k.segments
  pub classes_are : IsKeyTable (class_text m) (count_from 1 (entries m kinds.Segment)) k.classes.by_text
  pub groups_are : AreNames m kinds.Group k.groups
  pub externals_are : AreNames m kinds.External k.externals

pub record AreModuleKeys (ms : List (List Rec)) (k : ModuleKeys) : Type 0 where
  pub names_are : IsKeyTable (module_text ms) (count_from 0 (length ms)) k.by_name.by_text
  pub count_is : k.count ≡ length ms
