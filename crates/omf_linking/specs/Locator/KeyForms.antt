-- How a draft names modules, segments, groups and externals (this profile's rule): by a name that no other has, a segment also by its name and class; else by
-- number.
use Rattle.std.specs.Prelude.{◌≡◌, ℕ, ◌+◌, List, [], ◌∷◌, ◌++◌, flat_map, map, Bool, true, false, ◌&&◌, ◌||◌, not, Option, Some, None, option_map, unwrap_or, is_some, bytes_eq, codes, decimal, if◌then◌else◌}
use Rattle.std.specs.BTreeMap.{BTreeMap, get_by}
use Rattle.std.specs.List.{range_with_len}
use denote.Ref.{Bor}
use Rattle.omf_names.specs.Names.{name_cmp}
use Rattle.omf_records.specs.Values.{Rec}
use Rattle.omf_placement.specs.Quoted.{escaped, quoted}
use Rattle.omf_reloc.specs.declared.fault.Kind.{Kind}
use Rattle.omf_reloc.specs.declared.fault.Kind.TheVariants as kinds
use Rattle.omf_reloc.specs.Reach.{entries}
use Rattle.omf_linking.specs.Locator.LinkEntries.{Key, Named, OfClass, Numbered}
use Rattle.omf_linking.specs.Locator.Keys.{class_name, entry_name, module_name}
use Rattle.omf_linking.specs.declared.locator.forms.KeyForm.{KeyForm}
use Rattle.omf_linking.specs.declared.locator.forms.KeyForm.TheVariants as form

-- The class of a segment; groups and externals have none.
abbrev pub class_of : List Rec → Kind → ℕ → Option (List ℕ)
class_of m kinds.Segment i = class_name m i
class_of m kinds.Group i = None
class_of m kinds.External i = None

-- A name as it is printed; a dash for none.
abbrev pub shown : Option (List ℕ) → List ℕ
shown name = unwrap_or (option_map quoted name) (codes "-")

-- The key of the entry with index i: "NAME", "NAME" "CLASS" or #i.
abbrev pub key_text : List Rec → Kind → KeyForm → ℕ → List ℕ
key_text m kind form.Name i = shown (entry_name m kind i)
key_text m kind form.OfClass i = shown (entry_name m kind i) ++ 32 ∷ shown (class_of m kind i)
key_text m kind form.Number i = 35 ∷ decimal i

-- It has a key of this form.
abbrev pub has_key : List Rec → Kind → KeyForm → ℕ → Bool
has_key m kind form.Name i = is_some (entry_name m kind i)
has_key m kind form.OfClass i = is_some (entry_name m kind i) && is_some (class_of m kind i)
has_key m kind form.Number i = true

-- A text is in a list.
abbrev pub has_text : List (List ℕ) → List ℕ → Bool
has_text [] text = false
has_text (x ∷ xs) text = bytes_eq x text || has_text xs text

-- A text is in a list twice or more.
abbrev pub is_repeated : List (List ℕ) → List ℕ → Bool
is_repeated [] text = false
is_repeated (x ∷ xs) text = if bytes_eq x text then has_text xs text else is_repeated xs text

-- The keys of this form of all entries of a kind. The entry has one that no other has.
abbrev pub key_texts : List Rec → Kind → KeyForm → List (List ℕ)
key_texts m kind k = map (key_text m kind k) (range_with_len 1 (entries m kind))

-- The classes of all segments, each as it is printed.
abbrev pub class_texts : List Rec → List (List ℕ)
class_texts m = map (λ i. shown (class_name m i)) (range_with_len 1 (entries m kinds.Segment))

abbrev pub owns : List Rec → Kind → KeyForm → ℕ → Bool
owns m kind k i = has_key m kind k i && not (is_repeated (key_texts m kind k) (key_text m kind k i))

-- The form of the key in a draft: the first of these three that is the entry's own.
abbrev pub form_by : Bool → Bool → KeyForm
form_by by_name by_class = if by_name then form.Name else if by_class then form.OfClass else form.Number

abbrev pub key_form : List Rec → Kind → ℕ → KeyForm
key_form m kind i = form_by (owns m kind form.Name i) (owns m kind form.OfClass i)

-- The names of modules as they are printed. A module is named by number if another has its name.
abbrev pub module_texts : List (List Rec) → List (List ℕ)
module_texts ms = map (λ m. quoted (module_name m)) ms

-- A table of texts: each once, with whether it is repeated.
abbrev pub IsTextTable : BTreeMap (Bor (List ℕ)) Bool → List (List ℕ) → Type 0
IsTextTable m texts = (text : List ℕ) → get_by (λ k. name_cmp text k.now) m ≡ (if has_text texts text then Some (is_repeated texts text) else None)

-- The key of that form: the names as they are between quotes.
abbrev pub spelled : Option (List ℕ) → List ℕ
spelled None = []
spelled (Some name) = flat_map escaped name

abbrev pub key_of : List Rec → Kind → KeyForm → ℕ → Key
key_of m kind form.Name i = Named (spelled (entry_name m kind i))
key_of m kind form.OfClass i = OfClass (spelled (entry_name m kind i)) (spelled (class_of m kind i))
key_of m kind form.Number i = Numbered i

-- A key as it is written in a line.
abbrev pub key_words : Key → List ℕ
key_words (Named n) = 34 ∷ n ++ 34 ∷ []
key_words (OfClass n c) = (34 ∷ n ++ 34 ∷ []) ++ (32 ∷ (34 ∷ c ++ 34 ∷ []))
key_words (Numbered k) = 35 ∷ decimal k

-- The key of module j: its name, or its number from 1 if another module has the name.
abbrev pub module_key_by : Bool → ℕ → List Rec → Key
module_key_by repeated j m = if repeated then Numbered (j + 1) else Named (flat_map escaped (module_name m))

abbrev pub module_key : List (List Rec) → ℕ → List Rec → Key
module_key ms j m = module_key_by (is_repeated (module_texts ms) (quoted (module_name m))) j m
