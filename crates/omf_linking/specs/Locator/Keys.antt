-- Which module, and which entry of a module's table, a key names (this profile's rule).
use Rattle.std.specs.Prelude.{ℕ, zero, suc, ◌+◌, List, [], ◌∷◌, length, flat_map, filter, Bool, false, ◌==◌, ◌&&◌, Option, Some, None, option_map, option_and_then, Result, Ok, Err, slice_get, bytes_eq}
use Rattle.omf_records.specs.Values.{Rec, Contents, Header}
use Rattle.omf_check.specs.Tables.{names, segments, groups, externals, entry}
use Rattle.omf_placement.specs.Quoted.{escaped}
use Rattle.omf_reloc.specs.Reach.{entries}
use Rattle.omf_reloc.specs.declared.fault.Kind.{Kind}
use Rattle.omf_reloc.specs.declared.fault.Kind.TheVariants as kinds
use Rattle.omf_linking.specs.Locator.LinkEntries.{Key, Named, OfClass, Numbered}
use Rattle.omf_linking.specs.declared.locator.fault.LineFault.{LineFault}
use Rattle.omf_linking.specs.declared.locator.fault.LineFault.TheVariants as why

-- The name of a module is that of its first record, a THEADR or an LHEADR (TIS OMF 1.1, "THEADR", "LHEADR").
abbrev pub header_name : Contents → List ℕ
header_name (Header name) = name
header_name _ = []

abbrev pub module_name : List Rec → List ℕ
module_name [] = []
module_name (r ∷ rs) = header_name r.contents

-- The name of an entry of a module's table; none if its name index is 0. The name of a segment's class.
abbrev pub entry_name : List Rec → Kind → ℕ → Option (List ℕ)
entry_name m kinds.Segment i = option_and_then (λ s. entry (names m) s.name) (entry (segments m) i)
entry_name m kinds.Group i = option_and_then (λ g. entry (names m) g.name.item) (entry (groups m) i)
entry_name m kinds.External i = entry (externals m) i

abbrev pub class_name : List Rec → ℕ → Option (List ℕ)
class_name m i = option_and_then (λ s. entry (names m) s.class) (entry (segments m) i)

-- A name is written as the programs print it in quotes.
abbrev pub is_written : List ℕ → Option (List ℕ) → Bool
is_written text None = false
is_written text (Some name) = bytes_eq text (flat_map escaped name)

-- A key names an entry, by its kind and its index from 1. Only segments have classes.
abbrev pub names_entry : List Rec → Key → Kind → ℕ → Bool
names_entry m (Named n) kind i = is_written n (entry_name m kind i)
names_entry m (OfClass n c) kinds.Segment i = is_written n (entry_name m kinds.Segment i) && is_written c (class_name m i)
names_entry m (OfClass n c) kind i = false
names_entry m (Numbered k) kind i = k == i

-- A key names a module of an input, by its number from 0. In a text modules are counted from 1.
abbrev pub names_module : List (List Rec) → Key → ℕ → Bool
names_module ms (Named n) j = is_written n (option_map module_name (slice_get ms j))
names_module ms (OfClass n c) j = false
names_module ms (Numbered k) j = k == j + 1

-- Numbers from a first one on.
abbrev pub count_from : ℕ → ℕ → List ℕ
count_from first zero = []
count_from first (suc n) = first ∷ count_from (first + 1) n

-- The one of several that is named.
abbrev pub the_one : List ℕ → Result ℕ LineFault
the_one [] = Err why.Unknown
the_one (i ∷ []) = Ok i
the_one (i ∷ j ∷ is) = Err why.Several

abbrev pub entry_named : List Rec → Kind → Key → Result ℕ LineFault
entry_named m kind k = the_one (filter (names_entry m k kind) (count_from 1 (entries m kind)))

abbrev pub module_named : List (List Rec) → Key → Result ℕ LineFault
module_named ms k = the_one (filter (names_module ms k) (count_from 0 (length ms)))
