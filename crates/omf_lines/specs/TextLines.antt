-- The lines of a fault in a link text (this profile's rule): the number of its line and what is wrong with it; and the line itself.
use Rattle.std.specs.Prelude.{ℕ, ◌-◌, ◌==◌, ◌+◌, List, [], ◌∷◌, ◌++◌, take, filter_map, find, flat_map, Bool, nat_le, Option, Some, None, option_map, option_and_then, unwrap_or, slice_get, bytes_eq, codes, decimal, if◌then◌else◌}
use Rattle.std.specs.List.{before_first, list_any, slice_split}
use Rattle.omf_frame.specs.Bytes.{last}
use Rattle.omf_records.specs.Values.{Rec}
use Rattle.omf_placement.specs.Entries.{said}
use Rattle.omf_placement.specs.Quoted.{hex, quoted}
use Rattle.omf_reloc.specs.declared.fault.Kind.{Kind}
use Rattle.omf_reloc.specs.declared.fault.Kind.TheVariants as kinds
use Rattle.omf_linking.specs.Locator.Items.{told_kind}
use Rattle.omf_linking.specs.Locator.KeyForms.{class_texts, key_texts, key_words, module_texts}
use Rattle.omf_linking.specs.Locator.Keys.{module_name}
use Rattle.omf_linking.specs.Locator.LinkEntries.{Key, Named, OfClass, Numbered, LinkEntry, Blank, Opens, Gives, Lays, Frames, Parts, ClassParts, NameParts, NamedParts, is_printed, link_entry_on}
use Rattle.omf_linking.specs.declared.locator.fault.LineFault.{LineFault}
use Rattle.omf_linking.specs.declared.locator.fault.LineFault.TheVariants as why
use Rattle.omf_linking.specs.declared.locator.forms.KeyForm.TheVariants as form
use Rattle.omf_lines.specs.Near.{near_name}

-- ---- the line, and the module that it is for

abbrev pub lines_of : List ℕ → List (List ℕ)
lines_of text = slice_split (λ c. c == 10) text

-- The line after this many others.
abbrev pub line_at : List ℕ → ℕ → Option (List ℕ)
line_at text before = slice_get (lines_of text) before

-- The key of the last `M` line among the first lines.
abbrev pub key_opened : Option LinkEntry → Option Key
key_opened (Some (Opens k)) = Some k
key_opened _ = None

abbrev pub opening_on : List ℕ → Option Key
opening_on line = key_opened (link_entry_on line)

abbrev pub opening_before : List ℕ → ℕ → Option Key
opening_before text before = last (filter_map opening_on (take before (lines_of text)))

-- ---- what the line is for

abbrev pub kind_words : Kind → List ℕ
kind_words kinds.Segment = codes "segment "
kind_words kinds.Group = codes "group "
kind_words kinds.External = codes "external "

abbrev pub in_module : Option Key → List ℕ
in_module None = []
in_module (Some k) = codes " in module " ++ key_words k

-- The segments of a class or a name, as the text has these.
abbrev pub parts_key : Parts → List ℕ
parts_key (ClassParts c) = key_words (Named c)
parts_key (NameParts n) = key_words (Named n)
parts_key (NamedParts n c) = key_words (OfClass n c)

abbrev pub parts_kind : Parts → List ℕ
parts_kind (ClassParts c) = codes "class "
parts_kind ps = codes "segment "

-- A module, or an entry of the module of the last `M` line; each by its key, as the text has it. Or segments or groups of all modules.
abbrev pub subject : Option Key → Option LinkEntry → List ℕ
subject at (Some (Opens k)) = codes "module " ++ key_words k
subject at (Some (Gives k t)) = kind_words (told_kind t) ++ key_words k ++ in_module at
subject at (Some (Lays ps s)) = parts_kind ps ++ parts_key ps
subject at (Some (Frames n f)) = codes "group " ++ key_words (Named n)
subject at _ = []

-- ---- the near name

-- The module that an `M` line names: the first of its name, or that of its number, from 1.
abbrev pub quoted_key : List ℕ → List ℕ
quoted_key name = 34 ∷ name ++ 34 ∷ []

abbrev pub opened_by_name : List (List Rec) → List ℕ → Option (List Rec)
opened_by_name ms key = find (λ m. bytes_eq (quoted (module_name m)) key) ms

abbrev pub opened : List (List Rec) → Option Key → Option (List Rec)
opened ms (Some (Named name)) = opened_by_name ms (quoted_key name)
opened ms (Some (Numbered n)) = slice_get ms (n - 1)
opened ms _ = None

-- The keys of its entries of a kind, in the form of this key.
abbrev pub entry_keys : Option (List Rec) → Kind → Key → List (List ℕ)
entry_keys None kind k = []
entry_keys (Some m) kind (Named n) = key_texts m kind form.Name
entry_keys (Some m) kind (OfClass n c) = key_texts m kind form.OfClass
entry_keys (Some m) kind (Numbered i) = []

-- The classes, names, or names and classes of a module's segments; those of the segments, and the names of the groups, of all modules.
abbrev pub parts_in : Parts → List Rec → List (List ℕ)
parts_in (ClassParts c) m = class_texts m
parts_in (NameParts n) m = key_texts m kinds.Segment form.Name
parts_in (NamedParts n c) m = key_texts m kinds.Segment form.OfClass

abbrev pub parts_like : Parts → List (List Rec) → List (List ℕ)
parts_like ps ms = flat_map (parts_in ps) ms

abbrev pub groups_in : List (List Rec) → List (List ℕ)
groups_in ms = flat_map (λ m. key_texts m kinds.Group form.Name) ms

-- What an entry of a line could name.
abbrev pub keys_like : List (List Rec) → Option Key → LinkEntry → List (List ℕ)
keys_like ms at (Opens (Named n)) = module_texts ms
keys_like ms at (Opens k) = []
keys_like ms at (Gives k t) = entry_keys (opened ms at) (told_kind t) k
keys_like ms at (Lays ps s) = parts_like ps ms
keys_like ms at (Frames n f) = groups_in ms
keys_like ms at Blank = []

abbrev pub key_of : LinkEntry → List ℕ
key_of (Opens k) = key_words k
key_of (Gives k t) = key_words k
key_of (Lays ps s) = parts_key ps
key_of (Frames n f) = key_words (Named n)
key_of Blank = []

abbrev pub there : Option (List ℕ) → List ℕ
there None = []
there (Some name) = codes "; there is " ++ name

-- The first of these that is near to the name of the line, if there is one.
abbrev pub near_words : List (List Rec) → Option Key → Option LinkEntry → List ℕ
near_words ms at None = []
near_words ms at (Some e) = there (near_name (key_of e) (keys_like ms at e))

-- ---- what is wrong

-- What a line could be, by its first letter: M (77), S (83), G (71), X (88), C (67), P (80) or F (70).
abbrev pub expected : List ℕ → List ℕ
expected [] = codes "M, S, G, X, C, P, F or ;"
expected (c ∷ cs) =
    if c == 77 then codes "M KEY"
    else if c == 83 then codes "S KEY ADDRESS (BASE SELECTOR|real|shared) [at STORED]"
    else if c == 71 then codes "G KEY (BASE SELECTOR|real|shared)"
    else if c == 88 then codes "X KEY ADDRESS (BASE SELECTOR|real)"
    else if c == 67 then codes "C \"CLASS\" (ADDRESS|after) (BASE SELECTOR|real) [at (STORED|after)]"
    else if c == 80 then codes "P \"NAME\" [\"CLASS\"] (ADDRESS|after) (BASE SELECTOR|real) [at (STORED|after)]"
    else if c == 70 then codes "F \"NAME\" BASE SELECTOR"
    else codes "M, S, G, X, C, P, F or ;"

-- A byte before the first semicolon (59) is above 7FH.
abbrev pub is_foreign : List ℕ → Bool
is_foreign line = list_any (λ c. nat_le 0x80 c) (before_first (λ c. c == 59) line)

abbrev pub misread : List ℕ → List ℕ
misread line = if is_foreign line then codes "a byte that is not ASCII" else codes "expected " ++ expected (said line)

-- What is wrong with a line, after an `M` line of this key.
abbrev pub why_words : LineFault → List ℕ
why_words why.NotUnderstood = []
why_words why.NoModule = codes "no M line before it for "
why_words why.Unknown = codes "no "
why_words why.Several = codes "more than one "
why_words why.Twice = codes "a second line for "
why_words why.Unshared = codes "no line before it gives the frame of "
why_words why.NothingBefore = codes "no C or P line before it for "
why_words why.NoRoom = codes "no room for "

abbrev pub what : List (List Rec) → Option Key → List ℕ → LineFault → List ℕ
what ms at line why.NotUnderstood = misread line
what ms at line why.Unknown = why_words why.Unknown ++ subject at (link_entry_on line) ++ near_words ms at (link_entry_on line)
what ms at line w = why_words w ++ subject at (link_entry_on line)

-- ---- the lines

-- A line as it is shown: its first 70 bytes before a carriage return (13); a byte outside 20H to 7EH as `\x` and two digits.
abbrev pub shown_byte : ℕ → List ℕ
shown_byte c = if is_printed c then c ∷ [] else codes "\\x" ++ hex 2 c

abbrev pub shown_line : List ℕ → List ℕ
shown_line line = flat_map shown_byte (take 70 (before_first (λ c. c == 13) line))

abbrev pub bad_line : List (List Rec) → Option Key → List ℕ → ℕ → LineFault → List ℕ
bad_line ms at line n w = codes "line " ++ decimal n ++ codes ": " ++ what ms at line w ++ 10 ∷ codes "  " ++ shown_line line ++ 10 ∷ []

-- The lines of a fault of line n of a text, from 1.
abbrev pub text_lines : List (List Rec) → List ℕ → ℕ → LineFault → List ℕ
text_lines ms text n w = bad_line ms (opening_before text (n - 1)) (unwrap_or (line_at text (n - 1)) []) n w
