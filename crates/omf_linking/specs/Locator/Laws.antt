-- Laws of the keys of drafts, each the contract of a function of the same name.
use Rattle.std.specs.Prelude.{◌≡◌, ◌≤◌, ℕ, List, [], ◌∷◌, ◌++◌, length, map, zip, slice_get, Some, Ok}
use Rattle.std.specs.List.{AllZip}
use Rattle.omf_records.specs.Values.{Rec}
use Rattle.omf_records.specs.Inner.Seen.{map_ok}
use Rattle.omf_placement.specs.Placement.{Places}
use Rattle.omf_reloc.specs.Reach.{entries}
use Rattle.omf_reloc.specs.declared.fault.Kind.{Kind}
use Rattle.omf_linking.specs.Locator.Drafted.{AreShared, HasEntries, Sharing, all_lines, labels_from, sharing_of, told_from, told_places}
use Rattle.omf_linking.specs.Locator.Items.{items_after}
use Rattle.omf_linking.specs.Locator.KeyForms.{key_form, key_of, key_text, key_words, module_key}
use Rattle.omf_linking.specs.Locator.Keys.{entry_named, module_named}
use Rattle.omf_linking.specs.Locator.LinkEntries.{Blank}
use Rattle.omf_linking.specs.Locator.Sparse.{sparse_all}

-- The key that a draft writes for an entry names that entry and no other.
abbrev pub KeysNameEntries : Type 0
KeysNameEntries = (m : List Rec) (kind : Kind) (i : ℕ) → 1 ≤ i → i ≤ entries m kind → entry_named m kind (key_of m kind (key_form m kind i) i) ≡ Ok i

-- What a draft prints is that key.
abbrev pub KeysArePrinted : Type 0
KeysArePrinted = (m : List Rec) (kind : Kind) (i : ℕ) → key_text m kind (key_form m kind i) i ≡ key_words (key_of m kind (key_form m kind i) i)

-- The key that a draft writes for a module names that module and no other.
abbrev pub KeysNameModules : Type 0
KeysNameModules = (ms : List (List Rec)) (j : ℕ) (m : List Rec) → slice_get ms j ≡ Some m → module_named ms (module_key ms j m) ≡ Ok j

-- The entries of the lines of a draft, a line for each segment and each group, and any number of comments after those of each module, give each module exactly its
-- places. So it is whichever lines share a frame with the first line of their name, all that can, none, or some.
abbrev pub DraftedEntriesGivePlaces : Type 0
DraftedEntriesGivePlaces = (shares : ℕ → List Rec → Sharing) (ms : List (List Rec)) (pls : List Places) (comments : List ℕ) → ((j : ℕ) (m : List Rec) → AreShared ms pls j m (shares j m))
    → AllZip HasEntries ms pls → length comments ≡ length ms
    → map_ok (sparse_all ms) (items_after ms [] (told_from 1 (all_lines pls (labels_from shares ms 0 ms comments) ++ Blank ∷ []))) ≡ Ok (map told_places (zip ms pls))

-- The lines that share a frame in a draft are such lines.
abbrev pub DraftsShareFrames : Type 0
DraftsShareFrames = (ms : List (List Rec)) (pls : List Places) → AllZip HasEntries ms pls → (j : ℕ) (m : List Rec) → AreShared ms pls j m (sharing_of ms pls j m)
