-- What the code keeps of the lines so far.
use Rattle.std.specs.Prelude.{◌≡◌, ◌≤◌, ◌-◌, ◌==◌, ⊤, IfSome, ℕ, Option, Some, None, is_some, set, slice_get, List, [], ◌∷◌, ◌++◌, filter_map, Bool, true, false, Result, Ok, Err}
use Rattle.std.specs.BTreeSet.{contains}
use Rattle.std.specs.List.{list_any}
use Rattle.std.specs.Ordering.{nat_cmp}
use Rattle.omf_records.specs.Values.{Rec}
use Rattle.omf_linking.specs.Inner.KeyTables.{AreEntryKeys, AreModuleKeys}
use Rattle.omf_linking.specs.Inner.Parting.{IsLow}
use Rattle.omf_linking.specs.Inner.Titling.{AreTitles}
use Rattle.omf_linking.specs.Locator.Items.{Item, Given, current, is_again, kind_of, last_end, opened}
use Rattle.omf_linking.specs.Locator.LinkEntries.{Target}
use Rattle.omf_reloc.specs.Reach.{entries}
use Rattle.omf_linking.specs.Locator.Sparse.{Sparse, sparse_all, sparse_of}
use Rattle.omf_linking.specs.declared.locator.fault.LineFault.{LineFault}
use Rattle.omf_linking.specs.declared.locator.fault.LocatorFault.{LocatorFault}
use Rattle.omf_linking.specs.declared.locator.fault.LocatorFault.TheVariants as fault
use Rattle.omf_linking.specs.declared.locator.lines.Current.{Current}
use Rattle.omf_linking.specs.declared.locator.lines.Lines.{Lines}

-- The module whose lines follow, if there is one, with the keys of its entries.
abbrev pub IsCurrent : List (List Rec) → Option Current → Option ℕ → Type 0
IsCurrent ms None o = o ≡ None
IsCurrent ms (Some c) o = (o ≡ Some c.number) × ((m : List Rec) → slice_get ms c.number ≡ Some m → AreEntryKeys m c.keys)

pub record AreLines (ms : List (List Rec)) (s : Lines) (items : List Item) : Type 0 where
  pub keys_are : AreModuleKeys ms s.keys
  pub opened_is : (j : ℕ) → contains nat_cmp s.opened j ≡ list_any (λ k. k == j) (filter_map opened items)
  pub current_is : IsCurrent ms s.current (current items)
  pub given_is : s.given.items ≡ sparse_all ms items
  pub titles_are : AreTitles ms s.titles items
  pub end_is : s.end ≡ last_end items
  pub end_low : IfSome s.end IsLow

-- The result of a line after these items: it has items, or this is why it has none; or memory ran out.
abbrev pub IsTaken : List (List Rec) → Lines → List Item → ℕ → Result (List Item) LineFault → Result (Unit {0}) LocatorFault → Type 0
IsTaken ms new items n r (Ok done) = (xs : List Item) × (r ≡ Ok xs) × AreLines ms new (items ++ xs)
IsTaken ms new items n r (Err fault.Memory) = ⊤
IsTaken ms new items n r (Err (fault.Line k w)) = (k ≡ n) × (r ≡ Err w)

-- An entry of a module is given something, after these items: it is the first; or another was before, and nothing changed.
abbrev pub IsGiven : ℕ × List Rec → ℕ → Target → Sparse → Sparse → Bool → Type 0
IsGiven m i t old new true = (items : List Item) → old ≡ sparse_of items m → (is_again items (Given m.0 i t) ≡ false) × (new ≡ sparse_of (items ++ Given m.0 i t ∷ []) m)
IsGiven m i t old new false = (items : List Item) → old ≡ sparse_of items m → 1 ≤ i → i ≤ entries m.1 (kind_of t) → is_again items (Given m.0 i t) ≡ true

-- A value was put at an index of a table, counted from 1, at which there was none; or there was one, or the table has no such index.
abbrev pub IsPut : {V : Type 0} → ℕ → V → List (Option V) → List (Option V) → Bool → Type 0
IsPut i v old new true = (1 ≤ i) × (slice_get old (i - 1) ≡ Some None) × (new ≡ set old (i - 1) (Some v))
IsPut {V} i v old new false = (new ≡ old) × ((x : Option V) → 1 ≤ i → slice_get old (i - 1) ≡ Some x → is_some x ≡ true)
