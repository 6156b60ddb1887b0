-- The item of a line, from what is kept of the lines before it.
use Rattle.std.proofs.Common.{◌≡◌, ℕ, zero, suc, cond, get_or, ◌+◌, ◌-◌, ◌<◌, ◌≤◌, Bool, true, false, List, [], ◌∷◌, ◌++◌, length, append-nil, append_assoc, set, refl, sym, ap, ap₂, ◌∙◌, arith, subst}
use Rattle.std.specs.Prelude.{IfSome, ◌==◌, ◌||◌, not, filter, filter_map, option_map, option_and_then, slice_get, Option, Some, None, Result, Ok, Err}
use Rattle.std.specs.BTreeSet.{Updates, contains}
use Rattle.std.specs.Cmp.{unsigned_tied}
use Rattle.std.specs.Global.{Vec}
use Rattle.std.specs.List.{enumerate_from, last_or, list_any}
use Rattle.std.specs.Ordering.{nat_cmp}
use Rattle.std.proofs.lemmas.List.{length-map}
use Rattle.std.proofs.lemmas.List.FromFn.{length-enumerate_from}
use Rattle.std.proofs.lemmas.List.Elements.{filter_map-append}
use Rattle.std.proofs.lemmas.List.Folds.{list_any-append}
use Rattle.std.proofs.lemmas.Option.{get_or_from_slice_get, slice_get_past}
use Rattle.omf_frame.specs.Bytes.{last}
use Rattle.omf_records.specs.Values.{Rec}
use Rattle.omf_records.specs.Inner.Seen.{map_ok}
use Rattle.omf_reloc.specs.Reach.{entries}
use Rattle.omf_placement.specs.declared.frame.Frame.{Frame}
use Rattle.omf_reloc.specs.declared.fault.Kind.{Kind}
use Rattle.omf_reloc.specs.declared.fault.Kind.TheVariants as kinds
use Rattle.omf_linking.specs.Inner.KeyTables.{AreEntryKeys, AreModuleKeys}
use Rattle.omf_linking.specs.Inner.Parting.{IsLow}
use Rattle.omf_linking.specs.Inner.Walking.{AreLines, IsCurrent, IsGiven, IsTaken}
use Rattle.omf_linking.specs.Inner.Titling.{AreTitles}
use Rattle.omf_linking.specs.Locator.Items.{Item, Nothing, Opened, Given, Ends, alone, current, ended, given_at, group_given, group_title, in_quotes, is_again, items_of, item_in, kind_of, module_at, opened, or_unshared, segment_framed, segment_title, settled, shared_frame, told_kind, unless_again}
use Rattle.omf_linking.specs.Locator.Keys.{count_from, entry_named, module_named, names_entry, names_module, the_one}
use Rattle.omf_linking.specs.Locator.LinkEntries.{Key, Target, SegmentPlace, StoredPlace, GroupFrame, Told, Own, SharedPlace, SharedStored, SharedFrame, Opens, Gives}
use Rattle.omf_linking.specs.Locator.Sparse.{Sparse, sparse_all, sparse_of}
use Rattle.omf_linking.specs.declared.locator.fault.LineFault.{LineFault}
use Rattle.omf_linking.specs.declared.locator.fault.LineFault.TheVariants as why
use Rattle.omf_linking.specs.declared.locator.fault.LocatorFault.{LocatorFault}
use Rattle.omf_linking.specs.declared.locator.fault.LocatorFault.TheVariants as fault
use Rattle.omf_linking.specs.declared.locator.span.End.{End}
use Rattle.omf_linking.specs.declared.locator.lines.Current.{Current}
use Rattle.omf_linking.specs.declared.locator.lines.Lines.{Lines}
use Rattle.omf_linking.specs.declared.locator.tables.EntryKeys.{EntryKeys}
use Rattle.omf_linking.proofs.TitleLaws.{titles-same}
use Rattle.omf_linking.proofs.SparseLaws.{all_nothing_more, all_set, other_module, slice_get_all}

-- what is kept of the lines, where a line opens no module
abbrev IsSameWalk : Lines → Lines → Type 0
IsSameWalk s new = (new.keys ≡ s.keys) × (new.opened ≡ s.opened) × (new.current ≡ s.current) × (new.end ≡ s.end)

same_walk : (ms : List (List Rec)) (s new : Lines) (items more : List Item) → AreLines ms s items → filter_map opened more ≡ filter_map opened items → filter_map ended more ≡ filter_map ended items → IsSameWalk s new → new.given.items ≡ sparse_all ms more → AreTitles ms new.titles more → AreLines ms new more
same_walk ms s new items more at e last_is same g titles = record {
  keys_are = subst (AreModuleKeys ms) (sym same.0) at.keys_are;
  opened_is = λ j. ap (λ o. contains nat_cmp o j) same.1 ∙ at.opened_is j ∙ ap (list_any (λ k. k == j)) (sym e);
  current_is = subst (λ (o : Option ℕ). IsCurrent ms new.current o) (ap last (sym e)) (subst (λ (c : Option Current). IsCurrent ms c (current items)) (sym same.2) at.current_is);
  given_is = g;
  titles_are = titles;
  end_is = same.3 ∙ at.end_is ∙ ap last (sym last_is);
  end_low = subst (λ (o : Option End). IfSome o IsLow) (sym same.3) at.end_low;
}

-- a fault of a line
pub fault_taken : (ms : List (List Rec)) (new : Lines) (items : List Item) (n : ℕ) (w : LineFault) (r : Result (List Item) LineFault) (told : Result (Unit {0}) LocatorFault) → told ≡ Err (fault.Line n w) → r ≡ Err w → IsTaken ms new items n r told
fault_taken ms new items n w r told e is = subst (λ (x : Result (Unit {0}) LocatorFault). IsTaken ms new items n r x) (sym e) (refl, is)

-- ---- a module begins

module _ (ms : List (List Rec)) (items : List Item) (k : Key) (j : ℕ) (named : module_named ms k ≡ Ok j) where
  opens_by : items_of ms items (Some (Opens k)) ≡ alone (unless_again items (Ok (Opened j)))
  opens_by = ap (λ (r : Result ℕ LineFault). alone (unless_again items (map_ok Opened r))) named

  pub opens_again : list_any (λ i. i == j) (filter_map opened items) ≡ true → items_of ms items (Some (Opens k)) ≡ Err why.Twice
  opens_again e = opens_by ∙ rw e refl

  pub opens_first : list_any (λ i. i == j) (filter_map opened items) ≡ false → items_of ms items (Some (Opens k)) ≡ Ok (Opened j ∷ [])
  opens_first e = opens_by ∙ rw e refl

pub opens_none : (ms : List (List Rec)) (items : List Item) (k : Key) (w : LineFault) → module_named ms k ≡ Err w → items_of ms items (Some (Opens k)) ≡ Err w
opens_none ms items k w e = ap (λ (r : Result ℕ LineFault). alone (unless_again items (map_ok Opened r))) e

-- a module that was added to those whose lines began
pub was_there : (added there : Bool) → added ≡ not there → added ≡ false → there ≡ true
was_there true true e h = refl
was_there false true e h = refl
was_there true false e h = absurd cc
was_there false false e h = absurd cc

pub was_none : (added there : Bool) → added ≡ not there → added ≡ true → there ≡ false
was_none true true e h = absurd cc
was_none false true e h = absurd cc
was_none true false e h = refl
was_none false false e h = refl

last_more : (o : Option ℕ) (xs : List ℕ) (j : ℕ) → last_or o (xs ++ j ∷ []) ≡ Some j
last_more o [] j = refl
last_more o (x ∷ xs) j = last_more (Some x) xs j

or_only : (b a : Bool) → cond b true a ≡ (a || (b || false))
or_only true true = refl
or_only true false = refl
or_only false true = refl
or_only false false = refl

pub more_opened : (ms : List (List Rec)) (s new : Lines) (items : List Item) (j : ℕ) (k : EntryKeys) → AreLines ms s items → Updates nat_cmp s.opened new.opened j true → ((m : List Rec) → slice_get ms j ≡ Some m → AreEntryKeys m k)
    → new.keys ≡ s.keys → new.current ≡ Some (record { number = j; keys = k }) → new.given ≡ s.given → new.titles ≡ s.titles → new.end ≡ s.end → AreLines ms new (items ++ Opened j ∷ [])
more_opened ms s new items j k at u own same here g kept last_is =
    let begun : filter_map opened (items ++ Opened j ∷ []) ≡ filter_map opened items ++ j ∷ [] = filter_map-append opened items (Opened j ∷ []) in
    let now : current (items ++ Opened j ∷ []) ≡ Some j = ap last begun ∙ last_more None (filter_map opened items) j in
    record {
      keys_are = subst (AreModuleKeys ms) (sym same) at.keys_are;
      opened_is = λ q.
          u.0 q ∙ ap₂ (λ b a. cond b true a) (unsigned_tied j q) (at.opened_is q) ∙ or_only (j == q) (list_any (λ i. i == q) (filter_map opened items))
          ∙ sym (ap (list_any (λ i. i == q)) begun ∙ list_any-append (λ i. i == q) (filter_map opened items) (j ∷ []));
      current_is = subst (λ (c : Option Current). IsCurrent ms c (current (items ++ Opened j ∷ []))) (sym here) (now, own);
      given_is = ap (λ (v : Vec Sparse). v.items) g ∙ at.given_is ∙ sym (all_nothing_more items (Opened j) ms refl refl refl refl);
      titles_are = subst (λ t. AreTitles ms t (items ++ Opened j ∷ [])) (sym kept) (titles-same ms s.titles items (Opened j) at.titles_are refl refl);
      end_is = last_is ∙ at.end_is ∙ ap last (sym (filter_map-append ended items (Opened j ∷ []) ∙ append-nil (filter_map ended items)));
      end_low = subst (λ (o : Option End). IfSome o IsLow) (sym last_is) at.end_low;
    }

-- a line that does nothing
pub more_nothing : (ms : List (List Rec)) (s : Lines) (items : List Item) → AreLines ms s items → AreLines ms s (items ++ Nothing ∷ [])
more_nothing ms s items at = same_walk ms s s items (items ++ Nothing ∷ []) at (filter_map-append opened items (Nothing ∷ []) ∙ append-nil (filter_map opened items)) (filter_map-append ended items (Nothing ∷ []) ∙ append-nil (filter_map ended items)) (refl, refl, refl, refl) (at.given_is ∙ sym (all_nothing_more items Nothing ms refl refl refl refl)) (titles-same ms s.titles items Nothing at.titles_are refl refl)

-- ---- an entry is given something

-- what is settled is of the line's kind
place_kind : (a : ℕ) (o : Option Frame) (x : Target) → or_unshared (option_map (λ f. SegmentPlace (record { address = a; frame = f })) o) ≡ Ok x → kind_of x ≡ kinds.Segment
place_kind a None x e = absurd cc
place_kind a (Some f) x e = let same : SegmentPlace (record { address = a; frame = f }) ≡ x = cc in ap kind_of (sym same)

stored_kind : (a s : ℕ) (o : Option Frame) (x : Target) → or_unshared (option_map (λ f. StoredPlace (record { address = a; frame = f }) s) o) ≡ Ok x → kind_of x ≡ kinds.Segment
stored_kind a s None x e = absurd cc
stored_kind a s (Some f) x e = let same : StoredPlace (record { address = a; frame = f }) s ≡ x = cc in ap kind_of (sym same)

frame_kind : (o : Option Frame) (x : Target) → or_unshared (option_map (λ f. GroupFrame (Some f)) o) ≡ Ok x → kind_of x ≡ kinds.Group
frame_kind None x e = absurd cc
frame_kind (Some f) x e = let same : GroupFrame (Some f) ≡ x = cc in ap kind_of (sym same)

pub settled_kind : (ms : List (List Rec)) (items : List Item) (m : List Rec) (t : Told) (i : ℕ) (x : Target) → settled ms items m t i ≡ Ok x → kind_of x ≡ told_kind t
settled_kind ms items m (Own y) i x e = let same : y ≡ x = cc in ap kind_of (sym same)
settled_kind ms items m (SharedPlace a) i x e = place_kind a (shared_frame segment_title ms (in_quotes (segment_title m i)) (filter_map segment_framed items)) x e
settled_kind ms items m (SharedStored a s) i x e = stored_kind a s (shared_frame segment_title ms (in_quotes (segment_title m i)) (filter_map segment_framed items)) x e
settled_kind ms items m SharedFrame i x e = frame_kind (shared_frame group_title ms (in_quotes (group_title m i)) (filter_map group_given items)) x e

-- an entry of module j, by its key
module _ (ms : List (List Rec)) (items : List Item) (k : Key) (t : Told) (j : ℕ) where
  pub in_far : length ms ≤ j → item_in ms items (module_at ms j) k t ≡ Err why.NoModule
  in_far far = ap (λ (o : Option (List Rec)). item_in ms items (option_map (λ m. (j, m)) o) k t) (slice_get_past ms j far)

  module _ (m : List Rec) (found : slice_get ms j ≡ Some m) where
    in_here : item_in ms items (module_at ms j) k t ≡ given_at ms items (j, m) t (entry_named m (told_kind t) k)
    in_here = ap (λ (o : Option (List Rec)). item_in ms items (option_map (λ x. (j, x)) o) k t) found

    pub in_none : (w : LineFault) → entry_named m (told_kind t) k ≡ Err w → item_in ms items (module_at ms j) k t ≡ Err w
    in_none w e = in_here ∙ ap (λ (r : Result ℕ LineFault). given_at ms items (j, m) t r) e

    pub in_one : (i : ℕ) → entry_named m (told_kind t) k ≡ Ok i → item_in ms items (module_at ms j) k t ≡ unless_again items (map_ok (Given j i) (settled ms items m t i))
    in_one i named = in_here ∙ ap (λ (r : Result ℕ LineFault). given_at ms items (j, m) t r) named

pub gives_by : (ms : List (List Rec)) (items : List Item) (k : Key) (t : Told) (j : ℕ) → current items ≡ Some j → items_of ms items (Some (Gives k t)) ≡ alone (item_in ms items (module_at ms j) k t)
gives_by ms items k t j now = ap (λ (o : Option ℕ). alone (item_in ms items (option_and_then (module_at ms) o) k t)) now

-- what it is given
module _ (ms : List (List Rec)) (items : List Item) (t : Told) (j i : ℕ) (m : List Rec) where
  pub gives_unshared : (w : LineFault) → settled ms items m t i ≡ Err w → alone (unless_again items (map_ok (Given j i) (settled ms items m t i))) ≡ Err w
  gives_unshared w e = ap (λ (r : Result Target LineFault). alone (unless_again items (map_ok (Given j i) r))) e

  gives_settled : (x : Target) → settled ms items m t i ≡ Ok x → alone (unless_again items (map_ok (Given j i) (settled ms items m t i))) ≡ alone (unless_again items (Ok (Given j i x)))
  gives_settled x e = ap (λ (r : Result Target LineFault). alone (unless_again items (map_ok (Given j i) r))) e

  pub gives_again : (x : Target) → settled ms items m t i ≡ Ok x → is_again items (Given j i x) ≡ true → alone (unless_again items (map_ok (Given j i) (settled ms items m t i))) ≡ Err why.Twice
  gives_again x s e = gives_settled x s ∙ unless_true items (Given j i x) e
    where
      unless_true : (xs : List Item) (x : Item) → is_again xs x ≡ true → alone (unless_again xs (Ok x)) ≡ Err why.Twice
      unless_true xs x e = rw e refl

  pub gives_first : (x : Target) → settled ms items m t i ≡ Ok x → is_again items (Given j i x) ≡ false → alone (unless_again items (map_ok (Given j i) (settled ms items m t i))) ≡ Ok (Given j i x ∷ [])
  gives_first x s e = gives_settled x s ∙ unless_false items (Given j i x) e
    where
      unless_false : (xs : List Item) (x : Item) → is_again xs x ≡ false → alone (unless_again xs (Ok x)) ≡ Ok (x ∷ [])
      unless_false xs x e = rw e refl

all_put : (items : List Item) (j i : ℕ) (t : Target) (ms : List (List Rec)) (m : List Rec) → slice_get ms j ≡ Some m → sparse_all ms (items ++ Given j i t ∷ []) ≡ set (sparse_all ms items) j (sparse_of (items ++ Given j i t ∷ []) (j, m))
all_put items j i t ms m found =
    let z : j - 0 ≡ j = omega arith in
    let all = all_set (sparse_of items) (sparse_of (items ++ Given j i t ∷ [])) j (λ k n e. other_module items j i t k n e) 0 ms m (sparse_of (items ++ Given j i t ∷ []) (j, m)) (omega arith) (rw z found) refl in
    all ∙ ap (λ (k : ℕ). set (sparse_all ms items) k (sparse_of (items ++ Given j i t ∷ []) (j, m))) z

-- one module's tables after the line
pub more_given : (ms : List (List Rec)) (s new : Lines) (items : List Item) (j i : ℕ) (t : Target) (m : List Rec) (v : Sparse) → AreLines ms s items → slice_get ms j ≡ Some m → v ≡ sparse_of (items ++ Given j i t ∷ []) (j, m)
    → new.keys ≡ s.keys → new.opened ≡ s.opened → new.current ≡ s.current → new.end ≡ s.end → new.given.items ≡ set s.given.items j v → AreTitles ms new.titles (items ++ Given j i t ∷ []) → AreLines ms new (items ++ Given j i t ∷ [])
more_given ms s new items j i t m v at found is k o c last_is g titles =
    same_walk ms s new items (items ++ Given j i t ∷ []) at (filter_map-append opened items (Given j i t ∷ []) ∙ append-nil (filter_map opened items)) (filter_map-append ended items (Given j i t ∷ []) ∙ append-nil (filter_map ended items)) (k, o, c, last_is)
    (g ∙ ap₂ (λ (xs : List Sparse) (x : Sparse). set xs j x) at.given_is is ∙ sym (all_put items j i t ms m found)) titles

pub as_many_lines : (ms : List (List Rec)) (s : Lines) (items : List Item) → AreLines ms s items → length s.given.items ≡ length ms
as_many_lines ms s items at = ap length at.given_is ∙ length-map (enumerate_from 0 ms) (sparse_of items) ∙ length-enumerate_from 0 ms

pub slice_within : (ms : List (List Rec)) (j : ℕ) (m : List Rec) → slice_get ms j ≡ Some m → j < length ms
slice_within [] j m e = absurd cc
slice_within (x ∷ ms) zero m e = omega arith
slice_within (x ∷ ms) (suc j) m e = omega (arith, slice_within ms j m e)

-- ---- the tables of the module, and the index that a key names

pub own_tables : (ms : List (List Rec)) (s : Lines) (items : List Item) (j : ℕ) (m : List Rec) (x : Sparse) → AreLines ms s items → slice_get ms j ≡ Some m → x ≡ get_or s.given.items j x → x ≡ sparse_of items (j, m)
own_tables ms s items j m x at found e =
    let z : 0 + j ≡ j = omega arith in
    let own : slice_get (sparse_all ms items) j ≡ Some (sparse_of items (0 + j, m)) = slice_get_all (sparse_of items) 0 j ms m found in
    let here : slice_get s.given.items j ≡ Some (sparse_of items (j, m)) = ap (λ (xs : List Sparse). slice_get xs j) at.given_is ∙ own ∙ ap (λ (k : ℕ). Some (sparse_of items (k, m))) z in
    e ∙ get_or_from_slice_get s.given.items j (sparse_of items (j, m)) x here

module _ (m : ℕ × List Rec) (i : ℕ) (t : Target) (old new : Sparse) (b : Bool) (given : IsGiven m i t old new b) (items : List Item) (is : old ≡ sparse_of items m) where
  pub not_given : b ≡ false → 1 ≤ i → i ≤ entries m.1 (kind_of t) → is_again items (Given m.0 i t) ≡ true
  not_given e low high = let g : IsGiven m i t old new false = subst (λ (x : Bool). IsGiven m i t old new x) e given in g items is low high

  pub now_given : b ≡ true → (is_again items (Given m.0 i t) ≡ false) × (new ≡ sparse_of (items ++ Given m.0 i t ∷ []) m)
  now_given e = let g : IsGiven m i t old new true = subst (λ (x : Bool). IsGiven m i t old new x) e given in g items is

in_count : (P : ℕ → Bool) (first n i : ℕ) (rest : List ℕ) → filter P (count_from first n) ≡ i ∷ rest → (first ≤ i) × (i < first + n)
in_count P first zero i rest e = absurd cc
in_count P first (suc n) i rest e = by (P first) (λ g. in_count P (first + 1) n i rest g) e
  where
    by : (b : Bool) → (filter P (count_from (first + 1) n) ≡ i ∷ rest → (first + 1 ≤ i) × (i < first + 1 + n)) → cond b (first ∷ filter P (count_from (first + 1) n)) (filter P (count_from (first + 1) n)) ≡ i ∷ rest → (first ≤ i) × (i < first + suc n)
    by true h g = let same : first ≡ i = cc in (omega arith, omega arith)
    by false h g = let k = h g in (omega (arith, k.0), omega (arith, k.1))

one_of : (xs : List ℕ) (i : ℕ) → the_one xs ≡ Ok i → (rest : List ℕ) × (xs ≡ i ∷ rest)
one_of [] i e = absurd cc
one_of (x ∷ []) i e = let same : x ≡ i = cc in ([], ap (λ (y : ℕ). y ∷ []) same)
one_of (x ∷ y ∷ zs) i e = absurd cc

pub named_within : (m : List Rec) (kind : Kind) (k : Key) (i : ℕ) → entry_named m kind k ≡ Ok i → (1 ≤ i) × (i ≤ entries m kind)
named_within m kind k i e =
    let f = one_of (filter (names_entry m k kind) (count_from 1 (entries m kind))) i e in
    let h = in_count (names_entry m k kind) 1 (entries m kind) i f.0 f.1 in
    (h.0, omega (arith, h.1))

pub module_within : (ms : List (List Rec)) (k : Key) (j : ℕ) → module_named ms k ≡ Ok j → j < length ms
module_within ms k j e =
    let f = one_of (filter (names_module ms k) (count_from 0 (length ms))) j e in
    let h = (in_count (names_module ms k) 0 (length ms) j f.0 f.1).1 in
    omega (arith, h)

-- ---- the module whose lines follow

pub none_current : (ms : List (List Rec)) (s : Lines) (items : List Item) → AreLines ms s items → s.current ≡ None → current items ≡ None
none_current ms s items at e = subst (λ (c : Option Current). IsCurrent ms c (current items)) e at.current_is

pub some_current : (ms : List (List Rec)) (s : Lines) (items : List Item) (c : Current) → AreLines ms s items → s.current ≡ Some c → (current items ≡ Some c.number) × ((m : List Rec) → slice_get ms c.number ≡ Some m → AreEntryKeys m c.keys)
some_current ms s items c at e = subst (λ (o : Option Current). IsCurrent ms o (current items)) e at.current_is

-- ---- lines for all modules

pub end_before : (ms : List (List Rec)) (s : Lines) (items : List Item) → AreLines ms s items → IfSome s.end IsLow
end_before ms s items at = at.end_low

last_end_more : (o : Option End) (xs : List End) (e : End) → last_or o (xs ++ e ∷ []) ≡ Some e
last_end_more o [] e = refl
last_end_more o (x ∷ xs) e = last_end_more (Some x) xs e

pub more_ended : (ms : List (List Rec)) (s new : Lines) (items xs : List Item) (e : End) → AreLines ms s (items ++ xs) → IsLow e → new.keys ≡ s.keys → new.opened ≡ s.opened → new.current ≡ s.current → new.given ≡ s.given → new.titles ≡ s.titles
    → new.end ≡ Some e → AreLines ms new (items ++ (xs ++ Ends e ∷ []))
more_ended ms s new items xs e at low k o c g t is =
    subst (AreLines ms new) (append_assoc items xs (Ends e ∷ []))
    (record {
      keys_are = subst (AreModuleKeys ms) (sym k) at.keys_are;
      opened_is = λ j. ap (λ q. contains nat_cmp q j) o ∙ at.opened_is j ∙ ap (list_any (λ i. i == j)) (sym same);
      current_is = subst (λ (q : Option ℕ). IsCurrent ms new.current q) (ap last (sym same)) (subst (λ (q : Option Current). IsCurrent ms q (current (items ++ xs))) (sym c) at.current_is);
      given_is = ap (λ (v : Vec Sparse). v.items) g ∙ at.given_is ∙ sym (all_nothing_more (items ++ xs) (Ends e) ms refl refl refl refl);
      titles_are = subst (λ q. AreTitles ms q ((items ++ xs) ++ Ends e ∷ [])) (sym t) (titles-same ms s.titles (items ++ xs) (Ends e) at.titles_are refl refl);
      end_is = is ∙ sym (ap last (filter_map-append ended (items ++ xs) (Ends e ∷ [])) ∙ last_end_more None (filter_map ended (items ++ xs)) e);
      end_low = subst (λ (q : Option End). IfSome q IsLow) (sym is) low;
    })
  where
    same : filter_map opened ((items ++ xs) ++ Ends e ∷ []) ≡ filter_map opened (items ++ xs)
    same = filter_map-append opened (items ++ xs) (Ends e ∷ []) ∙ append-nil (filter_map opened (items ++ xs))
