-- Steps of the loops that make the module for DOS order.
use Rattle.std.proofs.Math.Seq.{drop-nil}
use Rattle.std.proofs.Common.{◌≡◌, ◌≤◌, ℕ, zero, suc, drop, arith, ◌+◌, true, false, List, [], ◌∷◌, ◌++◌, length, refl, sym, ap, ◌∙◌, inl, inr, append-nil, append_assoc, Bor}
use Rattle.std.specs.Prelude.{Bool, flat_map, is_some, bytes_eq, ◌||◌, Some}
use Rattle.std.specs.List.{list_any}
use Rattle.std.specs.BTreeMap.{BTreeMap, get_by, is_at}
use Rattle.std.specs.Map.{lookup}
use Rattle.std.proofs.lemmas.Bool.{cond-true, cond-false, cases_Bool}
use Rattle.omf_names.specs.Names.{name_cmp}
use Rattle.omf_names.proofs.NameTables.{IsUpdated}
use Rattle.omf_frame.specs.Framing.{Raw, raw_bytes}
use Rattle.omf_frame.specs.declared.fault.Place.{Place}
use Rattle.omf_records.specs.Inner.Reading.{typed}
use Rattle.omf_records.specs.Values.{Rec}
use Rattle.omf_check.specs.Listed.{placed_from}
use Rattle.omf_check.specs.Tables.{externals, entry}
use Rattle.omf_check.specs.WellFormed.{recs}
use Rattle.omf_placement.proofs.Filling.{Adds}
use Rattle.omf_layout.specs.Own.Written.{framed, written}
use Rattle.omf_placement.proofs.ListLaws.{next-at, entry-at}
use Rattle.omf_layout.specs.Own.Order.{IsNameTable, asks_dos_order, asks_for, classes_in, has_name, is_dosseg}

-- The classes in DGROUP of numbered records, by the tables of a module.
abbrev pub classes-by : List Rec → List (Place × Rec) → List (List ℕ)
classes-by m xs = flat_map (λ x. classes_in m x.1.contents) xs

pub classes-all : (m : List Rec) (number start : ℕ) (rs : List Raw) → classes-by m (placed_from number start rs) ≡ flat_map (λ r. classes_in m r.contents) (recs rs)
classes-all m number start [] = refl
classes-all m number start (r ∷ rs) = ap (λ xs. classes_in m (typed r).contents ++ xs) (classes-all m (number + 1) (start + length (raw_bytes r)) rs)

-- One of numbered records asks for DOS order.
abbrev pub asks-by : List (Place × Rec) → Bool
asks-by xs = list_any (λ x. is_dosseg x.1.contents) xs

pub asks-all : (number start : ℕ) (rs : List Raw) → asks-by (placed_from number start rs) ≡ asks_dos_order (recs rs)
asks-all number start [] = refl
asks-all number start (r ∷ rs) = ap (λ b. is_dosseg (typed r).contents || b) (asks-all (number + 1) (start + length (raw_bytes r)) rs)

-- One more name in a table.
or-false : (b : Bool) → (b || false) ≡ b
or-false true = refl
or-false false = refl

or-true : (b : Bool) → (b || true) ≡ true
or-true true = refl
or-true false = refl

or-grouped : (a b c : Bool) → ((a || b) || c) ≡ (a || (b || c))
or-grouped true b c = refl
or-grouped false b c = refl

has-append : (xs ys : List (List ℕ)) (name : List ℕ) → has_name (xs ++ ys) name ≡ (has_name xs name || has_name ys name)
has-append [] ys name = refl
has-append (x ∷ xs) ys name = ap (λ b. bytes_eq x name || b) (has-append xs ys name) ∙ sym (or-grouped (bytes_eq x name) (has_name xs name) (has_name ys name))

has-here : (xs : List (List ℕ)) (y name : List ℕ) → bytes_eq y name ≡ true → has_name (xs ++ y ∷ []) name ≡ true
has-here xs y name b = has-append xs (y ∷ []) name ∙ ap (λ t. has_name xs name || (t || false)) b ∙ or-true (has_name xs name)

has-other : (xs : List (List ℕ)) (y name : List ℕ) → bytes_eq y name ≡ false → has_name (xs ++ y ∷ []) name ≡ has_name xs name
has-other xs y name b = has-append xs (y ∷ []) name ∙ ap (λ t. has_name xs name || (t || false)) b ∙ or-false (has_name xs name)

abbrev pub Table : Type 0
Table = BTreeMap (Bor (List ℕ)) (Unit {0})

pub name-more : (m n : Table) (y : List ℕ) (v : Unit {0}) → IsUpdated y m n (Some v)
    → Adds IsNameTable m n (y ∷ [])
name-more m n y v up names h name = elim (cases_Bool (bytes_eq y name)) [
  | inl e ↦
      ap is_some (up name ∙ cond-true (bytes_eq y name) (Some v) (get_by (λ k. name_cmp name k.now) m) e) ∙ sym (has-here names y name e)
  | inr e ↦
      ap is_some (up name ∙ cond-false (bytes_eq y name) (Some v) (get_by (λ k. name_cmp name k.now) m) e)
      ∙ h name ∙ sym (has-other names y name e)
]

-- An empty map is the table of no names.
pub name-empty : (m n : Table) (all : List (List ℕ)) → m.entries ≡ [] → Adds IsNameTable m n all → IsNameTable n all
name-empty m n all e g = g [] (λ name. ap is_some (ap (lookup (is_at (λ k. name_cmp name k.now))) e))

-- Nothing is left of a list.
pub none-left : {A : Type 0} (xs : List A) (j : ℕ) → length xs ≤ j → drop j xs ≡ []
none-left [] j h = drop-nil j
none-left (x ∷ xs) zero h = absurd (omega arith)
none-left (x ∷ xs) (suc j) h = none-left xs j (omega arith)

-- One more record, and two of them.
written-more : (xs : List Rec) (r : Rec) → written (xs ++ r ∷ []) ≡ written xs ++ framed r
written-more [] r = append-nil (framed r)
written-more (x ∷ xs) r = ap (λ y. framed x ++ y) (written-more xs r) ∙ sym (append_assoc (framed x) (written xs) (framed r))

pub then-record : (a b c : List ℕ) (xs : List Rec) (r : Rec) → b ≡ a ++ written xs → c ≡ b ++ framed r → c ≡ a ++ written (xs ++ r ∷ [])
then-record a b c xs r e g = g ∙ ap (λ y. y ++ framed r) e ∙ append_assoc a (written xs) (framed r) ∙ ap (λ y. a ++ y) (sym (written-more xs r))

pub two-records : (a b c : List ℕ) (q r : Rec) → b ≡ a ++ framed q → c ≡ b ++ framed r → c ≡ a ++ written (q ∷ r ∷ [])
two-records a b c q r e g = then-record a b c (q ∷ []) r (e ∙ ap (λ y. a ++ y) (sym (append-nil (framed q)))) g

-- The parts of the program one after another.
pub all-parts : {A : Type 0} (d m b n s front mark bss last stack : List A) → d ≡ front → m ≡ d ++ mark → b ≡ m ++ bss → n ≡ b ++ last → s ≡ n ++ stack
    → s ≡ (front ++ (mark ++ bss)) ++ (last ++ stack)
all-parts d m b n s front mark bss last stack e f g h k =
    k ∙ ap (λ xs. xs ++ stack) h ∙ append_assoc b last stack ∙ ap (λ xs. xs ++ (last ++ stack)) (g ∙ ap (λ xs. xs ++ bss) (f ∙ ap (λ xs. xs ++ mark) e) ∙ append_assoc front mark bss)

-- One more external that is the one asked for, or is not.
next-external : (m : List Rec) (j : ℕ) (x : List ℕ) → entry (externals m) (j + 1) ≡ Some x → drop j (externals m) ≡ x ∷ drop (j + 1) (externals m)
next-external m j x e = next-at (externals m) j x (sym (entry-at (externals m) j) ∙ e)

pub asked-here : (m : List Rec) (j : ℕ) (x name : List ℕ) → entry (externals m) (j + 1) ≡ Some x → bytes_eq x name ≡ true → has_name (drop j (externals m)) name ≡ asks_for name m → true ≡ asks_for name m
asked-here m j x name e t h =
    sym (ap (λ b. b || has_name (drop (j + 1) (externals m)) name) t) ∙ sym (ap (λ xs. has_name xs name) (next-external m j x e)) ∙ h

pub asked-later : (m : List Rec) (j : ℕ) (x name : List ℕ) → entry (externals m) (j + 1) ≡ Some x → bytes_eq x name ≡ false → has_name (drop j (externals m)) name ≡ asks_for name m
    → has_name (drop (j + 1) (externals m)) name ≡ asks_for name m
asked-later m j x name e t h =
    sym (ap (λ b. b || has_name (drop (j + 1) (externals m)) name) t) ∙ sym (ap (λ xs. has_name xs name) (next-external m j x e)) ∙ h
