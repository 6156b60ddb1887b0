-- The lowest members of groups of one name, group by group.
use Rattle.std.proofs.Common.{◌≡◌, ℕ, suc, ◌+◌, ◌<◌, ◌-◌, true, false, List, [], ◌∷◌, ◌++◌, drop, refl, sym, ap, ◌∙◌, subst, inl, inr, append-nil, append_assoc, arith, Bor}
use Rattle.std.specs.Prelude.{map, filter_map, cond, Option, Some, None, bytes_eq}
use Rattle.std.specs.List.{cons_option, range_with_len}
use Rattle.std.specs.BTreeMap.{BTreeMap, get_by, is_at}
use Rattle.std.specs.Map.{lookup}
use Rattle.std.proofs.lemmas.Bool.{cond-true, cond-false, cases_Bool, false_from_ne_true}
use Rattle.std.proofs.lemmas.Bool.Decides.{not_from_Decides}
use Rattle.std.proofs.lemmas.List.Elements.{filter_map-append}
use Rattle.std.proofs.lemmas.Option.{none-some, same_Some}
use Rattle.std.proofs.lemmas.Slice.Eq.{bytes_eq-Decides}
use Rattle.omf_names.specs.Names.{name_cmp}
use Rattle.omf_names.proofs.NameTables.{IsUpdated}
use Rattle.omf_records.specs.Values.{Contents, Rec, Group, GroupItem}
use Rattle.omf_check.specs.Tables.{groups, entry}
use Rattle.std.specs.Prelude.{option_map}
use Rattle.omf_placement.specs.declared.frame.Placed.{Placed}
use Rattle.omf_placement.specs.Inner.Lowest.{lower_than}
use Rattle.omf_placement.specs.Placement.{lowest}
use Rattle.omf_output.specs.Exe.Derived.{HasMore, IsLowTable, Named, low_of, of_name, value_of}
use Rattle.omf_placement.proofs.LowerLaws.{lowest-more}
use Rattle.omf_placement.proofs.ListLaws.{next-at, entry-at}

abbrev pub Name : Type 0
Name = List ℕ

same : (x y : Name) → bytes_eq x y ≡ true → x ≡ y
same x y e = (bytes_eq-Decides x y).0 e

itself : (x : Name) → bytes_eq x x ≡ true
itself x = (bytes_eq-Decides x x).1 refl

back : (x y : Name) → bytes_eq x y ≡ false → bytes_eq y x ≡ false
back x y e = false_from_ne_true (bytes_eq y x) (λ t. not_from_Decides (bytes_eq x y) (bytes_eq-Decides x y) e (sym (same y x t)))

of-this : (ls : List Named) (x : Name) (p : Placed) → of_name (ls ++ (x, p) ∷ []) x ≡ of_name ls x ++ p ∷ []
of-this ls x p =
    filter_map-append (value_of x) ls ((x, p) ∷ [])
    ∙ ap (λ b. of_name ls x ++ cons_option (cond b (Some p) None) []) (itself x)

of-other : (ls : List Named) (x : Name) (p : Placed) (y : Name) → bytes_eq y x ≡ false → of_name (ls ++ (x, p) ∷ []) y ≡ of_name ls y
of-other ls x p y e =
    filter_map-append (value_of y) ls ((x, p) ∷ [])
    ∙ ap (λ b. of_name ls y ++ cons_option (cond b (Some p) None) []) e
    ∙ append-nil (of_name ls y)

abbrev pub Map : Type 0
Map = BTreeMap (Bor (List ℕ)) Placed

abbrev pub low_at : Map → Name → Option Placed
low_at m name = get_by (λ k. name_cmp name k.now) m

-- One more group.
pub low-more : (m n : Map) (x : Name) (p q : Placed) → q ≡ lower_than (low_at m x) p → IsUpdated x m n (Some q)
    → HasMore m n ((x, p) ∷ [])
low-more m n x p q e u ls h name = elim (cases_Bool (bytes_eq x name)) [
  | inl b ↦
      let this = same x name b in
      u name ∙ cond-true (bytes_eq x name) (Some q) (low_at m name) b
      ∙ ap Some (e ∙ ap (λ o. lower_than o p) (h x)) ∙ sym (lowest-more (of_name ls x) p) ∙ ap lowest (sym (of-this ls x p)) ∙ ap (λ y. lowest (of_name (ls ++ (x, p) ∷ []) y)) this
  | inr b ↦
      u name ∙ cond-false (bytes_eq x name) (Some q) (low_at m name) b
      ∙ h name ∙ ap lowest (sym (of-other ls x p name (back x name b)))
]

pub none-more : (m : Map) (xs : List Named) → xs ≡ [] → HasMore m m xs
none-more m xs e = subst (HasMore m m) (sym e) (λ ls h. subst (IsLowTable m) (sym (append-nil ls)) h)

-- An empty map is the table of no groups.
pub fill-empty : (m n : Map) (all : List Named) → m.entries ≡ [] → HasMore m n all → IsLowTable n all
fill-empty m n all e g = g [] (λ name. ap (lookup (is_at (λ k. name_cmp name k.now))) e)

pub next-entry : {A : Type 0} (xs : List A) (j : ℕ) (x : A) → entry xs (j + 1) ≡ Some x → drop j xs ≡ x ∷ drop (j + 1) xs
next-entry xs j x e = next-at xs j x (sym (entry-at xs j) ∙ e)

one-split : {A B : Type 0} (f : A → Option B) (x : A) (xs : List A) → filter_map f (x ∷ xs) ≡ filter_map f (x ∷ []) ++ filter_map f xs
one-split f x xs = split (f x) where
  split : (o : Option _) → cons_option o (filter_map f xs) ≡ cons_option o [] ++ filter_map f xs
  split None = refl
  split (Some y) = refl

pub lows-split : (m : List Rec) (xs : List Placed) (j : ℕ) (g : GroupItem) → entry (groups m) (j + 1) ≡ Some g
    → filter_map (low_of m xs) (drop j (groups m)) ≡ filter_map (low_of m xs) (g ∷ []) ++ filter_map (low_of m xs) (drop (j + 1) (groups m))
lows-split m xs j g e = ap (filter_map (low_of m xs)) (next-entry (groups m) j g e) ∙ one-split (low_of m xs) g (drop (j + 1) (groups m))

-- One more at the end.
pub more-of : {A B : Type 0} (f : A → B) (old new : List B) (x : B) (left rest : List A) (a : A) (all : List B) → new ≡ old ++ x ∷ [] → x ≡ f a → left ≡ a ∷ rest → old ++ map f left ≡ all → new ++ map f rest ≡ all
more-of f old new x left rest a all e g h k =
    ap (λ xs. xs ++ map f rest) (e ∙ ap (λ y. old ++ y ∷ []) g) ∙ append_assoc old (f a ∷ []) (map f rest) ∙ ap (λ xs. old ++ map f xs) (sym h) ∙ k

-- One more number of a range.
pub one-more : {A : Type 0} (g : ℕ → A) (old new all : List A) (x : A) (k n : ℕ) → k < n → x ≡ g (k + 1) → new ≡ old ++ x ∷ [] → old ++ map g (range_with_len (k + 1) (n - k)) ≡ all → new ++ map g (range_with_len (k + 1 + 1) (n - (k + 1))) ≡ all
one-more g old new all x k n h e f whole =
    let next : n - k ≡ suc (n - (k + 1)) = omega arith in
    ap (λ xs. xs ++ map g (range_with_len (k + 1 + 1) (n - (k + 1)))) (f ∙ ap (λ y. old ++ y ∷ []) e)
    ∙ append_assoc old (g (k + 1) ∷ []) (map g (range_with_len (k + 1 + 1) (n - (k + 1))))
    ∙ ap (λ j. old ++ map g (range_with_len (k + 1) j)) (sym next) ∙ whole

-- A record that is a group, and its entry.
pub record IsGroup (c : Contents) (o : Option GroupItem) : Type 0 where
  pub group : GroupItem
  pub told : o ≡ Some group
  pub seen : c ≡ Group group

pub group-here : (c : Contents) (o : Option GroupItem) → Some c ≡ option_map Group o → IsGroup c o
group-here c None e = absurd (none-some c (sym e))
group-here c (Some g) e = record { group = g; told = refl; seen = same_Some c (Group g) e }
