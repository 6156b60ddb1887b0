-- A table of the bases of groups by two names, which holds the first of each.
use Rattle.std.proofs.Common.{◌≡◌, ℕ, ◌+◌, true, false, Bool, List, [], ◌∷◌, ◌++◌, drop, refl, sym, ap, ap₂, ◌∙◌, inl, inr, Ordering, Less, Equal, Greater, Bor, append-nil, subst, cond}
use Rattle.std.specs.Prelude.{◌&&◌, find, flat_map, filter_map, option_and_then, option_map, option_to_list, is_some, Option, Some, None, bytes_eq}
use Rattle.std.specs.BTreeMap.{BTreeMap, get, get_by, is_at, Updates}
use Rattle.std.specs.List.{cons_option, enumerate_from}
use Rattle.std.specs.Map.{lookup}
use Rattle.std.specs.Option.{option_copied, option_map_or, option_or}
use Rattle.std.specs.Ordering.{is_eq, ordering_then}
use Rattle.std.proofs.lemmas.Bool.{true≢false, false≢true, cond-true, cond-false, cases_Bool, and_parts}
use Rattle.std.proofs.lemmas.List.Folds.{find-append}
use Rattle.std.proofs.lemmas.Slice.Eq.{bytes_eq-Decides}
use Rattle.omf_names.specs.Names.{name_cmp}
use Rattle.omf_names.specs.NameLaws.{names_tied}
use Rattle.omf_records.specs.Values.{At, Contents, Group, GroupItem}
use Rattle.omf_check.specs.Tables.{groups, entry}
use Rattle.omf_placement.specs.Derive.{PlacedModule}
use Rattle.omf_placement.specs.declared.frame.Frame.{Frame}
use Rattle.omf_output.specs.Inner.GroupFrames.{HasMore, IsFrameTable, Key, key_cmp}
use Rattle.omf_output.specs.Near.{GroupFrame, first_base, frame_of, group_frame, group_frames, is_for, member_frames}
use Rattle.omf_output.proofs.LowLaws.{next-entry}

abbrev pub Map : Type 0
Map = BTreeMap Key ℕ

-- Two keys are equal or not.
tied-then : (o p : Ordering) → is_eq (ordering_then o p) ≡ (is_eq o && is_eq p)
tied-then Less p = refl
tied-then Equal p = refl
tied-then Greater p = refl

keys-tied : (x y : Key) → is_eq (key_cmp x y) ≡ (bytes_eq x.0.now y.0.now && bytes_eq x.1.now y.1.now)
keys-tied x y = tied-then (name_cmp x.0.now y.0.now) (name_cmp x.1.now y.1.now) ∙ ap₂ (λ a b. a && b) (sym (names_tied x.0.now y.0.now)) (sym (names_tied x.1.now y.1.now))

same : (x y : List ℕ) → bytes_eq x y ≡ true → x ≡ y
same x y e = (bytes_eq-Decides x y).0 e

-- What a table has depends on the bytes of a key alone.
at-bytes : (m : Map) (x y : Key) → x.0.now ≡ y.0.now → x.1.now ≡ y.1.now → get key_cmp m x ≡ get key_cmp m y
at-bytes m x y e f = ap₂ (λ a b. get_by (λ (k : Key). ordering_then (name_cmp a k.0.now) (name_cmp b k.1.now)) m) e f

or-none : {A : Type 0} (o : Option A) → option_or o None ≡ o
or-none None = refl
or-none (Some x) = refl

map-or : {A B : Type 0} (f : A → B) (o p : Option A) → option_map f (option_or o p) ≡ option_or (option_map f o) (option_map f p)
map-or f None p = refl
map-or f (Some x) p = refl

-- One more group.
module _ (k : Key) (base : ℕ) (xs : List GroupFrame) where
  abbrev x : GroupFrame
  x = frame_of base (k.0.now, k.1.now)

  abbrev found : Key → List GroupFrame → Option ℕ
  found q ys = first_base ys (q.0.now, q.1.now)

  push : (q : Key) → found q (xs ++ x ∷ []) ≡ option_or (found q xs) (found q (x ∷ []))
  push q = ap (option_map (λ (y : GroupFrame). y.base)) (find-append (is_for (q.0.now, q.1.now)) xs (x ∷ [])) ∙ map-or (λ (y : GroupFrame). y.base) (find (is_for (q.0.now, q.1.now)) xs) (find (is_for (q.0.now, q.1.now)) (x ∷ []))

  abbrev is_here : Key → Bool
  is_here q = bytes_eq k.0.now q.0.now && bytes_eq k.1.now q.1.now

  here : (q : Key) → is_here q ≡ true → found q (x ∷ []) ≡ Some base
  here q e = ap (λ t. option_map (λ (y : GroupFrame). y.base) (cond t (Some x) None)) e

  elsewhere : (q : Key) → is_here q ≡ false → found q (xs ++ x ∷ []) ≡ found q xs
  elsewhere q e = push q ∙ ap (λ t. option_or (found q xs) (option_map (λ (y : GroupFrame). y.base) (cond t (Some x) None))) e ∙ or-none (found q xs)

  moved-key : (m : Map) (q : Key) → is_here q ≡ true → get key_cmp m q ≡ get key_cmp m k
  moved-key m q t =
      let s = and_parts (bytes_eq k.0.now q.0.now) (bytes_eq k.1.now q.1.now) t in
      at-bytes m q k (sym (same k.0.now q.0.now s.0)) (sym (same k.1.now q.1.now s.1))

  -- The table has one for these names.
  pub again : (m : Map) (p : ℕ) → get key_cmp m k ≡ Some p → IsFrameTable m xs → IsFrameTable m (xs ++ x ∷ [])
  again m p e h q = elim (cases_Bool (is_here q)) [
    | inl t ↦
        let there = moved-key m q t ∙ e in
        there ∙ sym (push q ∙ ap (λ o. option_or o (found q (x ∷ []))) (sym (h q) ∙ there))
    | inr t ↦ h q ∙ sym (elsewhere q t)
  ]

  -- It is the first with its names.
  pub first : (m n : Map) → get key_cmp m k ≡ None → Updates key_cmp m n k (Some base) → IsFrameTable m xs → IsFrameTable n (xs ++ x ∷ [])
  first m n e u h q = elim (cases_Bool (is_here q)) [
    | inl t ↦
        let none = moved-key m q t ∙ e in
        u.0 q ∙ cond-true (is_eq (key_cmp k q)) (Some base) (get key_cmp m q) (keys-tied k q ∙ t)
        ∙ sym (push q ∙ ap₂ (λ o p. option_or o p) (sym (h q) ∙ none) (here q t))
    | inr t ↦
        u.0 q ∙ cond-false (is_eq (key_cmp k q)) (Some base) (get key_cmp m q) (keys-tied k q ∙ t)
        ∙ h q ∙ sym (elsewhere q t)
  ]

-- No group more.
pub none-more : (m : Map) (xs : List GroupFrame) → xs ≡ [] → HasMore m m xs
none-more m xs e = subst (HasMore m m) (sym e) (λ ls h. subst (IsFrameTable m) (sym (append-nil ls)) h)

-- An empty map is the table of no groups.
pub fill-empty : (m n : Map) (all : List GroupFrame) → m.entries ≡ [] → HasMore m n all → IsFrameTable n all
fill-empty m n all e g = g [] (λ q. ap (lookup (is_at (key_cmp q))) e)

-- The result of a lookup.
pub looked-none : {A : Type 0} (o : Option (Bor A)) → is_some o ≡ false → option_copied o ≡ None
looked-none None e = refl
looked-none (Some x) e = absurd (true≢false e)

pub looked-some : {A : Type 0} (o : Option (Bor A)) → is_some o ≡ true → (p : A) × (option_copied o ≡ Some p)
looked-some None e = absurd (false≢true e)
looked-some (Some x) e = (x.now, refl)

-- A key of two names is these names.
abbrev pub Names : Type 0
Names = List ℕ × List ℕ

abbrev pub names_of : Key → Names
names_of k = (k.0.now, k.1.now)

pub by-names : (k n : Key) (base : ℕ) (old new : Map) → k.0 ≡ n.0 → k.1 ≡ n.1 → HasMore old new (frame_of base (names_of k) ∷ []) → HasMore old new (frame_of base (names_of n) ∷ [])
by-names k n base old new e f h = subst (λ x. HasMore old new (x ∷ [])) (ap₂ (λ (a b : Bor (List ℕ)). frame_of base (a.now, b.now)) e f) h

-- What a table of groups has for the names of a segment.
pub base-found : (m : Map) (all : List GroupFrame) (k n : Key) (names : Option Names) → IsFrameTable m all → k.0 ≡ n.0 → k.1 ≡ n.1 → Some (names_of n) ≡ names
    → get key_cmp m k ≡ option_and_then (first_base all) names
base-found m all k n names h e f is = h k ∙ ap₂ (λ (a b : Bor (List ℕ)). first_base all (a.now, b.now)) e f ∙ ap (option_and_then (first_base all)) is

-- The members of a group of a module.
abbrev pub frames_seen : PlacedModule → ℕ → Contents → List GroupFrame
frames_seen m i (Group g) = group_frames m (i, g)
frames_seen m i _ = []

pub in-frame : (P : List GroupFrame → Type 0) (m : PlacedModule) (i : ℕ) (f : Frame) (c : Contents) (name : At ℕ) (ms : List (At (At ℕ))) (g : GroupItem) → c ≡ Group (record { name = name; members = ms }) → c ≡ Group g
    → entry m.1.groups i ≡ Some f → P (filter_map (λ x. group_frame m.0 f.base x.item.item) ms) → P (group_frames m (i, g))
in-frame P m i f c name ms g told is e p =
    let here : GroupItem = record { name = name; members = ms } in
    subst P (sym (ap (λ o. option_map_or (member_frames m.0 here) o []) e) ∙ ap (frames_seen m i) (sym told ∙ is)) p

pub no-frame : (m : PlacedModule) (i : ℕ) (g : GroupItem) → entry m.1.groups i ≡ None → group_frames m (i, g) ≡ []
no-frame m i g e = ap (λ o. option_map_or (member_frames m.0 g) o []) e

-- The groups of a module that are left, with one more.
pub groups-split : (m : PlacedModule) (j : ℕ) (g : GroupItem) → entry (groups m.0) (j + 1) ≡ Some g
    → flat_map (group_frames m) (enumerate_from (j + 1) (drop j (groups m.0))) ≡ group_frames m (j + 1, g) ++ flat_map (group_frames m) (enumerate_from (j + 1 + 1) (drop (j + 1) (groups m.0)))
groups-split m j g e = ap (λ gs. flat_map (group_frames m) (enumerate_from (j + 1) gs)) (next-entry (groups m.0) j g e)

-- The members of a group that are left, with one more.
pub member-split : {A B : Type 0} (f : A → Option B) (left rest : List A) (a : A) → left ≡ a ∷ rest → filter_map f left ≡ option_to_list (f a) ++ filter_map f rest
member-split f left rest a e = ap (filter_map f) e ∙ split (f a)
  where
    split : (o : Option _) → cons_option o (filter_map f rest) ≡ option_to_list o ++ filter_map f rest
    split None = refl
    split (Some y) = refl
