-- Keys are equal where a page and a name are, and sets of keys.
use native.Mathlib.Omega.{arith}
use Rattle.std.proofs.Common.{◌≡◌, ℕ, ◌+◌, ◌/◌, ◌%◌, ◌<◌, ◌≤◌, ◌==◌, ◌&&◌, ◌||◌, Bool, true, false, not, cond, List, [], ◌∷◌, ◌++◌, map, take, nat_lt, bytes_eq, refl, sym, ap, ap₂, ◌∙◌, subst, inl, inr, append_assoc, append-nil, eq-eqb, eqb-true, length, get_or, lt-ltb, le-ltb, ltb-false, true≢false, Vec, Global, BTreeSet, is_eq, nat_cmp, Result, Ok, Err, OnOk}
use Rattle.std.specs.BTreeSet.{Updates, contains_by}
use Rattle.std.specs.Cmp.Lexicographic.{slice_cmp}
use Rattle.std.specs.List.{list_any}
use Rattle.std.proofs.lemmas.Bool.{cases_Bool}
use Rattle.std.proofs.lemmas.List.{map-append, take_more}
use Rattle.std.proofs.lemmas.List.Folds.{list_any-append}
use Rattle.std.proofs.lemmas.Map.Text.{is_eq-slice_cmp}
use Rattle.omf_library.specs.Dictionary.{folded, is_same_name}
use Rattle.omf_making.specs.Names.{Defined, name_seen, names_seen}
use Rattle.omf_making.specs.declared.names.Defined.{Defined as CodeDefined}
use Rattle.omf_lib.specs.Defining.{Definer, has_defined, is_defined, is_judged, is_of_module, is_undefined}
use Rattle.omf_lib.specs.Keys.{IsKeySet, all_keys, has_key, keys_of, name_key, page_key}

and_false : (b : Bool) → (b && false) ≡ false
and_false true = refl
and_false false = refl

and_true : (b : Bool) → (b && true) ≡ b
and_true true = refl
and_true false = refl

or_false : (b : Bool) → (b || false) ≡ b
or_false true = refl
or_false false = refl

-- Where case counts, the characters that are compared are those of the name.
as_they_are : (name : List ℕ) → map (folded true) name ≡ name
as_they_are [] = refl
as_they_are (c ∷ cs) = ap (λ t. c ∷ t) (as_they_are cs)

pub kept_whole : (old name new : List ℕ) (sensitive : Bool) → sensitive ≡ true → new ≡ old ++ name → new ≡ old ++ map (folded sensitive) name
kept_whole old name new sensitive is e = rw is (e ∙ ap (λ t. old ++ t) (sym (as_they_are name)))

-- Two names are one where the characters that are compared are the same.
same_folded : (s : Bool) (xs ys : List ℕ) → bytes_eq (map (folded s) xs) (map (folded s) ys) ≡ is_same_name s xs ys
same_folded s [] [] = refl
same_folded s [] (y ∷ ys) = refl
same_folded s (x ∷ xs) [] = refl
same_folded s (x ∷ xs) (y ∷ ys) = ap (λ b. (folded s x == folded s y) && b) (same_folded s xs ys)

-- Two pages are one where their two bytes are.
page_itself : (p : ℕ) (b : Bool) → ((p % 256 == p % 256) && ((p / 256 == p / 256) && b)) ≡ ((p == p) && b)
page_itself p b =
    ap (λ c. c && ((p / 256 == p / 256) && b)) (eq-eqb (p % 256) (p % 256) refl) ∙ ap (λ c. c && b) (eq-eqb (p / 256) (p / 256) refl) ∙ sym (ap (λ c. c && b) (eq-eqb p p refl))

same_page : (q p : ℕ) (b : Bool) → ((q % 256 == p % 256) && ((q / 256 == p / 256) && b)) ≡ ((q == p) && b)
same_page q p b = elim (cases_Bool (q == p)) [
  | inl e ↦ subst (λ r. ((q % 256 == r % 256) && ((q / 256 == r / 256) && b)) ≡ ((q == r) && b)) (eqb-true q p e) (page_itself q b)
  | inr f ↦ elim (cases_Bool (q % 256 == p % 256)) [
    | inr g ↦ ap (λ c. c && ((q / 256 == p / 256) && b)) g ∙ sym (ap (λ c. c && b) f)
    | inl g ↦ elim (cases_Bool (q / 256 == p / 256)) [
      | inr h ↦ ap₂ (λ c d. c && (d && b)) g h ∙ sym (ap (λ c. c && b) f)
      | inl h ↦
          let low = eqb-true (q % 256) (p % 256) g in
          let high = eqb-true (q / 256) (p / 256) h in
          let same : q ≡ p = omega (arith, low, high) in
          absurd (true≢false (sym (eq-eqb q p same) ∙ f))
    ]
  ]
]

-- The keys of the names of a member have no page's key; and they have a name's key where the member is at its page and has the name.
no_page : (s : Bool) (q p : ℕ) (ns : List Defined) → has_key (map (λ n. name_key s q n.name) ns) (page_key p) ≡ false
no_page s q p [] = refl
no_page s q p (n ∷ ns) = ap₂ (λ b c. b || c) (same_page q p false ∙ and_false (q == p)) (no_page s q p ns)

-- A test that asks first whether the page is right.
any_at : (b : Bool) (s : Bool) (name : List ℕ) (ns : List Defined) → list_any (λ n. b && is_same_name s n.name name) ns ≡ (b && has_defined s ns name)
any_at true s name ns = refl
any_at false s name [] = refl
any_at false s name (n ∷ ns) = any_at false s name ns

named : (s : Bool) (q p : ℕ) (name : List ℕ) (ns : List Defined) → has_key (map (λ n. name_key s q n.name) ns) (name_key s p name) ≡ list_any (λ n. (q == p) && is_same_name s n.name name) ns
named s q p name [] = refl
named s q p name (n ∷ ns) =
    ap₂ (λ b c. b || c) (same_page q p (bytes_eq (map (folded s) n.name) (map (folded s) name)) ∙ ap (λ b. (q == p) && b) (same_folded s n.name name)) (named s q p name ns)

-- A page after 65535 is that of no entry.
other_page : (q p : ℕ) → p < 65536 → nat_lt q 65536 ≡ false → (q == p) ≡ false
other_page q p h f = elim (cases_Bool (q == p)) [
  | inr g ↦ g
  | inl g ↦
      let same = eqb-true q p g in
      let high = ltb-false q 65536 f in
      absurd (omega (arith, same, high, h))
]

member_page : (s : Bool) (d : Definer) (p : ℕ) → p < 65536 → has_key (keys_of s d) (page_key p) ≡ (d.page == p)
member_page s d p h = elim (cases_Bool (nat_lt d.page 65536)) [
  | inl e ↦
      ap (λ b. has_key (cond b (page_key d.page ∷ map (λ n. name_key s d.page n.name) d.names) []) (page_key p)) e
      ∙ ap₂ (λ b c. b || c) (same_page d.page p true ∙ and_true (d.page == p)) (no_page s d.page p d.names) ∙ or_false (d.page == p)
  | inr f ↦ ap (λ b. has_key (cond b (page_key d.page ∷ map (λ n. name_key s d.page n.name) d.names) []) (page_key p)) f ∙ sym (other_page d.page p h f)
]

member_name : (s : Bool) (d : Definer) (p : ℕ) (name : List ℕ) → p < 65536 → has_key (keys_of s d) (name_key s p name) ≡ ((d.page == p) && has_defined s d.names name)
member_name s d p name h = elim (cases_Bool (nat_lt d.page 65536)) [
  | inl e ↦
      ap (λ b. has_key (cond b (page_key d.page ∷ map (λ n. name_key s d.page n.name) d.names) []) (name_key s p name)) e
      ∙ ap₂ (λ b c. b || c) (same_page d.page p false ∙ and_false (d.page == p)) (named s d.page p name d.names ∙ any_at (d.page == p) s name d.names)
  | inr f ↦
      ap (λ b. has_key (cond b (page_key d.page ∷ map (λ n. name_key s d.page n.name) d.names) []) (name_key s p name)) f
      ∙ sym (ap (λ b. b && has_defined s d.names name) (other_page d.page p h f))
]

-- The same of all members.
all_pages : (s : Bool) (p : ℕ) → p < 65536 → (ds : List Definer) → has_key (all_keys s ds) (page_key p) ≡ is_judged ds p
all_pages s p h [] = refl
all_pages s p h (d ∷ ds) = list_any-append (λ k. bytes_eq k (page_key p)) (keys_of s d) (all_keys s ds) ∙ ap₂ (λ b c. b || c) (member_page s d p h) (all_pages s p h ds)

all_names : (s : Bool) (p : ℕ) (name : List ℕ) → p < 65536 → (ds : List Definer) → has_key (all_keys s ds) (name_key s p name) ≡ is_defined s ds p name
all_names s p name h [] = refl
all_names s p name h (d ∷ ds) = list_any-append (λ k. bytes_eq k (name_key s p name)) (keys_of s d) (all_keys s ds) ∙ ap₂ (λ b c. b || c) (member_name s d p name h) (all_names s p name h ds)

-- Whether an entry is in a set of keys.
pub judged_so : (s : Bool) (set : BTreeSet (Vec ℕ Global)) (ds : List Definer) (p : ℕ) (name : List ℕ) (place key : Vec ℕ Global) (is_there is_module is_named : Bool) → p < 65536 → IsKeySet set (all_keys s ds)
    → place.items ≡ page_key p → key.items ≡ name_key s p name → is_there ≡ contains_by (λ k. slice_cmp nat_cmp place.items k.items) set → is_named ≡ contains_by (λ k. slice_cmp nat_cmp key.items k.items) set
    → is_module ≡ is_of_module name → (is_there && (not is_module && not is_named)) ≡ is_undefined s ds p name
judged_so s set ds p name place key is_there is_module is_named low known e f there named modular =
    let a : is_there ≡ is_judged ds p = there ∙ known place ∙ ap (has_key (all_keys s ds)) e ∙ all_pages s p low ds in
    let b : is_named ≡ is_defined s ds p name = named ∙ known key ∙ ap (has_key (all_keys s ds)) f ∙ all_names s p name low ds in
    ap₂ (λ x y. x && (not y && not is_named)) a modular ∙ ap (λ z. is_judged ds p && (not (is_of_module name) && not z)) b

-- One key more.
or_last : (b c : Bool) → cond b true c ≡ (c || (b || false))
or_last true true = refl
or_last true false = refl
or_last false true = refl
or_last false false = refl

pub one_key_more : (old new : BTreeSet (Vec ℕ Global)) (key : Vec ℕ Global) (done : List (List ℕ)) → Updates (λ (x y : Vec ℕ Global). slice_cmp nat_cmp x.items y.items) old new key true → IsKeySet old done
    → IsKeySet new (done ++ key.items ∷ [])
one_key_more old new key done u h q =
    u.0 q ∙ ap₂ (λ b c. cond b true c) (is_eq-slice_cmp key.items q.items) (h q) ∙ or_last (bytes_eq key.items q.items) (has_key done q.items)
    ∙ sym (list_any-append (λ k. bytes_eq k q.items) done (key.items ∷ []))

-- No keys, and keys after keys.
pub no_keys : (set : BTreeSet (Vec ℕ Global)) → set.keys ≡ [] → IsKeySet set []
no_keys set e q = ap (list_any (λ k. is_eq (slice_cmp nat_cmp q.items k.items))) e

pub more_keys : (set : BTreeSet (Vec ℕ Global)) (done first next all : List (List ℕ)) → first ++ next ≡ all → IsKeySet set ((done ++ first) ++ next) → IsKeySet set (done ++ all)
more_keys set done first next all e h = subst (IsKeySet set) (append_assoc done first next ∙ ap (λ ks. done ++ ks) e) h

pub same_keys : (set : BTreeSet (Vec ℕ Global)) (done : List (List ℕ)) → IsKeySet set done → IsKeySet set (done ++ [])
same_keys set done h = subst (IsKeySet set) (sym (append-nil done)) h

-- The keys of names, one more; and of a member.
pub names_next : (f : Defined → List ℕ) (ns : List CodeDefined) (i : ℕ) (d : CodeDefined) (key : List ℕ) → i < length ns → key ≡ f (name_seen (get_or ns i d)) → map f (names_seen (take i ns)) ++ key ∷ [] ≡ map f (names_seen (take (i + 1) ns))
names_next f ns i d key h e =
    ap (λ k. map f (names_seen (take i ns)) ++ k ∷ []) e ∙ sym (map-append f (names_seen (take i ns)) (name_seen (get_or ns i d) ∷ []))
    ∙ ap (map f) (sym (map-append name_seen (take i ns) (get_or ns i d ∷ []))) ∙ ap (λ xs. map f (names_seen xs)) (sym (take_more ns i d h))

pub member_keys : (s : Bool) (page : ℕ) (ns : List Defined) (done : List (List ℕ)) (key : List ℕ) (set : BTreeSet (Vec ℕ Global)) → page < 65536 → key ≡ page_key page
    → IsKeySet set ((done ++ key ∷ []) ++ map (λ n. name_key s page n.name) ns) → IsKeySet set (done ++ keys_of s (record { page = page; names = ns }))
member_keys s page ns done key set low e h =
    more_keys set done (key ∷ []) (map (λ n. name_key s page n.name) ns) (keys_of s (record { page = page; names = ns }))
    (ap (λ k. k ∷ map (λ n. name_key s page n.name) ns) e ∙ sym (ap (λ b. cond b (page_key page ∷ map (λ n. name_key s page n.name) ns) []) (lt-ltb page 65536 low))) h

pub no_member_keys : (s : Bool) (page : ℕ) (ns : List Defined) (done : List (List ℕ)) (set : BTreeSet (Vec ℕ Global)) → 65536 ≤ page → IsKeySet set done → IsKeySet set (done ++ keys_of s (record { page = page; names = ns }))
no_member_keys s page ns done set high h =
    subst (λ ks. IsKeySet set (done ++ ks)) (sym (ap (λ b. cond b (page_key page ∷ map (λ n. name_key s page n.name) ns) []) (le-ltb page 65536 high))) (same_keys set done h)

-- What follows from what an answer has, if there is one.
pub on_ok : {T E : Type 0} {P Q : Type 0} (r : Result T E) → (P → Q) → OnOk r P → OnOk r Q
on_ok (Ok x) f h = f h
on_ok (Err e) f h = h
