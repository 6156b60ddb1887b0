-- A table of names grows name by name.
use Rattle.std.proofs.Common.{◌≡◌, ℕ, zero, suc, ◌+◌, ◌<◌, ◌≤◌, Bool, true, false, List, [], ◌∷◌, ◌++◌, length, drop, get_or, refl, sym, ap, ◌∙◌, subst, inl, inr, append-nil, arith, Bor}
use Rattle.std.specs.Prelude.{flat_map, Option, Some, is_some, bytes_eq, ◌||◌, cond}
use Rattle.std.proofs.Math.Seq.{drop-nil}
use Rattle.std.specs.BTreeMap.{BTreeMap, get_by, is_at}
use Rattle.std.specs.Map.{lookup}
use Rattle.std.proofs.lemmas.Bool.{cond-true, cond-false, cases_Bool, not_from_false, true≢false}
use Rattle.std.proofs.lemmas.Slice.Eq.{bytes_eq-Decides}
use Rattle.omf_names.specs.Names.{name_cmp}
use Rattle.omf_names.proofs.NameTables.{IsUpdated}
use Rattle.omf_frame.specs.Framing.{Raw, raw_bytes}
use Rattle.omf_frame.specs.Types.{is_local}
use Rattle.omf_frame.specs.declared.fault.Place.{Place}
use Rattle.omf_records.specs.Inner.Reading.{typed}
use Rattle.omf_records.specs.Values.{Rec, Contents, Publics}
use Rattle.omf_check.specs.Inner.Contents.{publics_seen}
use Rattle.omf_check.specs.Inner.Known.{holds_publics}
use Rattle.omf_check.specs.Listed.{placed_from}
use Rattle.omf_check.specs.declared.contents.Publics.{Publics as CodePublics}
use Rattle.omf_check.specs.Module.{Module, records_in, typed_modules}
use Rattle.omf_check.specs.WellFormed.{recs}
use Rattle.omf_externals.specs.Names.{AreApart, count_of, names_asked, names_in, names_of, public_names, has_name, IsNameTable, HasMore}
use Rattle.omf_externals.specs.declared.names.NameTable.{NameTable}

abbrev pub Map : Type 0
Map = BTreeMap (Bor (List ℕ)) (Unit {0})

abbrev pub found_at : Map → List ℕ → Option (Unit {0})
found_at m name = get_by (λ k. name_cmp name k.now) m

or-assoc : (a b c : Bool) → (a || (b || c)) ≡ ((a || b) || c)
or-assoc true b c = refl
or-assoc false b c = refl

or-false : (a : Bool) → (a || false) ≡ a
or-false true = refl
or-false false = refl

or-true : (a : Bool) → (a || true) ≡ true
or-true true = refl
or-true false = refl

has-more : (xs ys : List (List ℕ)) (name : List ℕ) → has_name (xs ++ ys) name ≡ (has_name xs name || has_name ys name)
has-more [] ys name = refl
has-more (x ∷ xs) ys name = ap (λ b. bytes_eq x name || b) (has-more xs ys name) ∙ or-assoc (bytes_eq x name) (has_name xs name) (has_name ys name)

-- ---- how often a name is there

none-counted : (xs : List (List ℕ)) (name : List ℕ) → has_name xs name ≡ false → count_of xs name ≡ 0
none-counted [] name h = refl
none-counted (x ∷ xs) name h = elim (cases_Bool (bytes_eq x name)) [
  | inl t ↦ absurd (true≢false (sym (ap (λ b. b || has_name xs name) t) ∙ h))
  | inr f ↦ cond-false (bytes_eq x name) (suc (count_of xs name)) (count_of xs name) f ∙ none-counted xs name (sym (ap (λ b. b || has_name xs name) f) ∙ h)
]

count-more : (xs : List (List ℕ)) (x name : List ℕ) → count_of (xs ++ x ∷ []) name ≡ count_of xs name + cond (bytes_eq x name) 1 0
count-more [] x name =
    let same : (n : ℕ) → n ≡ 0 + n = λ n. omega arith in
    same (cond (bytes_eq x name) 1 0)
count-more (y ∷ xs) x name =
    let more : count_of (xs ++ x ∷ []) name ≡ count_of xs name + cond (bytes_eq x name) 1 0 = count-more xs x name in
    elim (cases_Bool (bytes_eq y name)) [
      | inl t ↦
          let left : count_of (y ∷ xs ++ x ∷ []) name ≡ suc (count_of (xs ++ x ∷ []) name) = cond-true (bytes_eq y name) (suc (count_of (xs ++ x ∷ []) name)) (count_of (xs ++ x ∷ []) name) t in
          let right : count_of (y ∷ xs) name ≡ suc (count_of xs name) = cond-true (bytes_eq y name) (suc (count_of xs name)) (count_of xs name) t in
          omega (arith, left, right, more)
      | inr f ↦
          let left : count_of (y ∷ xs ++ x ∷ []) name ≡ count_of (xs ++ x ∷ []) name = cond-false (bytes_eq y name) (suc (count_of (xs ++ x ∷ []) name)) (count_of (xs ++ x ∷ []) name) f in
          let right : count_of (y ∷ xs) name ≡ count_of xs name = cond-false (bytes_eq y name) (suc (count_of xs name)) (count_of xs name) f in
          omega (arith, left, right, more)
    ]

still-apart : (xs : List (List ℕ)) (x : List ℕ) → AreApart xs → has_name xs x ≡ false → AreApart (xs ++ x ∷ [])
still-apart xs x h none name = elim (cases_Bool (bytes_eq x name)) [
  | inl b ↦
      let here : count_of xs name ≡ 0 = none-counted xs name (subst (λ n. has_name xs n ≡ false) ((bytes_eq-Decides x name).0 b) none) in
      let more : count_of (xs ++ x ∷ []) name ≡ count_of xs name + 1 = count-more xs x name ∙ ap (λ c. count_of xs name + cond c 1 0) b in
      omega (arith, here, more)
  | inr b ↦
      let most : count_of xs name ≤ 1 = h name in
      let more : count_of (xs ++ x ∷ []) name ≡ count_of xs name + 0 = count-more xs x name ∙ ap (λ c. count_of xs name + cond c 1 0) b in
      omega (arith, most, more)
]

-- ---- one more name

found-more : (m n : Map) (x : List ℕ) (v : Unit {0}) → IsUpdated x m n (Some v) → (names : List (List ℕ)) → ((name : List ℕ) → is_some (found_at m name) ≡ has_name names name)
    → (name : List ℕ) → is_some (found_at n name) ≡ has_name (names ++ x ∷ []) name
found-more m n x v u names h name = elim (cases_Bool (bytes_eq x name)) [
  | inl b ↦
      ap is_some (u name ∙ cond-true (bytes_eq x name) (Some v) (found_at m name) b)
      ∙ sym (or-true (has_name names name)) ∙ ap (λ t. has_name names name || (t || false)) (sym b) ∙ sym (has-more names (x ∷ []) name)
  | inr b ↦
      ap is_some (u name ∙ cond-false (bytes_eq x name) (Some v) (found_at m name) b)
      ∙ h name ∙ sym (or-false (has_name names name)) ∙ ap (λ t. has_name names name || (t || false)) (sym b) ∙ sym (has-more names (x ∷ []) name)
]

module _ (t : NameTable) (n : Map) (x : List ℕ) (v : Unit {0}) (old : Option (Unit {0})) (was : old ≡ found_at t.names x) (u : IsUpdated x t.names n (Some v)) where
  pub one-new : is_some old ≡ false → HasMore t (record { names = n; repeats = t.repeats }) (x ∷ [])
  one-new e names h = record {
    found = found-more t.names n x v u names h.found;
    apart = λ r. still-apart names x (h.apart r) (sym (h.found x) ∙ ap is_some (sym was) ∙ e);
  }

  pub one-again : HasMore t (record { names = n; repeats = true }) (x ∷ [])
  one-again names h = record { found = found-more t.names n x v u names h.found; apart = λ r. absurd (true≢false r) }

-- An empty table has no names.
pub fill-empty : (t u : NameTable) (all : List (List ℕ)) → t.names.entries ≡ [] → HasMore t u all → IsNameTable u all
fill-empty t u all e g = g [] (record {
  found = λ name. ap (λ xs. is_some (lookup (is_at (λ k. name_cmp name k.now)) xs)) e;
  apart = λ r name. omega arith;
})

-- No further name.
pub none_more : (t : NameTable) (xs : List (List ℕ)) → xs ≡ [] → HasMore t t xs
none_more t xs e = subst (HasMore t t) (sym e) (λ names h. subst (IsNameTable t) (sym (append-nil names)) h)

-- A record without such publics has no such names.
neither : (b : Bool) (xs : List (List ℕ)) → cond b xs xs ≡ xs
neither true xs = refl
neither false xs = refl

pub none_asked : (local : Bool) (kind : ℕ) (c : Contents) → holds_publics local kind c ≡ false → names_asked local kind c ≡ []
none_asked true kind (Publics p) h = cond-false (is_local kind) (names_of p.items) [] h
none_asked true kind _ h = neither (is_local kind) []
none_asked false kind (Publics p) h = elim (cases_Bool (is_local kind)) [
  | inl t ↦ cond-true (is_local kind) [] (names_of p.items) t
  | inr f ↦ absurd (true≢false (sym (not_from_false (is_local kind) f) ∙ h))
]
none_asked false kind _ h = neither (is_local kind) []

-- The names of a record's publics, if it has them.
pub asked-seen : (local : Bool) (p : CodePublics) (r : Rec) → publics_seen local p ≡ r → is_local r.kind ≡ local → names_asked local r.kind r.contents ≡ names_of p.items
asked-seen true p r e l = cond-true (is_local r.kind) (names_in r.contents) [] l ∙ ap (λ (x : Rec). names_in x.contents) (sym e)
asked-seen false p r e l = cond-false (is_local r.kind) [] (names_in r.contents) l ∙ ap (λ (x : Rec). names_in x.contents) (sym e)

-- The names of the records with their places.
abbrev pub listed_names : Bool → List (Place × Rec) → List (List ℕ)
listed_names local xs = flat_map (λ x. names_asked local x.1.kind x.1.contents) xs

pub listed-names : (local : Bool) (number start : ℕ) (rs : List Raw) → listed_names local (placed_from number start rs) ≡ public_names local (recs rs)
listed-names local number start [] = refl
listed-names local number start (r ∷ rs) = ap (λ xs. names_asked local r.kind (typed r).contents ++ xs) (listed-names local (number + 1) (start + length (raw_bytes r)) rs)

-- The next module.
pub next-one : (ms : List Module) (j : ℕ) (m : Module) → m ≡ get_or ms j m → j < length ms → typed_modules (drop j ms) ≡ recs (records_in m.bytes) ∷ typed_modules (drop (j + 1) ms)
next-one [] j m e h = absurd (omega (arith, h))
next-one (x ∷ ms) zero m e h = ap (λ (y : Module). recs (records_in y.bytes) ∷ typed_modules ms) (sym e)
next-one (x ∷ ms) (suc j) m e h =
    let same : suc (j + 1) ≡ suc j + 1 = omega arith in
    next-one ms j m e (omega (arith, h)) ∙ ap (λ n. recs (records_in m.bytes) ∷ typed_modules (drop n (x ∷ ms))) same

pub none-left : (ms : List Module) (j : ℕ) → length ms ≤ j → typed_modules (drop j ms) ≡ []
none-left [] j h = ap typed_modules (drop-nil j)
none-left (x ∷ ms) zero h = absurd (omega (arith, h))
none-left (x ∷ ms) (suc j) h = none-left ms j (omega (arith, h))
