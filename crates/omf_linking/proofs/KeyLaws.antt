-- Tables of texts, and the keys of the entries of a module.
use Rattle.std.proofs.Common.{◌≡◌, ℕ, zero, suc, ◌+◌, ◌-◌, ◌<◌, ◌≤◌, Bool, true, false, ◌&&◌, List, [], ◌∷◌, ◌++◌, length, drop, get_or, refl, sym, ap, ap₂, ◌∙◌, inl, inr, append_assoc, append-nil, arith, Bor, cond}
use Rattle.std.specs.Prelude.{String, map, string_bytes, Option, Some, None, is_some, unwrap_or, bytes_eq, ◌||◌, slice_get, nat_le, if◌then◌else◌}
use Rattle.std.specs.BTreeMap.{BTreeMap, get_by, is_at}
use Rattle.std.specs.List.{range_with_len}
use Rattle.std.specs.Map.{lookup}
use Rattle.std.proofs.Math.Seq.{drop-cons, drop-nil}
use Rattle.std.proofs.lemmas.Bool.{cond-true, cond-false, cases_Bool, false≢true, le-leb}
use Rattle.std.proofs.lemmas.List.{length-map, drop_all, get_or-map}
use Rattle.std.proofs.lemmas.List.FromFn.{get_or-map-range_with_len, length-map-range_with_len}
use Rattle.std.proofs.lemmas.Option.{slice_get-get_or}
use Rattle.std.proofs.lemmas.Slice.Eq.{bytes_eq-Decides}
use Rattle.omf_names.specs.Names.{name_cmp}
use Rattle.omf_names.proofs.NameTables.{IsUpdated}
use Rattle.omf_records.specs.Values.{Rec}
use Rattle.omf_check.specs.Module.{Module, records_in, typed_modules}
use Rattle.omf_check.specs.Tables.{entry}
use Rattle.omf_check.specs.WellFormed.{recs}
use Rattle.omf_placement.specs.Quoted.{quoted}
use Rattle.omf_placement.proofs.ListLaws.{entry-at}
use Rattle.omf_reloc.specs.declared.fault.Kind.{Kind}
use Rattle.omf_reloc.specs.declared.fault.Kind.TheVariants as kinds
use Rattle.omf_linking.specs.Locator.KeyForms.{IsTextTable, form_by, has_text, is_repeated, key_form, module_texts, owns}
use Rattle.omf_linking.specs.Inner.Forms.{AreKeys}
use Rattle.omf_reloc.specs.Reach.{entries}
use Rattle.omf_linking.specs.Locator.Keys.{entry_name, module_name}
use Rattle.omf_linking.specs.declared.locator.forms.KeyForm.TheVariants as form

-- ---- texts in a list

or-assoc : (a b c : Bool) → (a || (b || c)) ≡ ((a || b) || c)
or-assoc true b c = refl
or-assoc false b c = refl

has-more : (xs ys : List (List ℕ)) (text : List ℕ) → has_text (xs ++ ys) text ≡ (has_text xs text || has_text ys text)
has-more [] ys text = refl
has-more (x ∷ xs) ys text = ap (λ b. bytes_eq x text || b) (has-more xs ys text) ∙ or-assoc (bytes_eq x text) (has_text xs text) (has_text ys text)

-- ---- the modules that are left

pub next-one : (ms : List Module) (j : ℕ) (m : Module) → m ≡ get_or ms j m → j < length ms → typed_modules (drop j ms) ≡ recs (records_in m.bytes) ∷ typed_modules (drop (j + 1) ms)
next-one [] j m e h = absurd (omega (arith, h))
next-one (x ∷ ms) zero m e h = ap (λ (y : Module). recs (records_in y.bytes) ∷ typed_modules ms) (sym e)
next-one (x ∷ ms) (suc j) m e h =
    let same : suc (j + 1) ≡ suc j + 1 = omega arith in
    next-one ms j m e (omega (arith, h)) ∙ ap (λ n. recs (records_in m.bytes) ∷ typed_modules (drop n (x ∷ ms))) same

pub none-left : (ms : List Module) (j : ℕ) → length ms ≤ j → typed_modules (drop j ms) ≡ []
none-left [] j h = ap typed_modules (drop-nil j)
none-left (x ∷ ms) zero h = absurd (omega (arith, h))
none-left (x ∷ ms) (suc j) h = none-left ms j (omega (arith, h))

-- ---- a table of texts

abbrev pub Texts : Type 0
Texts = BTreeMap (Bor (List ℕ)) Bool

abbrev pub kept_of : Texts → List ℕ → Option Bool
kept_of m text = get_by (λ k. name_cmp text k.now) m

-- What a table has for a text that is there or not, and repeated or not.
abbrev kept : Bool → Bool → Option Bool
kept there again = if there then Some again else None

repeated-is-there : (xs : List (List ℕ)) (text : List ℕ) → is_repeated xs text ≡ true → has_text xs text ≡ true
repeated-is-there [] text h = h
repeated-is-there (x ∷ xs) text h = by (bytes_eq x text) (has_text xs text) (is_repeated xs text) (repeated-is-there xs text) h where
  by : (b there again : Bool) → (again ≡ true → there ≡ true) → (if b then there else again) ≡ true → (b || there) ≡ true
  by true there again f e = refl
  by false there again f e = f e

repeated-more : (xs : List (List ℕ)) (x text : List ℕ) → is_repeated (xs ++ x ∷ []) text ≡ (is_repeated xs text || (bytes_eq x text && has_text xs text))
repeated-more [] x text = none (bytes_eq x text) where
  none : (b : Bool) → (if b then false else false) ≡ (false || (b && false))
  none true = refl
  none false = refl
repeated-more (y ∷ xs) x text =
    ap₂ (λ a b. if bytes_eq y text then a else b) (has-more xs (x ∷ []) text) (repeated-more xs x text)
    ∙ by (bytes_eq y text) (bytes_eq x text) (has_text xs text) (is_repeated xs text) where
      by : (a b there again : Bool) → (if a then (there || (b || false)) else (again || (b && there))) ≡ ((if a then there else again) || (b && (a || there)))
      by true true true again = refl
      by true true false again = refl
      by true false true again = refl
      by true false false again = refl
      by false b there again = refl

one-more-kept : (b there again : Bool) → (again ≡ true → there ≡ true) → kept (there || (b || false)) (again || (b && there)) ≡ cond b (Some there) (kept there again)
one-more-kept true true true f = refl
one-more-kept true true false f = refl
one-more-kept true false true f = absurd (false≢true (f refl))
one-more-kept true false false f = refl
one-more-kept false true true f = refl
one-more-kept false true false f = refl
one-more-kept false false again f = refl

some-kept : (there again : Bool) → is_some (kept there again) ≡ there
some-kept true again = refl
some-kept false again = refl

pub text-more : (m n : Texts) (x : List ℕ) (v : Bool) → v ≡ is_some (kept_of m x) → IsUpdated x m n (Some v)
    → (texts : List (List ℕ)) → IsTextTable m texts → IsTextTable n (texts ++ x ∷ [])
text-more m n x v e u texts h text =
    let there = has_text texts text in
    let again = is_repeated texts text in
    let b = bytes_eq x text in
    let after : kept (has_text (texts ++ x ∷ []) text) (is_repeated (texts ++ x ∷ []) text) ≡ cond b (Some there) (kept there again)
    = ap₂ kept (has-more texts (x ∷ []) text) (repeated-more texts x text) ∙ one-more-kept b there again (repeated-is-there texts text) in
    let was : v ≡ has_text texts x = e ∙ ap is_some (h x) ∙ some-kept (has_text texts x) (is_repeated texts x) in
    let same : cond b (Some v) (kept_of m text) ≡ cond b (Some there) (kept there again) = elim (cases_Bool b) [
      | inl t ↦
          cond-true b (Some v) (kept_of m text) t ∙ ap Some (was ∙ ap (has_text texts) ((bytes_eq-Decides x text).0 t)) ∙ sym (cond-true b (Some there) (kept there again) t)
      | inr t ↦ cond-false b (Some v) (kept_of m text) t ∙ h text ∙ sym (cond-false b (Some there) (kept there again) t)
    ] in
    u text ∙ same ∙ sym after

pub kept-repeated : (m : Texts) (text : List ℕ) (texts : List (List ℕ)) → IsTextTable m texts → unwrap_or (kept_of m text) false ≡ is_repeated texts text
kept-repeated m text texts h = ap (λ o. unwrap_or o false) (h text) ∙ by (has_text texts text) (is_repeated texts text) (repeated-is-there texts text) where
  by : (there again : Bool) → (again ≡ true → there ≡ true) → unwrap_or (kept there again) false ≡ again
  by true again f = refl
  by false true f = absurd (false≢true (f refl))
  by false false f = refl

pub empty-table : (m : Texts) → m.entries ≡ [] → IsTextTable m []
empty-table m e text = ap (λ xs. lookup (is_at (λ k. name_cmp text k.now)) xs) e

-- ---- lists that grow from the left

module _ {A B : Type 0} (f : A → B) where
  pub next-mapped : (xs : List A) (j : ℕ) (x : A) → x ≡ get_or xs j x → j < length xs → map f (drop j xs) ≡ f x ∷ map f (drop (j + 1) xs)
  next-mapped xs j x e low =
      let next : suc j ≡ j + 1 = omega arith in
      ap (map f) (drop-cons xs j x low ∙ ap (λ y. y ∷ drop (suc j) xs) (sym e)) ∙ ap (λ k. f x ∷ map f (drop k xs)) next

  pub none-mapped : (xs : List A) (j : ℕ) → length xs ≤ j → map f (drop j xs) ≡ []
  none-mapped xs j h = ap (map f) (drop_all j xs h)

module _ {A : Type 0} (f : ℕ → A) where
  pub more-made : (old new all : List A) (x : A) (k n : ℕ) → k < n → x ≡ f (k + 1) → new ≡ old ++ x ∷ [] → old ++ map f (range_with_len (k + 1) (n - k)) ≡ all → new ++ map f (range_with_len (k + 1 + 1) (n - (k + 1))) ≡ all
  more-made old new all x k n h e g whole =
      let next : n - k ≡ suc (n - (k + 1)) = omega arith in
      ap (λ xs. xs ++ map f (range_with_len (k + 1 + 1) (n - (k + 1)))) (g ∙ ap (λ y. old ++ y ∷ []) e)
      ∙ append_assoc old (f (k + 1) ∷ []) (map f (range_with_len (k + 1 + 1) (n - (k + 1))))
      ∙ ap (λ j. old ++ map f (range_with_len (k + 1) j)) (sym next) ∙ whole

  pub all-made : (old all : List A) (k n : ℕ) → n ≤ k → old ++ map f (range_with_len (k + 1) (n - k)) ≡ all → old ≡ all
  all-made old all k n h whole =
      let none : n - k ≡ 0 = omega arith in
      sym (append-nil old) ∙ ap (λ j. old ++ map f (range_with_len (k + 1) j)) (sym none) ∙ whole

-- The k-th of a list that is made of indices.
pub made-at : {A B : Type 0} (g : A → B) (f : ℕ → B) (xs : List A) (n k : ℕ) (x : A) → map g xs ≡ map f (range_with_len 1 n) → x ≡ get_or xs k x → k < n → g x ≡ f (k + 1)
made-at g f xs n k x e here low =
    let many : length xs ≡ n = sym (length-map xs g) ∙ ap length e ∙ length-map-range_with_len f 1 n in
    ap g here ∙ sym (get_or-map g xs k x (g x) (omega (arith, low, many))) ∙ ap (λ ys. get_or ys k (g x)) e ∙ get_or-map-range_with_len f 1 n k (k + 1) (g x) low (omega arith)

pub as-many-made : {A B : Type 0} (g : A → B) (f : ℕ → B) (xs : List A) (n : ℕ) → map g xs ≡ map f (range_with_len 1 n) → length xs ≡ n
as-many-made g f xs n e = sym (length-map xs g) ∙ ap length e ∙ length-map-range_with_len f 1 n

-- The entry of such a list with an index.
pub made-entry : (f : ℕ → Bool) (n i : ℕ) → 1 ≤ i → i ≤ n → unwrap_or (entry (map f (range_with_len 1 n)) i) false ≡ f i
made-entry f n i low high =
    let xs = map f (range_with_len 1 n) in
    let within : i - 1 < n = omega (arith, low, high) in
    let many : i - 1 < length xs = omega (arith, within, length-map-range_with_len f 1 n) in
    ap (λ b. unwrap_or (cond b (slice_get xs (i - 1)) None) false) (le-leb 1 i low)
    ∙ ap (λ o. unwrap_or o false) (slice_get-get_or xs (i - 1) false many)
    ∙ get_or-map-range_with_len f 1 n (i - 1) i false within (omega (arith, low))

-- ---- keys

pub no-entry : (i : ℕ) → unwrap_or (entry {A = Bool} [] i) false ≡ false
no-entry i = by (nat_le 1 i) where
  by : (b : Bool) → unwrap_or (cond b (slice_get {X = Bool} [] (i - 1)) None) false ≡ false
  by true = refl
  by false = refl

and-false : (a b : Bool) → ((a && false) && b) ≡ false
and-false true b = refl
and-false false b = refl

-- Groups and externals have no class.
pub no-group-class : (m : List Rec) (i : ℕ) → owns m kinds.Group form.OfClass i ≡ false
no-group-class m i = and-false (is_some (entry_name m kinds.Group i)) _

pub no-external-class : (m : List Rec) (i : ℕ) → owns m kinds.External form.OfClass i ≡ false
no-external-class m i = and-false (is_some (entry_name m kinds.External i)) _

-- The form of a key.
pub form-of : (m : List Rec) (kind : Kind) (by_name by_class : List Bool) (i : ℕ) → AreKeys m kind by_name by_class → 1 ≤ i → i ≤ entries m kind → form_by (unwrap_or (entry by_name i) false) (unwrap_or (entry by_class i) false) ≡ key_form m kind i
form-of m kind by_name by_class i h low high = ap₂ form_by (h.names i low high) (h.classes i low high)

-- ---- one value more in front of those that are left

module _ {A : Type 0} where
  pub more-in : (old new : List A) (x : A) (rest left all : List A) → new ≡ old ++ x ∷ [] → left ≡ x ∷ rest → old ++ left ≡ all → new ++ rest ≡ all
  more-in old new x rest left all e f h = ap (λ t. t ++ rest) e ∙ append_assoc old (x ∷ []) rest ∙ ap (λ t. old ++ t) (sym f) ∙ h

  pub all-in : (now left all : List A) → left ≡ [] → now ++ left ≡ all → now ≡ all
  all-in now left all e h = sym (append-nil now) ∙ ap (λ t. now ++ t) (sym e) ∙ h

-- An entry that is there.
slice-here : {A : Type 0} (xs : List A) (j : ℕ) → j < length xs → (x : A) × (slice_get xs j ≡ Some x)
slice-here [] j h = absurd (omega (arith, h))
slice-here (x ∷ xs) zero h = (x, refl)
slice-here (x ∷ xs) (suc j) h = slice-here xs j (omega (arith, h))

pub entry-here : {A : Type 0} (xs : List A) (j : ℕ) → j < length xs → (x : A) × (entry xs (j + 1) ≡ Some x)
entry-here xs j h = let here = slice-here xs j h in (here.0, entry-at xs j ∙ here.1)

-- The name of the j-th of several modules.
module _ {Y : Type 0} (ms : List Module) (names : List (String Y)) (e : map string_bytes names ≡ module_texts (typed_modules ms)) where
  pub names-there : length names ≡ length ms
  names-there = sym (length-map names string_bytes) ∙ ap length e ∙ length-map (typed_modules ms) (λ m. quoted (module_name m)) ∙ length-map ms (λ (m : Module). recs (records_in m.bytes))

  pub named-at : (j : ℕ) (x : String Y) (here : Module) → x ≡ get_or names j x → here ≡ get_or ms j here → j < length ms → string_bytes x ≡ quoted (module_name (recs (records_in here.bytes)))
  named-at j x here a b low =
      let typed : Module → List Rec = λ k. recs (records_in k.bytes) in
      let say : List Rec → List ℕ = λ m. quoted (module_name m) in
      ap string_bytes a ∙ sym (get_or-map string_bytes names j x (string_bytes x) (omega (arith, low, names-there)))
      ∙ ap (λ ys. get_or ys j (string_bytes x)) e
      ∙ get_or-map say (typed_modules ms) j (typed here) (string_bytes x) (omega (arith, low, length-map ms typed))
      ∙ ap say (get_or-map typed ms j here (typed here) low ∙ ap typed (sym b))
