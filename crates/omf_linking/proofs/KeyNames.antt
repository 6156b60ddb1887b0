-- The keys of a draft name exactly their entries.
use Rattle.std.proofs.Common.{◌≡◌, ℕ, zero, suc, ◌+◌, ◌<◌, ◌≤◌, Bool, true, false, not, List, [], ◌∷◌, ◌++◌, length, refl, sym, ap, ap₂, subst, ◌∙◌, inl, inr, arith}
use Rattle.std.specs.Prelude.{map, flat_map, filter, Option, Some, None, option_map, is_some, slice_get, Ok, bytes_eq, ◌||◌}
use Rattle.std.specs.List.{range_with_len}
use Rattle.std.proofs.lemmas.Bool.{and_from, cases_Bool, cases_lt, cond-true, cond-false, cond_both, and_parts, eq-eqb, ne_eqb, false≢true}
use Rattle.std.proofs.lemmas.Option.{none-some, same_Some}
use Rattle.std.proofs.lemmas.Slice.Eq.{bytes_eq-Decides}
use Rattle.omf_records.specs.Values.{Rec}
use Rattle.omf_placement.specs.Quoted.{escaped, quoted}
use Rattle.omf_reloc.specs.declared.fault.Kind.{Kind}
use Rattle.omf_reloc.specs.declared.fault.Kind.TheVariants as kinds
use Rattle.omf_linking.specs.Locator.Keys.{class_name, count_from, entry_name, entry_named, is_written, module_name, module_named, names_entry, names_module, the_one}
use Rattle.omf_linking.specs.Locator.LinkEntries.{Named, OfClass, Numbered}
use Rattle.omf_reloc.specs.Reach.{entries}
use Rattle.omf_linking.specs.Locator.KeyForms.{form_by, has_key, has_text, is_repeated, key_form, key_of, key_text, key_texts, key_words, module_key, module_key_by, module_texts, owns, shown, spelled}
use Rattle.omf_linking.proofs.KeyLaws.{no-external-class, no-group-class}
use Rattle.omf_linking.specs.declared.locator.forms.KeyForm.{KeyForm}
use Rattle.omf_linking.specs.declared.locator.forms.KeyForm.TheVariants as form

-- ---- a test that one number passes

pub filter-none : (p : ℕ → Bool) (s n : ℕ) → ((k : ℕ) → s ≤ k → k < s + n → p k ≡ false) → filter p (count_from s n) ≡ []
filter-none p s zero h = refl
filter-none p s (suc n) h =
    cond-false (p s) (s ∷ filter p (count_from (s + 1) n)) (filter p (count_from (s + 1) n)) (h s (omega arith) (omega arith))
    ∙ filter-none p (s + 1) n (λ k low high. h k (omega (arith, low)) (omega (arith, high)))

pub filter-one : (p : ℕ → Bool) (s n i : ℕ) → s ≤ i → i < s + n → p i ≡ true → ((k : ℕ) → s ≤ k → k < s + n → (k ≡ i → ⊥) → p k ≡ false) → filter p (count_from s n) ≡ i ∷ []
filter-one p s zero i low high passes others = absurd (omega (arith, low, high))
filter-one p s (suc n) i low high passes others = elim (cases_lt s i) [
  | inl before ↦
      cond-false (p s) (s ∷ filter p (count_from (s + 1) n)) (filter p (count_from (s + 1) n)) (others s (omega arith) (omega arith) (λ e. absurd (omega (arith, before, e))))
      ∙ filter-one p (s + 1) n i (omega (arith, before)) (omega (arith, high)) passes (λ k l u d. others k (omega (arith, l)) (omega (arith, u)) d)
  | inr after ↦
      let here : s ≡ i = omega (arith, low, after) in
      cond-true (p s) (s ∷ filter p (count_from (s + 1) n)) (filter p (count_from (s + 1) n)) (ap p here ∙ passes)
      ∙ ap (λ xs. s ∷ xs) (filter-none p (s + 1) n (λ k l u. others k (omega (arith, l)) (omega (arith, u)) (λ e. absurd (omega (arith, here, l, e)))))
      ∙ ap (λ x. x ∷ []) here
]

-- ---- a text that two numbers have

or-true : (b : Bool) → (b || true) ≡ true
or-true true = refl
or-true false = refl

module _ (f : ℕ → List ℕ) (text : List ℕ) where
  same : (k : ℕ) → f k ≡ text → bytes_eq (f k) text ≡ true
  same k e = (bytes_eq-Decides (f k) text).1 e

  has-made : (s n k : ℕ) → s ≤ k → k < s + n → f k ≡ text → has_text (map f (range_with_len s n)) text ≡ true
  has-made s zero k low high e = absurd (omega (arith, low, high))
  has-made s (suc n) k low high e = elim (cases_lt s k) [
    | inl before ↦ ap (λ b. bytes_eq (f s) text || b) (has-made (s + 1) n k (omega (arith, before)) (omega (arith, high)) e) ∙ or-true (bytes_eq (f s) text)
    | inr after ↦
        let here : k ≡ s = omega (arith, low, after) in
        ap (λ b. b || has_text (map f (range_with_len (s + 1) n)) text) (same s (ap f (sym here) ∙ e))
  ]

  pub twice-made : (s n i k : ℕ) → s ≤ i → i < k → k < s + n → f i ≡ text → f k ≡ text → is_repeated (map f (range_with_len s n)) text ≡ true
  twice-made s zero i k low next high e g = absurd (omega (arith, low, next, high))
  twice-made s (suc n) i k low next high e g =
      let rest = map f (range_with_len (s + 1) n) in
      let later = has-made (s + 1) n k (omega (arith, low, next)) (omega (arith, high)) g in
      cond_both (bytes_eq (f s) text) (has_text rest text) (is_repeated rest text) (λ b. b ≡ true) (λ t. later)
      (λ t. elim (cases_lt s i) [
        | inl before ↦ twice-made (s + 1) n i k (omega (arith, before)) next (omega (arith, high)) e g
        | inr after ↦ let here : i ≡ s = omega (arith, low, after) in absurd (false≢true (sym t ∙ same s (ap f (sym here) ∙ e)))
      ])

-- ---- the keys of a draft

-- A name that is written so is printed so in quotes.
written : (text : List ℕ) (o : Option (List ℕ)) → is_written text o ≡ true → shown o ≡ 34 ∷ text ++ 34 ∷ []
written text None h = absurd (false≢true h)
written text (Some name) h = ap (λ t. 34 ∷ t ++ 34 ∷ []) (sym ((bytes_eq-Decides text (flat_map escaped name)).0 h))

not-repeated : (b : Bool) → not b ≡ true → b ≡ true → ⊥
not-repeated true h e = absurd (false≢true h)
not-repeated false h e = absurd (false≢true e)

module _ (m : List Rec) (kind : Kind) (i : ℕ) (low : 1 ≤ i) (high : i ≤ entries m kind) where
  -- If another entry had the key's text, it would be repeated.
  no-other : (form : KeyForm) (text : List ℕ) (p : ℕ → Bool) → owns m kind form i ≡ true → key_text m kind form i ≡ text → ((k : ℕ) → p k ≡ true → key_text m kind form k ≡ text)
      → (k : ℕ) → 1 ≤ k → k < 1 + entries m kind → (k ≡ i → ⊥) → p k ≡ false
  no-other form text p own here each k first last other = elim (cases_Bool (p k)) [
    | inr f ↦ f
    | inl t ↦
        let f = key_text m kind form in
        let alone = (and_parts (has_key m kind form i) (not (is_repeated (key_texts m kind form) (f i))) own).1 in
        let there = each k t in
        let again : is_repeated (key_texts m kind form) (f i) ≡ true = ap (is_repeated (key_texts m kind form)) here ∙ (elim (cases_lt i k) [
          | inl before ↦ twice-made f text 1 (entries m kind) i k low before last here there
          | inr after ↦ elim (cases_lt k i) [
            | inl before ↦ twice-made f text 1 (entries m kind) k i first before (omega (arith, high)) there here
            | inr same ↦ absurd (other (omega (arith, after, same)))
          ]
        ]) in
        absurd (not-repeated (is_repeated (key_texts m kind form) (f i)) alone again)
  ]

  pub named-by-name : (name : List ℕ) → entry_name m kind i ≡ Some name → owns m kind form.Name i ≡ true → entry_named m kind (Named (flat_map escaped name)) ≡ Ok i
  named-by-name name e own =
      let text = flat_map escaped name in
      ap the_one (filter-one (names_entry m (Named text) kind) 1 (entries m kind) i low (omega (arith, high))
      (ap (is_written text) e ∙ (bytes_eq-Decides text text).1 refl)
      (no-other form.Name (quoted name) (names_entry m (Named text) kind) own (ap shown e) (λ k t. written text (entry_name m kind k) t)))

  pub named-by-number : entry_named m kind (Numbered i) ≡ Ok i
  named-by-number = ap the_one (filter-one (names_entry m (Numbered i) kind) 1 (entries m kind) i low (omega (arith, high)) (eq-eqb i i refl) (λ k first last other. ne_eqb i k (λ e. absurd (other (sym e)))))

some-of : {A : Type 0} (o : Option A) → is_some o ≡ true → (x : A) × (o ≡ Some x)
some-of (Some x) h = (x, refl)
some-of None h = absurd (false≢true h)

-- An entry with a name of its own.
own-name : (m : List Rec) (kind : Kind) (i : ℕ) → owns m kind form.Name i ≡ true → (name : List ℕ) × (entry_name m kind i ≡ Some name)
own-name m kind i own = some-of (entry_name m kind i) (and_parts (has_key m kind form.Name i) (not (is_repeated (key_texts m kind form.Name) (key_text m kind form.Name i))) own).0

by-name : (m : List Rec) (kind : Kind) (i : ℕ) → 1 ≤ i → i ≤ entries m kind → owns m kind form.Name i ≡ true → entry_named m kind (key_of m kind form.Name i) ≡ Ok i
by-name m kind i low high own =
    let there = own-name m kind i own in
    ap (λ (o : Option (List ℕ)). entry_named m kind (Named (spelled o))) there.1 ∙ named-by-name m kind i low high there.0 there.1 own

-- A segment with a name and class of its own.
record OwnClass (m : List Rec) (i : ℕ) : Type 0 where
  pub name : List ℕ
  pub class : List ℕ
  pub named : entry_name m kinds.Segment i ≡ Some name
  pub classed : class_name m i ≡ Some class

own-class : (m : List Rec) (i : ℕ) → owns m kinds.Segment form.OfClass i ≡ true → OwnClass m i
own-class m i own =
    let f = key_text m kinds.Segment form.OfClass in
    let has = (and_parts (has_key m kinds.Segment form.OfClass i) (not (is_repeated (key_texts m kinds.Segment form.OfClass) (f i))) own).0 in
    let both = and_parts (is_some (entry_name m kinds.Segment i)) (is_some (class_name m i)) has in
    let n = some-of (entry_name m kinds.Segment i) both.0 in
    let c = some-of (class_name m i) both.1 in
    record { name = n.0; class = c.0; named = n.1; classed = c.1 }

segment-by-class : (m : List Rec) (i : ℕ) → 1 ≤ i → i ≤ entries m kinds.Segment → owns m kinds.Segment form.OfClass i ≡ true → entry_named m kinds.Segment (key_of m kinds.Segment form.OfClass i) ≡ Ok i
segment-by-class m i low high own =
    let o = own-class m i own in
    let n = flat_map escaped o.name in
    let c = flat_map escaped o.class in
    ap₂ (λ (p q : Option (List ℕ)). entry_named m kinds.Segment (OfClass (spelled p) (spelled q))) o.named o.classed
    ∙ ap the_one (filter-one (names_entry m (OfClass n c) kinds.Segment) 1 (entries m kinds.Segment) i low (omega (arith, high))
    (and_from (is_written n (entry_name m kinds.Segment i)) (is_written c (class_name m i)) (ap (is_written n) o.named ∙ (bytes_eq-Decides n n).1 refl) (ap (is_written c) o.classed ∙ (bytes_eq-Decides c c).1 refl))
    (no-other m kinds.Segment i low high form.OfClass (quoted o.name ++ 32 ∷ quoted o.class) (names_entry m (OfClass n c) kinds.Segment) own
    (ap₂ (λ (p q : Option (List ℕ)). shown p ++ 32 ∷ shown q) o.named o.classed)
    (λ k t.
    let b = and_parts (is_written n (entry_name m kinds.Segment k)) (is_written c (class_name m k)) t in
    ap₂ (λ (u v : List ℕ). u ++ 32 ∷ v) (written n (entry_name m kinds.Segment k) b.0) (written c (class_name m k) b.1))))

by-class : (m : List Rec) (kind : Kind) (i : ℕ) → 1 ≤ i → i ≤ entries m kind → owns m kind form.OfClass i ≡ true → entry_named m kind (key_of m kind form.OfClass i) ≡ Ok i
by-class m kinds.Segment i low high own = segment-by-class m i low high own
by-class m kinds.Group i low high own = absurd (false≢true (sym (no-group-class m i) ∙ own))
by-class m kinds.External i low high own = absurd (false≢true (sym (no-external-class m i) ∙ own))

pub keys-name : (m : List Rec) (kind : Kind) (i : ℕ) → 1 ≤ i → i ≤ entries m kind → entry_named m kind (key_of m kind (key_form m kind i) i) ≡ Ok i
keys-name m kind i low high = elim (cases_Bool (owns m kind form.Name i)) [
  | inl t ↦ ap (λ (b : Bool). entry_named m kind (key_of m kind (form_by b (owns m kind form.OfClass i)) i)) t ∙ by-name m kind i low high t
  | inr f ↦ ap (λ (b : Bool). entry_named m kind (key_of m kind (form_by b (owns m kind form.OfClass i)) i)) f ∙ (elim (cases_Bool (owns m kind form.OfClass i)) [
    | inl t ↦ ap (λ (b : Bool). entry_named m kind (key_of m kind (form_by false b) i)) t ∙ by-class m kind i low high t
    | inr g ↦ ap (λ (b : Bool). entry_named m kind (key_of m kind (form_by false b) i)) g ∙ named-by-number m kind i low high
  ])
]

-- ---- the text of a key

class-written : (m : List Rec) (kind : Kind) (i : ℕ) → owns m kind form.OfClass i ≡ true → key_text m kind form.OfClass i ≡ key_words (key_of m kind form.OfClass i)
class-written m kinds.Segment i own =
    let o = own-class m i own in
    let here : key_text m kinds.Segment form.OfClass i ≡ quoted o.name ++ (32 ∷ quoted o.class) = ap₂ (λ (p q : Option (List ℕ)). shown p ++ (32 ∷ shown q)) o.named o.classed in
    let there : key_words (key_of m kinds.Segment form.OfClass i) ≡ quoted o.name ++ (32 ∷ quoted o.class) = ap₂ (λ (p q : Option (List ℕ)). key_words (OfClass (spelled p) (spelled q))) o.named o.classed in
    here ∙ sym there
class-written m kinds.Group i own = absurd (false≢true (sym (no-group-class m i) ∙ own))
class-written m kinds.External i own = absurd (false≢true (sym (no-external-class m i) ∙ own))

abbrev IsWritten : List Rec → Kind → ℕ → KeyForm → Type 0
IsWritten m kind i k = key_text m kind k i ≡ key_words (key_of m kind k i)

pub keys-written : (m : List Rec) (kind : Kind) (i : ℕ) → key_text m kind (key_form m kind i) i ≡ key_words (key_of m kind (key_form m kind i) i)
keys-written m kind i = elim (cases_Bool (owns m kind form.Name i)) [
  | inl t ↦
      let there = own-name m kind i t in
      subst (λ (b : Bool). IsWritten m kind i (form_by b (owns m kind form.OfClass i))) (sym t) (ap shown there.1 ∙ sym (ap (λ (o : Option (List ℕ)). key_words (Named (spelled o))) there.1))
  | inr f ↦ subst (λ (b : Bool). IsWritten m kind i (form_by b (owns m kind form.OfClass i))) (sym f) (elim (cases_Bool (owns m kind form.OfClass i)) [
    | inl t ↦ subst (λ (b : Bool). IsWritten m kind i (form_by false b)) (sym t) (class-written m kind i t)
    | inr g ↦ subst (λ (b : Bool). IsWritten m kind i (form_by false b)) (sym g) refl
  ])
]

-- ---- modules

has-there : (xs : List (List ℕ)) (k : ℕ) (text : List ℕ) → slice_get xs k ≡ Some text → has_text xs text ≡ true
has-there [] k text h = absurd (none-some text h)
has-there (x ∷ xs) zero text h = ap (λ b. b || has_text xs text) ((bytes_eq-Decides x text).1 (same_Some x text h))
has-there (x ∷ xs) (suc k) text h = ap (λ b. bytes_eq x text || b) (has-there xs k text h) ∙ or-true (bytes_eq x text)

twice-there : (xs : List (List ℕ)) (i k : ℕ) (text : List ℕ) → i < k → slice_get xs i ≡ Some text → slice_get xs k ≡ Some text → is_repeated xs text ≡ true
twice-there [] i k text low h g = absurd (none-some text h)
twice-there (x ∷ xs) i zero text low h g = absurd (omega (arith, low))
twice-there (x ∷ xs) zero (suc k) text low h g =
    cond_both (bytes_eq x text) (has_text xs text) (is_repeated xs text) (λ b. b ≡ true) (λ t. has-there xs k text g)
    (λ t. absurd (false≢true (sym t ∙ (bytes_eq-Decides x text).1 (same_Some x text h))))
twice-there (x ∷ xs) (suc i) (suc k) text low h g =
    cond_both (bytes_eq x text) (has_text xs text) (is_repeated xs text) (λ b. b ≡ true) (λ t. has-there xs k text g)
    (λ t. twice-there xs i k text (omega (arith, low)) h g)

within : {A : Type 0} (xs : List A) (j : ℕ) (x : A) → slice_get xs j ≡ Some x → j < length xs
within [] j x h = absurd (none-some x h)
within (y ∷ ys) zero x h = omega arith
within (y ∷ ys) (suc j) x h = omega (arith, within ys j x h)

-- The name of a module, as it is printed.
abbrev text_of : Option (List Rec) → Option (List ℕ)
text_of o = option_map (λ m. quoted (module_name m)) o

text-at : (ms : List (List Rec)) (k : ℕ) → slice_get (module_texts ms) k ≡ text_of (slice_get ms k)
text-at [] k = refl
text-at (m ∷ ms) zero = refl
text-at (m ∷ ms) (suc k) = text-at ms k

module-written : (text : List ℕ) (o : Option (List Rec)) → is_written text (option_map module_name o) ≡ true → text_of o ≡ Some (34 ∷ text ++ 34 ∷ [])
module-written text None h = absurd (false≢true h)
module-written text (Some m) h = ap Some (written text (Some (module_name m)) h)

module _ (ms : List (List Rec)) (j : ℕ) (m : List Rec) (here : slice_get ms j ≡ Some m) where
  inside : j < 0 + length ms
  inside = omega (arith, within ms j m here)

  pub module-by-number : module_named ms (Numbered (j + 1)) ≡ Ok j
  module-by-number = ap the_one (filter-one (names_module ms (Numbered (j + 1))) 0 (length ms) j (omega arith) inside (eq-eqb (j + 1) (j + 1) refl) (λ k first last other. ne_eqb (j + 1) (k + 1) (λ e. absurd (other (omega (arith, e))))))

  no-other-module : is_repeated (module_texts ms) (quoted (module_name m)) ≡ false → (k : ℕ) → (k ≡ j → ⊥) → names_module ms (Named (flat_map escaped (module_name m))) k ≡ false
  no-other-module alone k other = elim (cases_Bool (names_module ms (Named (flat_map escaped (module_name m))) k)) [
    | inr f ↦ f
    | inl t ↦
        let text = quoted (module_name m) in
        let there : slice_get (module_texts ms) k ≡ Some text = text-at ms k ∙ module-written (flat_map escaped (module_name m)) (slice_get ms k) t in
        let own : slice_get (module_texts ms) j ≡ Some text = text-at ms j ∙ ap text_of here in
        let again : is_repeated (module_texts ms) text ≡ true = elim (cases_lt j k) [
          | inl before ↦ twice-there (module_texts ms) j k text before own there
          | inr after ↦ elim (cases_lt k j) [
            | inl before ↦ twice-there (module_texts ms) k j text before there own
            | inr same ↦ absurd (other (omega (arith, after, same)))
          ]
        ] in
        absurd (false≢true (sym alone ∙ again))
  ]

  pub module-by-name : is_repeated (module_texts ms) (quoted (module_name m)) ≡ false → module_named ms (Named (flat_map escaped (module_name m))) ≡ Ok j
  module-by-name alone =
      let text = flat_map escaped (module_name m) in
      ap the_one (filter-one (names_module ms (Named text)) 0 (length ms) j (omega arith) inside
      (ap (λ (o : Option (List Rec)). is_written text (option_map module_name o)) here ∙ (bytes_eq-Decides text text).1 refl)
      (λ k first last other. no-other-module alone k other))

  pub keys-name-module : module_named ms (module_key ms j m) ≡ Ok j
  keys-name-module = elim (cases_Bool (is_repeated (module_texts ms) (quoted (module_name m)))) [
    | inl t ↦ ap (λ (b : Bool). module_named ms (module_key_by b j m)) t ∙ module-by-number
    | inr f ↦ ap (λ (b : Bool). module_named ms (module_key_by b j m)) f ∙ module-by-name f
  ]
