-- The keys of the segments of the module for DOS order, and their parts.
use Rattle.std.proofs.Common.{◌≡◌, ℕ, ◌+◌, suc, List, [], ◌∷◌, Bool, true, false, refl, sym, ap, ap₂, ◌∙◌, subst, inl, inr, arith}
use Rattle.std.specs.Prelude.{map, flat_map, filter_map, find, not, ◌&&◌, Option, Some, None, is_some, slice_get, unwrap_or, bytes_eq}
use Rattle.std.specs.List.{filter, zip, enumerate_from, cons_option}
use Rattle.std.specs.Option.{option_map_or}
use Rattle.std.proofs.lemmas.Bool.{cond-true, cond-false, cases_Bool, false≢true, true≢false}
use Rattle.std.proofs.lemmas.Option.{none-some, same_Some}
use Rattle.omf_records.specs.Values.{Rec}
use Rattle.omf_check.specs.Tables.{attributes, segments}
use Rattle.omf_check.specs.declared.segment.SegInfo.{SegInfo}
use Rattle.omf_layout.specs.declared.own.slots.DosPart.{DosPart}
use Rattle.omf_layout.specs.declared.own.slots.DosPart.TheVariants as part
use Rattle.omf_layout.specs.declared.several.portion.Portion.{Portion}
use Rattle.omf_layout.specs.Several.Gathered.{of_name}
use Rattle.omf_layout.specs.Several.Order.{is_named, nameless_last, runs}
use Rattle.omf_layout.specs.Several.Portions.{Named, Classed, classed, name_at, portions, portions_in}
use Rattle.omf_layout.specs.Own.Order.{dgroup_classes, first_of, in_part, is_same_part, module_at, part_of, slot, slots}
use Rattle.omf_layout.specs.Own.Ordered.{is_laid, is_run_in}
use Rattle.omf_layout.proofs.SeveralLaws.ApartLaws.{Each}
use Rattle.omf_layout.proofs.SeveralLaws.FoundLaws.{each-parted}
use Rattle.omf_layout.proofs.SeveralLaws.GatherLaws.{Name, same}
use Rattle.omf_layout.proofs.DosLaws.FrontLaws.{slot_key}
use Rattle.omf_layout.proofs.DosLaws.KeyLaws.{Key, In, apart, beside, each-append, in-filtered, in-left, in-right, left-out, sorted, taken}
use Rattle.omf_layout.proofs.DosLaws.RunLaws.{key, run_of, runs-sorted}

-- ---- Parts

pub same-part : (p q : DosPart) → is_same_part p q ≡ true → p ≡ q
same-part part.Code part.Code e = refl
same-part part.Code part.Outside e = absurd (false≢true e)
same-part part.Code part.Begin e = absurd (false≢true e)
same-part part.Code part.Data e = absurd (false≢true e)
same-part part.Code part.Bss e = absurd (false≢true e)
same-part part.Code part.Stack e = absurd (false≢true e)
same-part part.Outside part.Code e = absurd (false≢true e)
same-part part.Outside part.Outside e = refl
same-part part.Outside part.Begin e = absurd (false≢true e)
same-part part.Outside part.Data e = absurd (false≢true e)
same-part part.Outside part.Bss e = absurd (false≢true e)
same-part part.Outside part.Stack e = absurd (false≢true e)
same-part part.Begin part.Code e = absurd (false≢true e)
same-part part.Begin part.Outside e = absurd (false≢true e)
same-part part.Begin part.Begin e = refl
same-part part.Begin part.Data e = absurd (false≢true e)
same-part part.Begin part.Bss e = absurd (false≢true e)
same-part part.Begin part.Stack e = absurd (false≢true e)
same-part part.Data part.Code e = absurd (false≢true e)
same-part part.Data part.Outside e = absurd (false≢true e)
same-part part.Data part.Begin e = absurd (false≢true e)
same-part part.Data part.Data e = refl
same-part part.Data part.Bss e = absurd (false≢true e)
same-part part.Data part.Stack e = absurd (false≢true e)
same-part part.Bss part.Code e = absurd (false≢true e)
same-part part.Bss part.Outside e = absurd (false≢true e)
same-part part.Bss part.Begin e = absurd (false≢true e)
same-part part.Bss part.Data e = absurd (false≢true e)
same-part part.Bss part.Bss e = refl
same-part part.Bss part.Stack e = absurd (false≢true e)
same-part part.Stack part.Code e = absurd (false≢true e)
same-part part.Stack part.Outside e = absurd (false≢true e)
same-part part.Stack part.Begin e = absurd (false≢true e)
same-part part.Stack part.Data e = absurd (false≢true e)
same-part part.Stack part.Bss e = absurd (false≢true e)
same-part part.Stack part.Stack e = refl

pub same-itself : (p : DosPart) → is_same_part p p ≡ true
same-itself part.Code = refl
same-itself part.Outside = refl
same-itself part.Begin = refl
same-itself part.Data = refl
same-itself part.Bss = refl
same-itself part.Stack = refl

pub other-part : (p q r : DosPart) → is_same_part q p ≡ false → is_same_part p r ≡ true → is_same_part q r ≡ true → true ≡ false
other-part p q r n e f = sym f ∙ ap (is_same_part q) (sym (same-part p r e)) ∙ n

-- ---- A segment has the key of its empty segment

abbrev names-at : List Rec → SegInfo → Key
names-at m s = (name_at m s.class, name_at m s.name)

module _ (ms : List (List Rec)) where
  abbrev pub HasKey : Classed Portion → Type 0
  HasKey x = key x ≡ slot_key (slot ms x.1.1)

  keys-in : (j : ℕ) (n : List Rec) → module_at ms j ≡ n → (ys : List (ℕ × (SegInfo × ℕ))) → Each HasKey (map (classed n j) ys)
  keys-in j n e [] = tt
  keys-in j n e (y ∷ ys) = (ap (λ m. names-at m y.1.0) (sym e), keys-in j n e ys)

  keys-from : (k : ℕ) (ns : List (List Rec)) → ((i : ℕ) → slice_get ns i ≡ slice_get ms (k + i)) → Each HasKey (flat_map portions_in (enumerate_from k ns))
  keys-from k [] h = tt
  keys-from k (n ∷ ns) h =
      let same : k + 0 ≡ k = omega arith in
      each-append HasKey (portions_in (k, n)) (flat_map portions_in (enumerate_from (k + 1) ns))
      (keys-in k n (ap (λ o. unwrap_or o []) (ap (slice_get ms) (sym same) ∙ sym (h 0))) (enumerate_from 1 (zip (segments n) (attributes n))))
      (keys-from (k + 1) ns (λ i. let next : k + suc i ≡ k + 1 + i = omega arith in h (suc i) ∙ ap (slice_get ms) next))

  pub have-keys : Each HasKey (portions ms)
  have-keys = keys-from 0 ms (λ i. let same : i ≡ 0 + i = omega arith in ap (slice_get ms) same)

-- What holds of all values holds of those of a name, of what is found, and of a run.
each-named : {A : Type 0} (R : Named A → Type 0) (xs : List (Named A)) (n : Name) → Each R xs → Each (λ v. R (n, v)) (of_name xs n)
each-named R [] n e = tt
each-named R (x ∷ xs) n e = elim (cases_Bool (bytes_eq n x.0)) [
  | inl y ↦ subst (Each (λ v. R (n, v))) (sym (ap (λ o. cons_option o (of_name xs n)) (cond-true (bytes_eq n x.0) (Some x.1) None y)))
      (subst (λ c. R (c, x.1)) (sym (same n x.0 y)) e.0, each-named R xs n e.1)
  | inr f ↦ subst (Each (λ v. R (n, v))) (sym (ap (λ o. cons_option o (of_name xs n)) (cond-false (bytes_eq n x.0) (Some x.1) None f))) (each-named R xs n e.1)
]

pub each-run : {A : Type 0} (R : Classed A → Type 0) (xs : List (Classed A)) (k : Key) → Each R xs → Each (λ v. R (k.0, (k.1, v))) (run_of xs k)
each-run R xs k e = each-named (λ v. R (k.0, v)) (of_name xs k.0) k.1 (each-named R xs k.0 e)

each-found : {A : Type 0} (P : A → Type 0) (t : A → Bool) (xs : List A) (x : A) → Each P xs → find t xs ≡ Some x → P x
each-found P t [] x e h = absurd (none-some x h)
each-found P t (y ∷ ys) x e h = elim (cases_Bool (t y)) [
  | inl b ↦ subst P (same_Some y x (sym (cond-true (t y) (Some y) (find t ys) b) ∙ h)) e.0
  | inr b ↦ each-found P t ys x e.1 (sym (cond-false (t y) (Some y) (find t ys) b) ∙ h)
]

module _ (ms : List (List Rec)) where
  abbrev pub ps : List (Classed Portion)
  ps = nameless_last (portions ms)

  have-run-keys : Each (HasKey ms) ps
  have-run-keys = each-parted (HasKey ms) (λ x. is_named x.1.1) (portions ms) (have-keys ms)

  -- A run has a segment that is not absolute.
  abbrev pub good : Key → Bool
  good k = is_laid (run_of ps k)

  pub first-key : (k : Key) (p : Portion) → first_of (run_of ps k) ≡ Some p → k ≡ slot_key (slot ms p)
  first-key k p h = each-found (λ q. k ≡ slot_key (slot ms q)) (λ q. not (is_some q.segment.absolute)) (run_of ps k) p (each-run (HasKey ms) ps k have-run-keys) h

  slots-of : (ks : List Key) → map slot_key (map (slot ms) (filter_map first_of (map (run_of ps) ks))) ≡ filter good ks
  slots-of [] = refl
  slots-of (k ∷ ks) = by (first_of (run_of ps k)) refl (slots-of ks) where
    more : Option Portion → List Key
    more o = map slot_key (map (slot ms) (cons_option o (filter_map first_of (map (run_of ps) ks))))

    by : (o : Option Portion) → first_of (run_of ps k) ≡ o → map slot_key (map (slot ms) (filter_map first_of (map (run_of ps) ks))) ≡ filter good ks
        → more (first_of (run_of ps k)) ≡ filter good (k ∷ ks)
    by None e rest = ap more e ∙ rest ∙ sym (left-out good k ks (ap is_some e))
    by (Some p) e rest = ap more e ∙ ap₂ (λ c cs. c ∷ cs) (sym (first-key k p e)) rest ∙ sym (taken good k ks (ap is_some e))

  -- The keys of the empty segments.
  abbrev pub slot_keys : List Key
  slot_keys = filter good (sorted (map key ps))

  pub keys-of-slots : map slot_key (slots ms) ≡ slot_keys
  keys-of-slots = ap (λ rs. map slot_key (map (slot ms) (filter_map first_of rs))) (runs-sorted ps) ∙ slots-of (sorted (map key ps))

  -- A class is in a part.
  abbrev pub is_in : DosPart → Key → Bool
  is_in part k = is_same_part part (part_of (dgroup_classes ms) k.0)

  abbrev pub part_keys : DosPart → List Key
  part_keys part = filter (is_in part) slot_keys

  slots-in : (part : DosPart) (qs : List Portion) → map slot_key (in_part part (map (slot ms) qs)) ≡ filter (is_in part) (map slot_key (map (slot ms) qs))
  slots-in part [] = refl
  slots-in part (q ∷ qs) = elim (cases_Bool (is_in part (slot_key (slot ms q)))) [
    | inl y ↦
        ap (map slot_key) (taken (λ s. is_same_part part s.part) (slot ms q) (map (slot ms) qs) y) ∙ ap (λ ks. slot_key (slot ms q) ∷ ks) (slots-in part qs)
        ∙ sym (taken (is_in part) (slot_key (slot ms q)) (map slot_key (map (slot ms) qs)) y)
    | inr n ↦
        ap (map slot_key) (left-out (λ s. is_same_part part s.part) (slot ms q) (map (slot ms) qs) n) ∙ slots-in part qs
        ∙ sym (left-out (is_in part) (slot_key (slot ms q)) (map slot_key (map (slot ms) qs)) n)
  ]

  pub keys-in-part : (part : DosPart) → map slot_key (in_part part (slots ms)) ≡ part_keys part
  keys-in-part part = slots-in part (filter_map first_of (runs ms)) ∙ ap (filter (is_in part)) keys-of-slots

  -- The runs of a part are those of its keys.
  runs-in-part : (part : DosPart) (k : Key) (o : Option Portion) → first_of (run_of ps k) ≡ o → option_map_or (λ p. is_same_part part (slot ms p).part) o false ≡ (is_some o && is_in part k)
  runs-in-part part k None e = refl
  runs-in-part part k (Some p) e = ap (is_in part) (sym (first-key k p e))

  runs-of-keys : (part : DosPart) (ks : List Key) → filter (is_run_in ms part) (map (run_of ps) ks) ≡ map (run_of ps) (filter (is_in part) (filter good ks))
  runs-of-keys part [] = refl
  runs-of-keys part (k ∷ ks) =
      let run = run_of ps k in
      let runs = map (run_of ps) ks in
      let test = runs-in-part part k (first_of run) refl in
      elim (cases_Bool (good k)) [
        | inl g ↦
            let whole = test ∙ ap (λ b. b && is_in part k) g in
            elim (cases_Bool (is_in part k)) [
              | inl y ↦
                  taken (is_run_in ms part) run runs (whole ∙ y) ∙ ap (λ rs. run ∷ rs) (runs-of-keys part ks)
                  ∙ sym (ap (map (run_of ps)) (ap (filter (is_in part)) (taken good k ks g) ∙ taken (is_in part) k (filter good ks) y))
              | inr n ↦
                  left-out (is_run_in ms part) run runs (whole ∙ n) ∙ runs-of-keys part ks
                  ∙ sym (ap (map (run_of ps)) (ap (filter (is_in part)) (taken good k ks g) ∙ left-out (is_in part) k (filter good ks) n))
            ]
        | inr b ↦
            left-out (is_run_in ms part) run runs (test ∙ ap (λ c. c && is_in part k) b) ∙ runs-of-keys part ks
            ∙ sym (ap (λ zs. map (run_of ps) (filter (is_in part) zs)) (left-out good k ks b))
      ]

  pub runs-of-part : (part : DosPart) → filter (is_run_in ms part) (runs ms) ≡ map (run_of ps) (part_keys part)
  runs-of-part part = ap (filter (is_run_in ms part)) (runs-sorted ps) ∙ runs-of-keys part (sorted (map key ps))

  -- ---- A key whose run has a segment that is not absolute has an empty segment

  in-sorted : (m : Key) (ks : List Key) → In m ks → In m (sorted ks)
  in-sorted m [] i = absurd i
  in-sorted m (k ∷ ks) (inl e) = inl e
  in-sorted m (k ∷ ks) (inr i) =
      let all = sorted ks in
      let rest = in-sorted m ks i in
      elim (cases_Bool (bytes_eq k.0 m.0)) [
        | inl c ↦ elim (cases_Bool (bytes_eq k.1 m.1)) [
          | inl n ↦ inl (ap₂ (λ a b. (a, b)) (same k.0 m.0 c) (same k.1 m.1 n))
          | inr n ↦ inr (in-left m (filter (beside k) all) (filter (apart k) all) (in-filtered (beside k) m all (ap₂ (λ a b. a && not b) c n) rest))
        ]
        | inr c ↦ inr (in-right m (filter (beside k) all) (filter (apart k) all) (in-filtered (apart k) m all (ap not c) rest))
      ]

  in-run : (m : Key) (xs : List (Classed Portion)) → is_laid (run_of xs m) ≡ true → In m (map key xs)
  in-run m [] h = absurd (false≢true h)
  in-run m (x ∷ xs) h = elim (cases_Bool (bytes_eq m.0 x.0)) [
    | inl c ↦
        let front = ap (λ o. is_laid (of_name (cons_option o (of_name xs m.0)) m.1)) (cond-true (bytes_eq m.0 x.0) (Some x.1) None c) in
        elim (cases_Bool (bytes_eq m.1 x.1.0)) [
          | inl n ↦ inl (ap₂ (λ a b. (a, b)) (sym (same m.0 x.0 c)) (sym (same m.1 x.1.0 n)))
          | inr n ↦ inr (in-run m xs (sym (front ∙ ap (λ o. is_laid (cons_option o (run_of xs m))) (cond-false (bytes_eq m.1 x.1.0) (Some x.1.1) None n)) ∙ h))
        ]
    | inr c ↦ inr (in-run m xs (sym (ap (λ o. is_laid (of_name (cons_option o (of_name xs m.0)) m.1)) (cond-false (bytes_eq m.0 x.0) (Some x.1) None c)) ∙ h))
  ]

  pub in-slots : (m : Key) → good m ≡ true → In m slot_keys
  in-slots m g = in-filtered good m (sorted (map key ps)) g (in-sorted m (map key ps) (in-run m ps g))

  pub in-its-part : (m : Key) (p : DosPart) → good m ≡ true → is_in p m ≡ true → In m (part_keys p)
  in-its-part m p g e = in-filtered (is_in p) m slot_keys e (in-slots m g)

  -- Keys of different parts are of different classes.
  pub parts-apart : (q : DosPart) (k l : Key) → is_in q k ≡ false → is_in q l ≡ true → apart k l ≡ true
  parts-apart q k l e f = elim (cases_Bool (bytes_eq k.0 l.0)) [
    | inl c ↦ absurd (true≢false (sym f ∙ ap (λ d. is_same_part q (part_of (dgroup_classes ms) d)) (sym (same k.0 l.0 c)) ∙ e))
    | inr c ↦ ap not c
  ]
