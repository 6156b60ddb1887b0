-- Runs are those of the keys of all segments, in the order of the keys.
use Rattle.std.proofs.Common.{◌≡◌, List, [], ◌∷◌, ◌++◌, true, false, refl, sym, ap, ap₂, ◌∙◌, subst, inl, inr, append-nil}
use Rattle.std.specs.Prelude.{map, flat_map, not, Some, None, ◌&&◌, ◌||◌, bytes_eq}
use Rattle.std.specs.List.{filter, cons_option}
use Rattle.std.proofs.lemmas.Bool.{cond-true, cond-false, cases_Bool, or_parts, false≢true}
use Rattle.std.proofs.lemmas.List.{map-append}
use Rattle.std.proofs.lemmas.List.Elements.{filter-append}
use Rattle.omf_layout.specs.Several.Gathered.{distinct, of_name, names_in, gathered}
use Rattle.omf_layout.specs.Several.Order.{runs_in}
use Rattle.omf_layout.specs.Several.Portions.{Named, Classed}
use Rattle.omf_layout.proofs.SeveralLaws.GatherLaws.{Name, has, other, same, itself, back, dropped, kept, has-self, has-distinct, Once, once-distinct, of-none}
use Rattle.omf_layout.proofs.SeveralLaws.OrderLaws.{of-name-seen, names-seen, map-map}
use Rattle.omf_layout.proofs.DosLaws.KeyLaws.{Key, beside, apart, sorted}

-- The class and the name of a segment, and the run of both.
abbrev pub key : {A : Type 0} → Classed A → Key
key x = (x.0, x.1.0)

abbrev pub run_of : {A : Type 0} → List (Classed A) → Key → List A
run_of xs k = of_name (of_name xs k.0) k.1

-- The keys of some classes, each class with its names.
abbrev in-class : List Key → Name → List Key
in-class ks c = map (λ n. (c, n)) (distinct (of_name ks c))

abbrev in-classes : List Key → List Name → List Key
in-classes ks cs = flat_map (in-class ks) cs

abbrev listed : List Key → List Key
listed ks = in-classes ks (distinct (names_in ks))

module _ {A : Type 0} (xs : List (Classed A)) where
  runs-of-classes : (cs : List Name) → flat_map gathered (map (of_name xs) cs) ≡ map (run_of xs) (in-classes (map key xs) cs)
  runs-of-classes [] = refl
  runs-of-classes (c ∷ cs) =
      ap₂ (λ us vs. us ++ vs)
      (ap (λ ns. map (of_name (of_name xs c)) (distinct ns)) (sym (of-name-seen (λ (y : Named A). y.0) xs c))
      ∙ sym (map-map (run_of xs) (λ n. (c, n)) (distinct (of_name (map key xs) c))))
      (runs-of-classes cs)
      ∙ sym (map-append (run_of xs) (in-class (map key xs) c) (in-classes (map key xs) cs))

  runs-listed : runs_in xs ≡ map (run_of xs) (listed (map key xs))
  runs-listed = runs-of-classes (distinct (names_in xs)) ∙ ap (λ cs. map (run_of xs) (in-classes (map key xs) (distinct cs))) (sym (names-seen (λ (y : Named A). y.0) xs))

-- ---- The keys of one key more

other-names : (k : Key) (ks : List Key) (cs : List Name) → has k.0 cs ≡ false → in-classes (k ∷ ks) cs ≡ in-classes ks cs
other-names k ks [] h = refl
other-names k ks (c ∷ cs) h =
    let parts = or_parts (bytes_eq k.0 c) (has k.0 cs) h in
    ap₂ (λ us vs. us ++ vs)
    (ap (λ o. map (λ n. (c, n)) (distinct (cons_option o (of_name ks c)))) (cond-false (bytes_eq c k.0) (Some k.1) None (back k.0 c parts.0)))
    (other-names k ks cs parts.1)

own-names : (k : Key) (ks : List Key) → of_name (k ∷ ks) k.0 ≡ k.1 ∷ of_name ks k.0
own-names k ks = ap (λ o. cons_option o (of_name ks k.0)) (cond-true (bytes_eq k.0 k.0) (Some k.1) None (itself k.0))

-- The keys of one class, beside a key and apart from it.
near-names : (k : Key) (ns : List Name) → filter (beside k) (map (λ n. (k.0, n)) ns) ≡ map (λ n. (k.0, n)) (filter (other k.1) ns)
near-names k [] = refl
near-names k (n ∷ ns) =
    let own : beside k (k.0, n) ≡ other k.1 n = ap (λ b. b && other k.1 n) (itself k.0) in
    elim (cases_Bool (other k.1 n)) [
      | inl y ↦
          cond-true (beside k (k.0, n)) _ _ (own ∙ y) ∙ ap (λ zs. (k.0, n) ∷ zs) (near-names k ns)
          ∙ sym (ap (map (λ n. (k.0, n))) (cond-true (other k.1 n) (n ∷ filter (other k.1) ns) (filter (other k.1) ns) y))
      | inr f ↦
          cond-false (beside k (k.0, n)) _ _ (own ∙ f) ∙ near-names k ns
          ∙ sym (ap (map (λ n. (k.0, n))) (cond-false (other k.1 n) (n ∷ filter (other k.1) ns) (filter (other k.1) ns) f))
    ]

far-names : (k : Key) (c : Name) → bytes_eq k.0 c ≡ false → (ns : List Name) → filter (beside k) (map (λ n. (c, n)) ns) ≡ []
far-names k c e [] = refl
far-names k c e (n ∷ ns) = cond-false (beside k (c, n)) _ _ (ap (λ b. b && other k.1 n) e) ∙ far-names k c e ns

apart-names : (k : Key) (c : Name) → bytes_eq k.0 c ≡ false → (ns : List Name) → filter (apart k) (map (λ n. (c, n)) ns) ≡ map (λ n. (c, n)) ns
apart-names k c e [] = refl
apart-names k c e (n ∷ ns) = cond-true (apart k (c, n)) _ _ (ap not e) ∙ ap (λ zs. (c, n) ∷ zs) (apart-names k c e ns)

not-apart-names : (k : Key) (c : Name) → bytes_eq k.0 c ≡ true → (ns : List Name) → filter (apart k) (map (λ n. (c, n)) ns) ≡ []
not-apart-names k c e [] = refl
not-apart-names k c e (n ∷ ns) = cond-false (apart k (c, n)) _ _ (ap not e) ∙ not-apart-names k c e ns

-- The same of several classes.
far-classes : (k : Key) (ks : List Key) (cs : List Name) → has k.0 cs ≡ false → filter (beside k) (in-classes ks cs) ≡ []
far-classes k ks [] h = refl
far-classes k ks (c ∷ cs) h =
    let parts = or_parts (bytes_eq k.0 c) (has k.0 cs) h in
    filter-append (beside k) (in-class ks c) (in-classes ks cs) ∙ ap₂ (λ us vs. us ++ vs) (far-names k c parts.0 (distinct (of_name ks c))) (far-classes k ks cs parts.1)

near-classes : (k : Key) (ks : List Key) (cs : List Name) → Once cs → has k.0 cs ≡ true → filter (beside k) (in-classes ks cs) ≡ map (λ n. (k.0, n)) (filter (other k.1) (distinct (of_name ks k.0)))
near-classes k ks [] o h = absurd (false≢true h)
near-classes k ks (c ∷ cs) o h =
    filter-append (beside k) (in-class ks c) (in-classes ks cs) ∙ elim (cases_Bool (bytes_eq k.0 c)) [
      | inl y ↦
          let e = same k.0 c y in
          ap₂ (λ us vs. us ++ vs)
          (subst (λ d. filter (beside k) (in-class ks d) ≡ map (λ n. (k.0, n)) (filter (other k.1) (distinct (of_name ks k.0)))) e (near-names k (distinct (of_name ks k.0))))
          (far-classes k ks cs (subst (λ d. has d cs ≡ false) (sym e) o.0))
          ∙ append-nil _
      | inr f ↦ ap₂ (λ us vs. us ++ vs) (far-names k c f (distinct (of_name ks c))) (near-classes k ks cs o.1 (sym (ap (λ b. b || has k.0 cs) f) ∙ h))
    ]

apart-classes : (k : Key) (ks : List Key) (cs : List Name) → filter (apart k) (in-classes ks cs) ≡ in-classes ks (filter (other k.0) cs)
apart-classes k ks [] = refl
apart-classes k ks (c ∷ cs) =
    filter-append (apart k) (in-class ks c) (in-classes ks cs) ∙ elim (cases_Bool (bytes_eq k.0 c)) [
      | inl y ↦ ap₂ (λ us vs. us ++ vs) (not-apart-names k c y (distinct (of_name ks c))) (apart-classes k ks cs) ∙ sym (ap (in-classes ks) (dropped k.0 c cs y))
      | inr f ↦ ap₂ (λ us vs. us ++ vs) (apart-names k c f (distinct (of_name ks c))) (apart-classes k ks cs) ∙ sym (ap (in-classes ks) (kept k.0 c cs f))
    ]

beside-listed : (k : Key) (ks : List Key) → filter (beside k) (listed ks) ≡ map (λ n. (k.0, n)) (filter (other k.1) (distinct (of_name ks k.0)))
beside-listed k ks =
    let cs = distinct (names_in ks) in
    elim (cases_Bool (has k.0 cs)) [
      | inl y ↦ near-classes k ks cs (once-distinct (names_in ks)) y
      | inr f ↦ far-classes k ks cs f ∙ sym (ap (λ ns. map (λ n. (k.0, n)) (filter (other k.1) (distinct ns))) (of-none ks k.0 (sym (has-distinct k.0 (names_in ks)) ∙ f)))
    ]

listed-sorted : (ks : List Key) → listed ks ≡ sorted ks
listed-sorted [] = refl
listed-sorted (k ∷ ks) =
    let cs = distinct (names_in ks) in
    ap₂ (λ us vs. us ++ vs)
    (ap (λ ns. map (λ n. (k.0, n)) (distinct ns)) (own-names k ks))
    (other-names k ks (filter (other k.0) cs) (has-self k.0 cs) ∙ sym (apart-classes k ks cs))
    ∙ ap (λ zs. k ∷ (zs ++ filter (apart k) (listed ks))) (sym (beside-listed k ks))
    ∙ ap (λ zs. k ∷ (filter (beside k) zs ++ filter (apart k) zs)) (listed-sorted ks)

pub runs-sorted : {A : Type 0} (xs : List (Classed A)) → runs_in xs ≡ map (run_of xs) (sorted (map key xs))
runs-sorted xs = runs-listed xs ∙ ap (map (run_of xs)) (listed-sorted (map key xs))
