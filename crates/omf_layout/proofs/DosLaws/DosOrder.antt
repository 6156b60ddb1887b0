-- With the module for DOS order in front, runs are in DOS order.
use Rattle.std.proofs.Common.{◌≡◌, ℕ, ◌+◌, List, [], ◌∷◌, ◌++◌, Bool, true, false, refl, sym, ap, ap₂, ◌∙◌, subst, inl, inr, append-nil, append_assoc, arith}
use Rattle.std.specs.Prelude.{map, flat_map, not, cond, ◌==◌, ⊤, Some, is_some, codes}
use Rattle.std.specs.List.{filter, zip, enumerate_from}
use Rattle.std.proofs.lemmas.Bool.{cond-true, cond-false, cases_Bool, eqb-true, false_from_ne_true, true≢false}
use Rattle.std.proofs.lemmas.List.{map-append}
use Rattle.std.proofs.lemmas.List.Elements.{filter-append, filter_map-append}
use Rattle.omf_records.specs.Values.{Rec}
use Rattle.omf_check.specs.Tables.{attributes, segments}
use Rattle.omf_check.specs.declared.segment.SegInfo.{SegInfo}
use Rattle.omf_layout.specs.declared.own.slots.DosPart.{DosPart}
use Rattle.omf_layout.specs.declared.own.slots.DosPart.TheVariants as part
use Rattle.omf_layout.specs.declared.several.portion.Portion.{Portion}
use Rattle.omf_layout.specs.Several.Gathered.{of_name, value_of}
use Rattle.omf_layout.specs.Several.Order.{is_named, nameless_last, runs, runs_in}
use Rattle.omf_layout.specs.Several.Portions.{Named, Classed, classed, portions, portions_in}
use Rattle.omf_layout.specs.Own.Communals.{are_grouped}
use Rattle.omf_layout.specs.Own.Order.{bss_slots, data_slots, dgroup_classes, dos_slots, first_of, has_name, in_part, is_same_part, marker, order_records, part_of, slots}
use Rattle.omf_layout.specs.Own.Ordered.{HasSegmentsOf, IsDosOrder, in_next_module, dos_parts, dos_runs, is_laid, is_run_in, without_first}
use Rattle.omf_layout.proofs.SeveralLaws.ApartLaws.{Each, each-weaker}
use Rattle.omf_layout.proofs.SeveralLaws.GatherLaws.{Name}
use Rattle.omf_layout.proofs.SeveralLaws.OrderLaws.{of-name-seen, map-map}
use Rattle.omf_layout.proofs.DosLaws.FrontLaws.{all, front-named, front-segments, keys-in-front, slot_key}
use Rattle.omf_layout.proofs.DosLaws.KeyLaws.{In, Key, Tidy, append-known, apart, each-append, each-filtered, each-passes, filter-all, filter-none, in-left, in-right, insert, left-out, sorted, sorted-tidy, taken, tidy-both, tidy-filter, tidy-sorted}
use Rattle.omf_layout.proofs.DosLaws.PartLaws.{each-run, good, in-its-part, is_in, keys-in-part, other-part, part_keys, parts-apart, ps, runs-of-part, same-itself, slot_keys}
use Rattle.omf_layout.proofs.DosLaws.RunLaws.{key, run_of, runs-sorted}

pub each-any : {A : Type 0} (P : A → Type 0) → ((x : A) → P x) → (xs : List A) → Each P xs
each-any P h [] = tt
each-any P h (x ∷ xs) = (h x, each-any P h xs)

pub map-same : {A B : Type 0} (f g : A → B) → ((x : A) → f x ≡ g x) → (xs : List A) → map f xs ≡ map g xs
map-same f g h [] = refl
map-same f g h (x ∷ xs) = ap₂ (λ y ys. y ∷ ys) (h x) (map-same f g h xs)

pub filter-through : {A B : Type 0} (t : B → Bool) (f : A → B) (u : A → Bool) → ((x : A) → t (f x) ≡ u x) → (xs : List A) → filter t (map f xs) ≡ map f (filter u xs)
filter-through t f u h [] = refl
filter-through t f u h (x ∷ xs) = elim (cases_Bool (u x)) [
  | inl y ↦ taken t (f x) (map f xs) (h x ∙ y) ∙ ap (λ ys. f x ∷ ys) (filter-through t f u h xs) ∙ sym (ap (map f) (taken u x xs y))
  | inr n ↦ left-out t (f x) (map f xs) (h x ∙ n) ∙ filter-through t f u h xs ∙ sym (ap (map f) (left-out u x xs n))
]

-- ---- The keys of the empty segments in DOS order

-- Parts of which none is there twice.
abbrev AreDifferent : List DosPart → Type 0
AreDifferent [] = ⊤
AreDifferent (p ∷ qs) = Each (λ q. is_same_part q p ≡ false) qs × AreDifferent qs

parts-joined : {A : Type 0} (a b c d e f : List A) → (a ++ (b ++ (c ++ d))) ++ (e ++ f) ≡ a ++ (b ++ (c ++ (d ++ (e ++ (f ++ [])))))
parts-joined a b c d e f =
    append_assoc a (b ++ (c ++ d)) (e ++ f) ∙ ap (λ zs. a ++ zs) (append_assoc b (c ++ d) (e ++ f) ∙ ap (λ zs. b ++ zs) (append_assoc c d (e ++ f)
    ∙ ap (λ zs. c ++ (d ++ (e ++ zs))) (sym (append-nil f))))

-- The part of the class of a marker: it is the modules' own class too, if they have one of that name.
abbrev ends : Bool → DosPart
ends b = cond b part.Data part.Outside

ends-not : (b : Bool) → cond (not b) part.Outside part.Data ≡ ends b
ends-not true = refl
ends-not false = refl

ends-not-bss : (b : Bool) → is_same_part part.Bss (ends b) ≡ false
ends-not-bss true = refl
ends-not-bss false = refl

ends-not-stack : (b : Bool) → is_same_part part.Stack (ends b) ≡ false
ends-not-stack true = refl
ends-not-stack false = refl

module _ (ms : List (List Rec)) where
  abbrev pub keys : DosPart → List Key
  keys p = part_keys ms p

  abbrev inside : List Name
  inside = dgroup_classes ms

  abbrev pub parted : List Key
  parted = flat_map keys dos_parts

  -- ---- The parts one after another are in order

  pub each-in : (p : DosPart) → Each (λ k. is_in ms p k ≡ true) (keys p)
  each-in p = each-passes (is_in ms p) (slot_keys ms)

  not-in : (p q : DosPart) → is_same_part q p ≡ false → (k : Key) → is_in ms p k ≡ true → is_in ms q k ≡ false
  not-in p q n k e = false_from_ne_true (is_in ms q k) (λ f. true≢false (other-part p q (part_of inside k.0) n e f))

  key-apart : (p : DosPart) (k : Key) → is_in ms p k ≡ true → (qs : List DosPart) → Each (λ q. is_same_part q p ≡ false) qs → Each (λ l. apart k l ≡ true) (flat_map keys qs)
  key-apart p k e [] n = tt
  key-apart p k e (q ∷ qs) n =
      each-append (λ l. apart k l ≡ true) (keys q) (flat_map keys qs)
      (each-weaker (λ l. is_in ms q l ≡ true) (λ l. apart k l ≡ true) (λ l f. parts-apart ms q k l (not-in p q n.0 k e) f) (keys q) (each-in q))
      (key-apart p k e qs n.1)

  tidy-parts : (qs : List DosPart) → AreDifferent qs → Tidy (flat_map keys qs)
  tidy-parts [] d = tt
  tidy-parts (p ∷ qs) d =
      tidy-both (keys p) (flat_map keys qs)
      (tidy-filter (is_in ms p) (slot_keys ms) (tidy-filter (good ms) (sorted (map key (ps ms))) (tidy-sorted (map key (ps ms)))))
      (tidy-parts qs d.1)
      (each-weaker (λ k. is_in ms p k ≡ true) (λ k. Each (λ l. apart k l ≡ true) (flat_map keys qs)) (λ k e. key-apart p k e qs d.0) (keys p) (each-in p))

  good-parts : (qs : List DosPart) → Each (λ k. good ms k ≡ true) (flat_map keys qs)
  good-parts [] = tt
  good-parts (p ∷ qs) =
      each-append (λ k. good ms k ≡ true) (keys p) (flat_map keys qs)
      (each-filtered (λ k. good ms k ≡ true) (is_in ms p) (slot_keys ms) (each-passes (good ms) (sorted (map key (ps ms))))) (good-parts qs)

  parted-sorted : filter (good ms) (sorted parted) ≡ parted
  parted-sorted =
      ap (filter (good ms)) (sorted-tidy parted (tidy-parts dos_parts
      ((refl, (refl, (refl, (refl, (refl, tt))))), ((refl, (refl, (refl, (refl, tt)))), ((refl, (refl, (refl, tt))), ((refl, (refl, tt)), ((refl, tt), (tt, tt))))))))
      ∙ filter-all (good ms) parted (good-parts dos_parts)

  -- ---- The markers change nothing

  -- The keys before BSS; and all keys, with others before BSS and before the stack.
  abbrev datas : List Key
  datas = keys part.Code ++ (keys part.Outside ++ (keys part.Begin ++ keys part.Data))

  abbrev marked : List Key → List Key → List Key
  marked front back = (datas ++ (front ++ keys part.Bss)) ++ (back ++ keys part.Stack)

  in-outside : (m : Key) → In m (keys part.Outside) → In m datas
  in-outside m i = in-right m (keys part.Code) (keys part.Outside ++ (keys part.Begin ++ keys part.Data)) (in-left m (keys part.Outside) (keys part.Begin ++ keys part.Data) i)

  in-begin : (m : Key) → In m (keys part.Begin) → In m datas
  in-begin m i =
      in-right m (keys part.Code) (keys part.Outside ++ (keys part.Begin ++ keys part.Data))
      (in-right m (keys part.Outside) (keys part.Begin ++ keys part.Data) (in-left m (keys part.Begin) (keys part.Data) i))

  in-data : (m : Key) → In m (keys part.Data) → In m datas
  in-data m i =
      in-right m (keys part.Code) (keys part.Outside ++ (keys part.Begin ++ keys part.Data))
      (in-right m (keys part.Outside) (keys part.Begin ++ keys part.Data) (in-right m (keys part.Begin) (keys part.Data) i))

  before-stack : (front back : List Key) (m : Key) → In m (datas ++ (front ++ keys part.Bss)) → In m (marked front back)
  before-stack front back m i = in-left m (datas ++ (front ++ keys part.Bss)) (back ++ keys part.Stack) i

  before-bss : (front back : List Key) (m : Key) → In m datas → In m (marked front back)
  before-bss front back m i = before-stack front back m (in-left m datas (front ++ keys part.Bss) i)

  in-marked : (front back : List Key) (m : Key) (p : DosPart) → In m (keys p) → In m (marked front back)
  in-marked front back m part.Code i = before-bss front back m (in-left m (keys part.Code) (keys part.Outside ++ (keys part.Begin ++ keys part.Data)) i)
  in-marked front back m part.Outside i = before-bss front back m (in-outside m i)
  in-marked front back m part.Begin i = before-bss front back m (in-begin m i)
  in-marked front back m part.Data i = before-bss front back m (in-data m i)
  in-marked front back m part.Bss i = before-stack front back m (in-right m datas (front ++ keys part.Bss) (in-right m front (keys part.Bss) i))
  in-marked front back m part.Stack i = in-right m (datas ++ (front ++ keys part.Bss)) (back ++ keys part.Stack) (in-right m back (keys part.Stack) i)

  good-marked : (front back : List Key) (m : Key) → good ms m ≡ true → In m (marked front back)
  good-marked front back m g = let p = part_of inside m.0 in in-marked front back m p (in-its-part ms m p g (same-itself p))

  module _ (m : Key) (b : Bool) (e : part_of inside m.0 ≡ ends b) where
    in-datas : (c : Bool) → b ≡ c → good ms m ≡ true → In m datas
    in-datas true f g = in-data m (in-its-part ms m part.Data g (ap (is_same_part part.Data) (e ∙ ap ends f)))
    in-datas false f g = in-outside m (in-its-part ms m part.Outside g (ap (is_same_part part.Outside) (e ∙ ap ends f)))

    marker-apart : (q : DosPart) → is_same_part q (ends b) ≡ false → Each (λ l. apart m l ≡ true) (keys q)
    marker-apart q n = each-weaker (λ l. is_in ms q l ≡ true) (λ l. apart m l ≡ true) (λ l f. parts-apart ms q m l (ap (is_same_part q) e ∙ n) f) (keys q) (each-in q)

    apart-stack : Each (λ l. apart m l ≡ true) (keys part.Stack)
    apart-stack = marker-apart part.Stack (ends-not-stack b)

    apart-both : Each (λ l. apart m l ≡ true) (keys part.Bss ++ keys part.Stack)
    apart-both = each-append (λ l. apart m l ≡ true) (keys part.Bss) (keys part.Stack) (marker-apart part.Bss (ends-not-bss b)) apart-stack

  abbrev marks : Bool → List ℕ → List Key
  marks g name = map slot_key (marker g name)

  markers-out : (g : Bool) → filter (good ms) (sorted (marked (marks g (codes "END OF DATA")) (marks g (codes "END OF BSS")))) ≡ filter (good ms) (sorted (datas ++ (keys part.Bss ++ keys part.Stack)))
  markers-out false = ap (λ ks. filter (good ms) (sorted ks)) (append_assoc datas (keys part.Bss) (keys part.Stack))
  markers-out true =
      let d : Key = (codes "END OF DATA", codes "END OF DATA") in
      let b : Key = (codes "END OF BSS", codes "END OF BSS") in
      let has-d = has_name inside d.0 in
      let has-b = has_name inside b.0 in
      insert (good ms) b (datas ++ (d ∷ keys part.Bss)) (keys part.Stack)
      (λ g. in-left b datas (d ∷ keys part.Bss) (in-datas b has-b (ends-not has-b) has-b refl g)) (apart-stack b has-b (ends-not has-b))
      ∙ ap (λ ks. filter (good ms) (sorted ks)) (append_assoc datas (d ∷ keys part.Bss) (keys part.Stack))
      ∙ insert (good ms) d datas (keys part.Bss ++ keys part.Stack) (in-datas d has-d (ends-not has-d) has-d refl) (apart-both d has-d (ends-not has-d))

  data-keys : map slot_key (data_slots (slots ms)) ≡ datas
  data-keys =
      let ss = slots ms in
      let of = λ (p : DosPart). in_part p ss in
      map-append slot_key (of part.Code) (of part.Outside ++ (of part.Begin ++ of part.Data))
      ∙ ap₂ (λ us vs. us ++ vs) (keys-in-part ms part.Code)
      (map-append slot_key (of part.Outside) (of part.Begin ++ of part.Data)
      ∙ ap₂ (λ us vs. us ++ vs) (keys-in-part ms part.Outside)
      (map-append slot_key (of part.Begin) (of part.Data) ∙ ap₂ (λ us vs. us ++ vs) (keys-in-part ms part.Begin) (keys-in-part ms part.Data)))

  dos-keys : (g : Bool) → map slot_key (dos_slots g (slots ms)) ≡ marked (marks g (codes "END OF DATA")) (marks g (codes "END OF BSS"))
  dos-keys g =
      let ss = slots ms in
      let first = marker g (codes "END OF DATA") in
      let second = marker g (codes "END OF BSS") in
      map-append slot_key (bss_slots g ss) (second ++ in_part part.Stack ss)
      ∙ ap₂ (λ us vs. us ++ vs)
      (map-append slot_key (data_slots ss) (first ++ in_part part.Bss ss)
      ∙ ap₂ (λ us vs. us ++ vs) data-keys (map-append slot_key first (in_part part.Bss ss) ∙ ap (λ zs. map slot_key first ++ zs) (keys-in-part ms part.Bss)))
      (map-append slot_key second (in_part part.Stack ss) ∙ ap (λ zs. map slot_key second ++ zs) (keys-in-part ms part.Stack))

  -- The keys with a segment that is not absolute, in the order with that module in front.
  keys-ordered : (m : List Rec) → HasSegmentsOf (order_records ms) m → filter (good ms) (sorted (map key (portions_in (0, m)) ++ map key (ps ms))) ≡ parted
  keys-ordered m h =
      let g = are_grouped ms in
      let front = marks g (codes "END OF DATA") in
      let back = marks g (codes "END OF BSS") in
      ap (λ ks. filter (good ms) (sorted (ks ++ map key (ps ms)))) (keys-in-front ms m h ∙ dos-keys g)
      ∙ append-known (good ms) (marked front back) (map key (ps ms)) (each-any (λ k. good ms k ≡ true → In k (marked front back)) (good-marked front back) (map key (ps ms)))
      ∙ markers-out g
      ∙ ap (λ ks. filter (good ms) (sorted ks)) (parts-joined (keys part.Code) (keys part.Outside) (keys part.Begin) (keys part.Data) (keys part.Bss) (keys part.Stack))
      ∙ parted-sorted

  parts-runs : (qs : List DosPart) → flat_map (λ p. filter (is_run_in ms p) (runs ms)) qs ≡ map (run_of (ps ms)) (flat_map keys qs)
  parts-runs [] = refl
  parts-runs (q ∷ qs) = ap₂ (λ us vs. us ++ vs) (runs-of-part ms q) (parts-runs qs) ∙ sym (map-append (run_of (ps ms)) (keys q) (flat_map keys qs))

-- ---- The runs with one module more in front

abbrev pub later : Classed Portion → Classed Portion
later x = (x.0, (x.1.0, in_next_module x.1.1))

pub numbered : (k : ℕ) (ns : List (List Rec)) → flat_map portions_in (enumerate_from (k + 1) ns) ≡ map later (flat_map portions_in (enumerate_from k ns))
numbered k [] = refl
numbered k (n ∷ ns) =
    ap₂ (λ us vs. us ++ vs) (sym (map-map later (classed n k) (enumerate_from 1 (zip (segments n) (attributes n))))) (numbered (k + 1) ns)
    ∙ sym (map-append later (portions_in (k, n)) (flat_map portions_in (enumerate_from (k + 1) ns)))

pub run-later : (xs : List (Classed Portion)) (k : Key) → run_of (map later xs) k ≡ map in_next_module (run_of xs k)
run-later xs k =
    ap (λ zs. of_name zs k.1) (of-name-seen (λ (y : Named Portion). (y.0, in_next_module y.1)) xs k.0) ∙ of-name-seen in_next_module (of_name xs k.0) k.1

pub run-both : (xs ys : List (Classed Portion)) (k : Key) → run_of (xs ++ ys) k ≡ run_of xs k ++ run_of ys k
run-both xs ys k = ap (λ zs. of_name zs k.1) (filter_map-append (value_of k.0) xs ys) ∙ filter_map-append (value_of k.1) (of_name xs k.0) (of_name ys k.0)

abbrev not-first : Portion → Bool
not-first p = not (p.«module» == 0)

after-first : (p : Portion) → not-first (in_next_module p) ≡ true
after-first p = elim (cases_Bool (p.«module» + 1 == 0)) [
  | inl y ↦ absurd (let e = eqb-true (p.«module» + 1) 0 y in omega (arith, e))
  | inr n ↦ ap not n
]

each-after : (run : List Portion) → Each (λ p. not-first p ≡ true) (map in_next_module run)
each-after [] = tt
each-after (p ∷ run) = (after-first p, each-after run)

pub of-first : (m : List Rec) (ys : List (ℕ × (SegInfo × ℕ))) → Each (λ (x : Classed Portion). x.1.1.«module» ≡ 0) (map (classed m 0) ys)
of-first m [] = tt
of-first m (y ∷ ys) = (refl, of-first m ys)

pub run-without : (m : List Rec) (xs : List (Classed Portion)) (k : Key) → without_first (run_of (portions_in (0, m) ++ map later xs) k) ≡ map in_next_module (run_of xs k)
run-without m xs k =
    let os = portions_in (0, m) in
    ap without_first (run-both os (map later xs) k) ∙ filter-append not-first (run_of os k) (run_of (map later xs) k)
    ∙ ap₂ (λ us vs. us ++ vs)
    (filter-none not-first (run_of os k) (each-weaker (λ p. p.«module» ≡ 0) (λ p. not-first p ≡ false) (λ p e. ap (λ n. not (n == 0)) e) (run_of os k)
    (each-run (λ (x : Classed Portion). x.1.1.«module» ≡ 0) os k (of-first m (enumerate_from 1 (zip (segments m) (attributes m)))))))
    (ap without_first (run-later xs k) ∙ filter-all not-first (map in_next_module (run_of xs k)) (each-after (run_of xs k)))

pub laid-after : (run : List Portion) → is_laid (map in_next_module run) ≡ is_laid run
laid-after [] = refl
laid-after (p ∷ run) = elim (cases_Bool (not (is_some p.segment.absolute))) [
  | inl y ↦ ap is_some (cond-true (not (is_some p.segment.absolute)) (Some (in_next_module p)) (first_of (map in_next_module run)) y)
      ∙ sym (ap is_some (cond-true (not (is_some p.segment.absolute)) (Some p) (first_of run) y))
  | inr n ↦ ap is_some (cond-false (not (is_some p.segment.absolute)) (Some (in_next_module p)) (first_of (map in_next_module run)) n)
      ∙ laid-after run ∙ sym (ap is_some (cond-false (not (is_some p.segment.absolute)) (Some p) (first_of run) n))
]

-- Segments with names stay in front of others.
named-front : (xs ys : List (Classed Portion)) → Each (λ (x : Classed Portion). is_named x.1.1 ≡ true) xs → nameless_last (xs ++ ys) ≡ xs ++ nameless_last ys
named-front xs ys e =
    let named : Classed Portion → Bool = λ x. is_named x.1.1 in
    let other : Classed Portion → Bool = λ x. not (is_named x.1.1) in
    ap₂ (λ us vs. us ++ vs)
    (filter-append named xs ys ∙ ap (λ us. us ++ filter named ys) (filter-all named xs e))
    (filter-append other xs ys ∙ ap (λ us. us ++ filter other ys) (filter-none other xs (each-weaker (λ x. named x ≡ true) (λ x. other x ≡ false) (λ x y. ap not y) xs e)))
    ∙ append_assoc xs (filter named ys) (filter other ys)

pub later-parted : (zs : List (Classed Portion)) → map later (nameless_last zs) ≡ nameless_last (map later zs)
later-parted zs =
    let named : Classed Portion → Bool = λ x. is_named x.1.1 in
    let other : Classed Portion → Bool = λ x. not (is_named x.1.1) in
    map-append later (filter named zs) (filter other zs)
    ∙ ap₂ (λ us vs. us ++ vs) (sym (filter-through named later named (λ x. refl) zs)) (sym (filter-through other later other (λ x. refl) zs))

-- A module in front whose segments all have names.
pub named-in-front : (ms : List (List Rec)) (m : List Rec) → Each (λ (x : Classed Portion). is_named x.1.1 ≡ true) (portions_in (0, m))
    → nameless_last (portions (m ∷ ms)) ≡ portions_in (0, m) ++ map later (ps ms)
named-in-front ms m e =
    ap (λ zs. nameless_last (portions_in (0, m) ++ zs)) (numbered 0 ms) ∙ named-front (portions_in (0, m)) (map later (portions ms)) e
    ∙ ap (λ zs. portions_in (0, m) ++ zs) (sym (later-parted (portions ms)))

-- All runs, and those in DOS order, by their keys.
pub runs-all : (ms : List (List Rec)) (m : List Rec) → HasSegmentsOf (order_records ms) m → runs (m ∷ ms) ≡ map (run_of (portions_in (0, m) ++ map later (ps ms))) (sorted (map key (portions_in (0, m) ++ map later (ps ms))))
runs-all ms m h =
    ap runs_in (named-in-front ms m (subst (Each (λ (x : Classed Portion). is_named x.1.1 ≡ true)) (sym (front-segments ms m h)) (front-named m 1 0 (all ms))))
    ∙ runs-sorted (portions_in (0, m) ++ map later (ps ms))

pub keys-parted : (ms : List (List Rec)) (m : List Rec) → HasSegmentsOf (order_records ms) m → filter (good ms) (sorted (map key (portions_in (0, m) ++ map later (ps ms)))) ≡ parted ms
keys-parted ms m h =
    let os = portions_in (0, m) in
    ap (λ ks. filter (good ms) (sorted ks)) (map-append key os (map later (ps ms)) ∙ ap (λ ks. map key os ++ ks) (map-map key later (ps ms))) ∙ keys-ordered ms m h

pub runs-parted : (ms : List (List Rec)) → map (λ k. map in_next_module (run_of (ps ms) k)) (parted ms) ≡ map (map in_next_module) (dos_runs ms)
runs-parted ms = sym (map-map (map in_next_module) (run_of (ps ms)) (parted ms)) ∙ ap (map (map in_next_module)) (sym (parts-runs ms dos_parts))

pub dos-order : IsDosOrder
dos-order ms m h =
    let xs = ps ms in
    let whole = run_of (portions_in (0, m) ++ map later xs) in
    let all_keys = sorted (map key (portions_in (0, m) ++ map later xs)) in
    let run = λ (k : Key). map in_next_module (run_of xs k) in
    ap (λ rs. filter is_laid (map without_first rs)) (runs-all ms m h)
    ∙ ap (filter is_laid) (map-map without_first whole all_keys ∙ map-same (λ k. without_first (whole k)) run (run-without m xs) all_keys)
    ∙ filter-through is_laid run (good ms) (λ k. laid-after (run_of xs k)) all_keys
    ∙ ap (map run) (keys-parted ms m h) ∙ runs-parted ms
