-- The classes of modules with the module for their order in front.
use Rattle.std.proofs.Common.{◌≡◌, ◌∙◌, ℕ, ◌+◌, ◌*◌, List, [], ◌∷◌, ◌++◌, length, Bool, true, false, refl, sym, ap, ap₂, subst, inl, inr, append-nil, append_assoc, length-append, arith}
use Rattle.std.specs.Prelude.{◌&&◌, ◌||◌, ◌==◌, bytes_eq, flat_map, is_some, map, not, option_map, Option, Some, None, slice_get, unwrap_or, if◌then◌else◌}
use Rattle.std.specs.List.{cons_option, enumerate_from, filter, zip}
use Rattle.std.proofs.lemmas.Bool.{cases_Bool, cond-false, cond-true, eqb-true}
use Rattle.std.proofs.lemmas.Grind.{flat_map-append}
use Rattle.std.proofs.lemmas.List.{map-append}
use Rattle.std.proofs.lemmas.List.Elements.{filter-append}
use Rattle.std.proofs.lemmas.Option.{none-some, same_Some}
use Rattle.omf_records.specs.Values.{Rec}
use Rattle.omf_check.specs.Tables.{attributes, attributes_in, defined_names, defined_segments, entry, names, segment_length, segments}
use Rattle.omf_check.specs.declared.segment.SegInfo.{SegInfo}
use Rattle.omf_placement.proofs.ListLaws.{entry-at}
use Rattle.omf_layout.specs.declared.several.portion.Portion.{Portion}
use Rattle.omf_layout.specs.Own.Order.{has_name}
use Rattle.omf_layout.specs.Own.Ordered.{HasSegmentsOf}
use Rattle.omf_layout.specs.Own.Written.{end_record, segment}
use Rattle.omf_layout.specs.Several.Gathered.{distinct, names_in}
use Rattle.omf_layout.specs.Several.Order.{is_named, nameless_last}
use Rattle.omf_layout.specs.Several.Portions.{Classed, classed, name_at, portions, portions_in}
use Rattle.omf_layout.proofs.RaisedLaws.{raisings-attributes, raisings-segments}
use Rattle.omf_layout.proofs.SeveralLaws.ApartLaws.{Each}
use Rattle.omf_layout.proofs.SeveralLaws.GatherLaws.{Name, dropped, kept, other, same}
use Rattle.omf_combining.specs.Classes.{ClassesComeFirst, class_order_records, is_led, leader, leader_of, leaders, leaders_records, raise_records}
use Rattle.omf_combining.specs.declared.classes.EmptySegment.{EmptySegment}

-- ---- Names that appear first

taken : {A : Type 0} (t : A → Bool) (x : A) (xs : List A) → t x ≡ true → filter t (x ∷ xs) ≡ x ∷ filter t xs
taken t x xs e = cond-true (t x) (x ∷ filter t xs) (filter t xs) e

left-out : {A : Type 0} (t : A → Bool) (x : A) (xs : List A) → t x ≡ false → filter t (x ∷ xs) ≡ filter t xs
left-out t x xs e = cond-false (t x) (x ∷ filter t xs) (filter t xs) e

and-false : (b : Bool) → (b && false) ≡ false
and-false true = refl
and-false false = refl

-- Two filters are one.
filter-and : {A : Type 0} (p q r : A → Bool) → ((x : A) → (p x && q x) ≡ r x) → (xs : List A) → filter p (filter q xs) ≡ filter r xs
filter-and p q r e [] = refl
filter-and p q r e (x ∷ xs) = elim (cases_Bool (q x)) [
  | inl b ↦ elim (cases_Bool (p x)) [
    | inl a ↦
        ap (filter p) (taken q x xs b) ∙ taken p x (filter q xs) a ∙ ap (λ ys. x ∷ ys) (filter-and p q r e xs)
        ∙ sym (taken r x xs (sym (e x) ∙ ap₂ (λ u v. u && v) a b))
    | inr a ↦
        ap (filter p) (taken q x xs b) ∙ left-out p x (filter q xs) a ∙ filter-and p q r e xs
        ∙ sym (left-out r x xs (sym (e x) ∙ ap (λ u. u && q x) a))
  ]
  | inr b ↦ ap (filter p) (left-out q x xs b) ∙ filter-and p q r e xs ∙ sym (left-out r x xs (sym (e x) ∙ ap (λ v. p x && v) b ∙ and-false (p x)))
]

abbrev not-in : List Name → Name → Bool
not-in xs c = not (has_name xs c)

has-left : (x c : Name) → bytes_eq x c ≡ false → (zs : List Name) → has_name (filter (other x) zs) c ≡ has_name zs c
has-left x c e [] = refl
has-left x c e (z ∷ zs) = elim (cases_Bool (bytes_eq x z)) [
  | inl t ↦
      ap (λ ys. has_name ys c) (dropped x z zs t) ∙ has-left x c e zs
      ∙ sym (ap (λ b. b || has_name zs c) (ap (λ w. bytes_eq w c) (sym (same x z t)) ∙ e))
  | inr f ↦ ap (λ ys. has_name ys c) (kept x z zs f) ∙ ap (λ b. bytes_eq z c || b) (has-left x c e zs)
]

-- A name is another one and not in a list, if it is not in the list with that one in front.
in-neither : (x : Name) (xs : List Name) (c : Name) → (other x c && not-in xs c) ≡ not-in (x ∷ filter (other x) xs) c
in-neither x xs c = elim (cases_Bool (bytes_eq x c)) [
  | inl t ↦ ap (λ b. not b && not-in xs c) t ∙ sym (ap (λ b. not (b || has_name (filter (other x) xs) c)) t)
  | inr f ↦
      ap (λ b. not b && not-in xs c) f ∙ ap not (sym (has-left x c f xs))
      ∙ sym (ap (λ b. not (b || has_name (filter (other x) xs) c)) f)
]

in-none : (ds : List Name) → filter (not-in []) ds ≡ ds
in-none [] = refl
in-none (c ∷ cs) = ap (λ ys. c ∷ ys) (in-none cs)

distinct-both : (xs ys : List Name) → distinct (xs ++ ys) ≡ distinct xs ++ filter (not-in (distinct xs)) (distinct ys)
distinct-both [] ys = sym (in-none (distinct ys))
distinct-both (x ∷ xs) ys =
    let ds = distinct xs in
    let es = distinct ys in
    ap (λ zs. x ∷ filter (other x) zs) (distinct-both xs ys)
    ∙ ap (λ zs. x ∷ zs) (filter-append (other x) ds (filter (not-in ds) es)
    ∙ ap (λ zs. filter (other x) ds ++ zs) (filter-and (other x) (not-in ds) (not-in (x ∷ filter (other x) ds)) (in-neither x ds) es))

-- ---- The classes that have an empty segment

class-of : (ms : List (List Rec)) (c : Name) (l : EmptySegment) → leader ms c ≡ Some l → l.class ≡ c
class-of ms c l e = by _ _ e
  where
    by : (b : Bool) (o : Option (Classed Portion)) → (if b then None else option_map (λ x. leader_of ms c x.1.1) o) ≡ Some l → l.class ≡ c
    by true o g = absurd (none-some l g)
    by false None g = absurd (none-some l g)
    by false (Some x) g = sym (ap (λ (k : EmptySegment). k.class) (same_Some (leader_of ms c x.1.1) l g))

abbrev classes-of : List EmptySegment → List Name
classes-of ls = map (λ l. l.class) ls

led-or-not : (ms : List (List Rec)) (c : Name) (cs : List Name) (o : Option EmptySegment) → leader ms c ≡ o → classes-of (leaders ms cs) ≡ filter (is_led ms) cs
    → classes-of (cons_option o (leaders ms cs)) ≡ filter (is_led ms) (c ∷ cs)
led-or-not ms c cs None e h = h ∙ sym (left-out (is_led ms) c cs (ap is_some e))
led-or-not ms c cs (Some l) e h = ap₂ (λ x xs. x ∷ xs) (class-of ms c l e) h ∙ sym (taken (is_led ms) c cs (ap is_some e))

led-classes : (ms : List (List Rec)) (cs : List Name) → classes-of (leaders ms cs) ≡ filter (is_led ms) cs
led-classes ms [] = refl
led-classes ms (c ∷ cs) = led-or-not ms c cs (leader ms c) refl (led-classes ms cs)

-- ---- The tables of the module

abbrev leader-names : List EmptySegment → List Name
leader-names [] = []
leader-names (s ∷ ss) = s.class ∷ s.name ∷ leader-names ss

abbrev info : ℕ → EmptySegment → SegInfo
info j s = record { length = segment_length 0x99 (segment s.attribute 0 (2 * j + 2) (2 * j + 1)); absolute = None; name = 2 * j + 2; class = 2 * j + 1 }

abbrev infos : ℕ → List EmptySegment → List SegInfo
infos j [] = []
infos j (s ∷ ss) = info j s ∷ infos (j + 1) ss

abbrev bytes : List EmptySegment → List ℕ
bytes ss = map (λ s. s.attribute) ss

names-of : (j : ℕ) (ss : List EmptySegment) → names (leaders_records j ss) ≡ leader-names ss
names-of j [] = refl
names-of j (s ∷ ss) = ap (λ ns. s.class ∷ s.name ∷ ns) (names-of (j + 1) ss)

segments-of : (j : ℕ) (ss : List EmptySegment) → segments (leaders_records j ss) ≡ infos j ss
segments-of j [] = refl
segments-of j (s ∷ ss) = ap (λ is. info j s ∷ is) (segments-of (j + 1) ss)

attributes-of : (j : ℕ) (ss : List EmptySegment) → attributes (leaders_records j ss) ≡ bytes ss
attributes-of j [] = refl
attributes-of j (s ∷ ss) = ap (λ bs. s.attribute ∷ bs) (attributes-of (j + 1) ss)

abbrev end : List Rec
end = end_record ∷ []

module _ (classes : List Name) (ms : List (List Rec)) where
  abbrev all : List EmptySegment
  all = leaders ms classes

  abbrev rest : List Rec
  rest = raise_records all ++ end

  abbrev flags : List Bool
  flags = map (λ s. s.raised) all

  order-names : names (class_order_records classes ms) ≡ leader-names all ++ names rest
  order-names = flat_map-append (λ r. defined_names r.contents) (leaders_records 0 all) rest ∙ ap (λ ns. ns ++ names rest) (names-of 0 all)

  order-segments : segments (class_order_records classes ms) ≡ infos 0 all
  order-segments = flat_map-append (λ r. defined_segments r.kind r.contents) (leaders_records 0 all) rest ∙ ap₂ (λ us vs. us ++ vs) (segments-of 0 all) (raisings-segments 1 flags end) ∙ append-nil (infos 0 all)

  order-attributes : attributes (class_order_records classes ms) ≡ bytes all
  order-attributes = flat_map-append (λ r. attributes_in r.contents) (leaders_records 0 all) rest ∙ ap₂ (λ us vs. us ++ vs) (attributes-of 0 all) (raisings-attributes 1 flags end) ∙ append-nil (bytes all)

-- ---- Its classes

at-end : {A : Type 0} (xs : List A) (y : A) (ys : List A) → slice_get (xs ++ y ∷ ys) (length xs) ≡ Some y
at-end [] y ys = refl
at-end (x ∷ xs) y ys = at-end xs y ys

named-at : (m : List Rec) (before : List Name) (n : Name) (after : List Name) (i : ℕ) → names m ≡ before ++ n ∷ after → i ≡ length before + 1 → name_at m i ≡ n
named-at m before n after i e g =
    ap (λ o. unwrap_or o []) (ap (entry (names m)) g ∙ entry-at (names m) (length before) ∙ ap (λ ns. slice_get ns (length before)) e ∙ at-end before n after)

front-classes : (m : List Rec) (before after : List Name) (i j : ℕ) (ss : List EmptySegment) → names m ≡ before ++ (leader-names ss ++ after) → length before ≡ 2 * j
    → names_in (map (classed m 0) (enumerate_from i (zip (infos j ss) (bytes ss)))) ≡ classes-of ss
front-classes m before after i j [] e n = refl
front-classes m before after i j (s ∷ ss) e n =
    let rest : names m ≡ (before ++ s.class ∷ s.name ∷ []) ++ (leader-names ss ++ after) = e ∙ sym (append_assoc before (s.class ∷ s.name ∷ []) (leader-names ss ++ after)) in
    let two = length-append before (s.class ∷ s.name ∷ []) in
    ap₂ (λ k ks. k ∷ ks) (named-at m before s.class (s.name ∷ (leader-names ss ++ after)) (2 * j + 1) e (omega (arith, n)))
    (front-classes m (before ++ s.class ∷ s.name ∷ []) after (i + 1) (j + 1) ss rest (omega (arith, n, two)))

classes-in-front : (classes : List Name) (ms : List (List Rec)) (m : List Rec) → HasSegmentsOf (class_order_records classes ms) m → names_in (portions_in (0, m)) ≡ classes-of (leaders ms classes)
classes-in-front classes ms m h =
    ap₂ (λ ss bs. names_in (map (classed m 0) (enumerate_from 1 (zip ss bs)))) (h.segments ∙ order-segments classes ms) (h.attributes ∙ order-attributes classes ms)
    ∙ front-classes m [] (names (rest classes ms)) 1 0 (leaders ms classes) (h.names ∙ order-names classes ms) refl

-- ---- The classes of modules, whatever their numbers

names-both : (xs ys : List (Classed Portion)) → names_in (xs ++ ys) ≡ names_in xs ++ names_in ys
names-both xs ys = map-append (λ (x : Classed Portion). x.0) xs ys

-- Of segments that pass a test on their SEGDEFs.
abbrev passing : (SegInfo → Bool) → List (Classed Portion) → List (Classed Portion)
passing u xs = filter (λ x. u x.1.1.segment) xs

any-number : (u : SegInfo → Bool) (m : List Rec) (j k : ℕ) (xs : List (ℕ × (SegInfo × ℕ))) → names_in (passing u (map (classed m j) xs)) ≡ names_in (passing u (map (classed m k) xs))
any-number u m j k [] = refl
any-number u m j k (x ∷ xs) =
    let t : Classed Portion → Bool = λ y. u y.1.1.segment in
    elim (cases_Bool (u x.1.0)) [
      | inl y ↦
          ap names_in (taken t (classed m j x) (map (classed m j) xs) y) ∙ ap (λ ns. name_at m x.1.0.class ∷ ns) (any-number u m j k xs)
          ∙ sym (ap names_in (taken t (classed m k x) (map (classed m k) xs) y))
      | inr n ↦
          ap names_in (left-out t (classed m j x) (map (classed m j) xs) n) ∙ any-number u m j k xs
          ∙ sym (ap names_in (left-out t (classed m k x) (map (classed m k) xs) n))
    ]

passing-both : (u : SegInfo → Bool) (xs ys : List (Classed Portion)) → names_in (passing u (xs ++ ys)) ≡ names_in (passing u xs) ++ names_in (passing u ys)
passing-both u xs ys = ap names_in (filter-append (λ (x : Classed Portion). u x.1.1.segment) xs ys) ∙ names-both (passing u xs) (passing u ys)

any-numbers : (u : SegInfo → Bool) (j k : ℕ) (ms : List (List Rec))
    → names_in (passing u (flat_map portions_in (enumerate_from j ms))) ≡ names_in (passing u (flat_map portions_in (enumerate_from k ms)))
any-numbers u j k [] = refl
any-numbers u j k (m ∷ ms) =
    passing-both u (portions_in (j, m)) (flat_map portions_in (enumerate_from (j + 1) ms))
    ∙ ap₂ (λ us vs. us ++ vs) (any-number u m j k (enumerate_from 1 (zip (segments m) (attributes m)))) (any-numbers u (j + 1) (k + 1) ms)
    ∙ sym (passing-both u (portions_in (k, m)) (flat_map portions_in (enumerate_from (k + 1) ms)))

-- The segments in front have names, and so come before those of the modules.
abbrev has_name_index : SegInfo → Bool
has_name_index s = not (s.name == 0)

abbrev has_none : SegInfo → Bool
has_none s = not (not (s.name == 0))

abbrev AreNamed : List (Classed Portion) → Type 0
AreNamed xs = Each (λ (x : Classed Portion). is_named x.1.1 ≡ true) xs

all-named : (xs : List (Classed Portion)) → AreNamed xs → passing has_name_index xs ≡ xs
all-named [] e = refl
all-named (x ∷ xs) e = taken (λ (y : Classed Portion). is_named y.1.1) x xs e.0 ∙ ap (λ ys. x ∷ ys) (all-named xs e.1)

none-other : (xs : List (Classed Portion)) → AreNamed xs → passing has_none xs ≡ []
none-other [] e = refl
none-other (x ∷ xs) e = left-out (λ (y : Classed Portion). not (is_named y.1.1)) x xs (ap not e.0) ∙ none-other xs e.1

names-front : (xs ys : List (Classed Portion)) → AreNamed xs → names_in (nameless_last (xs ++ ys)) ≡ names_in xs ++ (names_in (passing has_name_index ys) ++ names_in (passing has_none ys))
names-front xs ys e =
    names-both (passing has_name_index (xs ++ ys)) (passing has_none (xs ++ ys))
    ∙ ap₂ (λ us vs. us ++ vs) (passing-both has_name_index xs ys ∙ ap (λ zs. names_in zs ++ names_in (passing has_name_index ys)) (all-named xs e))
    (passing-both has_none xs ys ∙ ap (λ zs. names_in zs ++ names_in (passing has_none ys)) (none-other xs e))
    ∙ append_assoc (names_in xs) (names_in (passing has_name_index ys)) (names_in (passing has_none ys))

front-named : (m : List Rec) (i j : ℕ) (ss : List EmptySegment) → AreNamed (map (classed m 0) (enumerate_from i (zip (infos j ss) (bytes ss))))
front-named m i j [] = tt
front-named m i j (s ∷ ss) = (
  elim (cases_Bool (2 * j + 2 == 0)) [
    | inl y ↦ absurd (let e = eqb-true (2 * j + 2) 0 y in omega (arith, e))
    | inr n ↦ ap not n
  ],
  front-named m (i + 1) (j + 1) ss,
)

named-front : (classes : List Name) (ms : List (List Rec)) (m : List Rec) → HasSegmentsOf (class_order_records classes ms) m → AreNamed (portions_in (0, m))
named-front classes ms m h =
    subst AreNamed
    (sym (ap₂ (λ ss bs. map (classed m 0) (enumerate_from 1 (zip ss bs))) (h.segments ∙ order-segments classes ms) (h.attributes ∙ order-attributes classes ms)))
    (front-named m 1 0 (leaders ms classes))

pub classes-come-first : ClassesComeFirst
classes-come-first classes ms m h =
    let own = portions ms in
    ap distinct (names-front (portions_in (0, m)) (flat_map portions_in (enumerate_from 1 ms)) (named-front classes ms m h)
    ∙ ap₂ (λ us vs. us ++ vs) (classes-in-front classes ms m h ∙ led-classes ms classes)
    (ap₂ (λ us vs. us ++ vs) (any-numbers has_name_index 1 0 ms) (any-numbers has_none 1 0 ms) ∙ sym (names-both (passing has_name_index own) (passing has_none own))))
    ∙ distinct-both (filter (is_led ms) classes) (names_in (nameless_last own))
