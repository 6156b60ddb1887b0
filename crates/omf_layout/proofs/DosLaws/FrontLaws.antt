-- The segments of the module for DOS order.
use Rattle.std.proofs.Common.{◌≡◌, ℕ, ◌+◌, ◌*◌, List, [], ◌∷◌, ◌++◌, length, Bool, true, false, refl, sym, ap, ap₂, ◌∙◌, inl, inr, append-nil, append_assoc, length-append, arith}
use Rattle.std.specs.Prelude.{map, not, ◌==◌, Some, None, slice_get, unwrap_or}
use Rattle.std.specs.List.{zip, enumerate_from}
use Rattle.std.proofs.lemmas.Bool.{cases_Bool, eqb-true}
use Rattle.std.proofs.lemmas.Grind.{flat_map-append}
use Rattle.omf_records.specs.Values.{Rec}
use Rattle.omf_check.specs.Tables.{attributes, attributes_in, defined_names, defined_segments, entry, names, segment_length, segments}
use Rattle.omf_check.specs.declared.segment.SegInfo.{SegInfo}
use Rattle.omf_placement.proofs.ListLaws.{entry-at}
use Rattle.omf_layout.specs.declared.own.slots.Slot.{Slot}
use Rattle.omf_layout.specs.declared.several.portion.Portion.{Portion}
use Rattle.omf_layout.specs.Several.Order.{is_named}
use Rattle.omf_layout.specs.Several.Portions.{Classed, classed, name_at, portions_in}
use Rattle.omf_layout.specs.Own.Communals.{are_grouped}
use Rattle.omf_layout.specs.Own.Order.{bss_names, bss_slots, data_names, data_slots, dos_slots, end_publics, missing, order_group, order_records, raise_records, slots, slots_records}
use Rattle.omf_layout.specs.Own.Ordered.{HasSegmentsOf}
use Rattle.omf_layout.specs.Own.Written.{end_record, segment}
use Rattle.omf_layout.specs.Wants.{raised, raised_by}
use Rattle.omf_layout.proofs.RaisedLaws.{raised_from, raisings-attributes, raisings-raise, raisings-segments}
use Rattle.omf_layout.proofs.SeveralLaws.ApartLaws.{Each}
use Rattle.omf_layout.proofs.SeveralLaws.GatherLaws.{Name}
use Rattle.omf_layout.proofs.DosLaws.KeyLaws.{Key}
use Rattle.omf_layout.proofs.DosLaws.RunLaws.{key}

abbrev pub slot_key : Slot → Key
slot_key s = (s.class, s.name)

-- ---- The tables of its records

abbrev slot-names : List Slot → List Name
slot-names [] = []
slot-names (s ∷ ss) = s.class ∷ s.name ∷ slot-names ss

abbrev pub info : ℕ → Slot → SegInfo
info j s = record { length = segment_length 0x99 (segment s.attribute 0 (2 * j + 2) (2 * j + 1)); absolute = None; name = 2 * j + 2; class = 2 * j + 1 }

abbrev pub infos : ℕ → List Slot → List SegInfo
infos j [] = []
infos j (s ∷ ss) = info j s ∷ infos (j + 1) ss

abbrev bytes : List Slot → List ℕ
bytes ss = map (λ s. s.attribute) ss

names-of : (j : ℕ) (ss : List Slot) → names (slots_records j ss) ≡ slot-names ss
names-of j [] = refl
names-of j (s ∷ ss) = ap (λ ns. s.class ∷ s.name ∷ ns) (names-of (j + 1) ss)

segments-of : (j : ℕ) (ss : List Slot) → segments (slots_records j ss) ≡ infos j ss
segments-of j [] = refl
segments-of j (s ∷ ss) = ap (λ is. info j s ∷ is) (segments-of (j + 1) ss)

attributes-of : (j : ℕ) (ss : List Slot) → attributes (slots_records j ss) ≡ bytes ss
attributes-of j [] = refl
attributes-of j (s ∷ ss) = ap (λ bs. s.attribute ∷ bs) (attributes-of (j + 1) ss)

raised-of : (j : ℕ) (ss : List Slot) → raised (slots_records j ss) ≡ []
raised-of j [] = refl
raised-of j (s ∷ ss) = raised-of (j + 1) ss

-- The records after the segments define no others.
publics-raised : (i : ℕ) (ns : List Name) (rs : List Rec) → raised (end_publics i ns ++ rs) ≡ raised rs
publics-raised i [] rs = refl
publics-raised i (n ∷ ns) rs = publics-raised i ns rs

group-raised : (g : Bool) (n : ℕ) (rs : List Rec) → raised (order_group g n ++ rs) ≡ raised rs
group-raised true n rs = refl
group-raised false n rs = refl

publics-segments : (i : ℕ) (ns : List Name) (rs : List Rec) → segments (end_publics i ns ++ rs) ≡ segments rs
publics-segments i [] rs = refl
publics-segments i (n ∷ ns) rs = publics-segments i ns rs

publics-attributes : (i : ℕ) (ns : List Name) (rs : List Rec) → attributes (end_publics i ns ++ rs) ≡ attributes rs
publics-attributes i [] rs = refl
publics-attributes i (n ∷ ns) rs = publics-attributes i ns rs

group-segments : (g : Bool) (n : ℕ) (rs : List Rec) → segments (order_group g n ++ rs) ≡ segments rs
group-segments true n rs = refl
group-segments false n rs = refl

group-attributes : (g : Bool) (n : ℕ) (rs : List Rec) → attributes (order_group g n ++ rs) ≡ attributes rs
group-attributes true n rs = refl
group-attributes false n rs = refl

abbrev last_records : Bool → ℕ → ℕ → List Name → ℕ → List Name → List Rec
last_records g n i is k ks = order_group g n ++ (end_publics i is ++ (end_publics k ks ++ end_record ∷ []))

last-segments : (g : Bool) (n i : ℕ) (is : List Name) (k : ℕ) (ks : List Name) → segments (last_records g n i is k ks) ≡ []
last-segments g n i is k ks =
    group-segments g n (end_publics i is ++ (end_publics k ks ++ end_record ∷ [])) ∙ publics-segments i is (end_publics k ks ++ end_record ∷ []) ∙ publics-segments k ks (end_record ∷ [])

last-attributes : (g : Bool) (n i : ℕ) (is : List Name) (k : ℕ) (ks : List Name) → attributes (last_records g n i is k ks) ≡ []
last-attributes g n i is k ks =
    group-attributes g n (end_publics i is ++ (end_publics k ks ++ end_record ∷ [])) ∙ publics-attributes i is (end_publics k ks ++ end_record ∷ []) ∙ publics-attributes k ks (end_record ∷ [])

last-raised : (g : Bool) (n i : ℕ) (is : List Name) (k : ℕ) (ks : List Name) → raised (last_records g n i is k ks) ≡ []
last-raised g n i is k ks =
    group-raised g n (end_publics i is ++ (end_publics k ks ++ end_record ∷ [])) ∙ publics-raised i is (end_publics k ks ++ end_record ∷ []) ∙ publics-raised k ks (end_record ∷ [])

module _ (ms : List (List Rec)) where
  abbrev pub all : List Slot
  all = dos_slots (are_grouped ms) (slots ms)

  abbrev last : List Rec
  last = last_records (are_grouped ms) (length all) (length (data_slots (slots ms)) + 1) (missing ms data_names) (length (bss_slots (are_grouped ms) (slots ms)) + 1) (missing ms bss_names)

  -- Whether each is raised.
  abbrev pub flags : List Bool
  flags = map (λ s. s.raised) all

  abbrev rest : List Rec
  rest = raise_records all ++ last

  order-names : names (order_records ms) ≡ slot-names all ++ names rest
  order-names = flat_map-append (λ r. defined_names r.contents) (slots_records 0 all) rest ∙ ap (λ ns. ns ++ names rest) (names-of 0 all)

  pub order-segments : segments (order_records ms) ≡ infos 0 all
  order-segments =
      flat_map-append (λ r. defined_segments r.kind r.contents) (slots_records 0 all) rest
      ∙ ap₂ (λ us vs. us ++ vs) (segments-of 0 all) (raisings-segments 1 flags last ∙ last-segments (are_grouped ms) (length all) (length (data_slots (slots ms)) + 1) (missing ms data_names) (length (bss_slots (are_grouped ms) (slots ms)) + 1) (missing ms bss_names))
      ∙ append-nil (infos 0 all)

  order-attributes : attributes (order_records ms) ≡ bytes all
  order-attributes =
      flat_map-append (λ r. attributes_in r.contents) (slots_records 0 all) rest
      ∙ ap₂ (λ us vs. us ++ vs) (attributes-of 0 all) (raisings-attributes 1 flags last ∙ last-attributes (are_grouped ms) (length all) (length (data_slots (slots ms)) + 1) (missing ms data_names) (length (bss_slots (are_grouped ms) (slots ms)) + 1) (missing ms bss_names))
      ∙ append-nil (bytes all)

  pub order-raised : raised (order_records ms) ≡ raised_from 1 flags
  order-raised =
      flat_map-append (λ r. raised_by r.contents) (slots_records 0 all) rest
      ∙ ap₂ (λ us vs. us ++ vs) (raised-of 0 all) (raisings-raise 1 flags last (last-raised (are_grouped ms) (length all) (length (data_slots (slots ms)) + 1) (missing ms data_names) (length (bss_slots (are_grouped ms) (slots ms)) + 1) (missing ms bss_names)))

-- ---- Its segments

-- Those of slots, from an index on.
abbrev pub front : List Rec → ℕ → ℕ → List Slot → List (Classed Portion)
front m i j [] = []
front m i j (s ∷ ss) = classed m 0 (i, (info j s, s.attribute)) ∷ front m (i + 1) (j + 1) ss

front-all : (m : List Rec) (i j : ℕ) (ss : List Slot) → map (classed m 0) (enumerate_from i (zip (infos j ss) (bytes ss))) ≡ front m i j ss
front-all m i j [] = refl
front-all m i j (s ∷ ss) = ap (λ xs. classed m 0 (i, (info j s, s.attribute)) ∷ xs) (front-all m (i + 1) (j + 1) ss)

pub front-segments : (ms : List (List Rec)) (m : List Rec) → HasSegmentsOf (order_records ms) m → portions_in (0, m) ≡ front m 1 0 (all ms)
front-segments ms m h =
    ap₂ (λ ss bs. map (classed m 0) (enumerate_from 1 (zip ss bs))) (h.segments ∙ order-segments ms) (h.attributes ∙ order-attributes ms) ∙ front-all m 1 0 (all ms)

-- Each has a name.
pub front-named : (m : List Rec) (i j : ℕ) (ss : List Slot) → Each (λ (x : Classed Portion). is_named x.1.1 ≡ true) (front m i j ss)
front-named m i j [] = tt
front-named m i j (s ∷ ss) = (
  elim (cases_Bool (2 * j + 2 == 0)) [
    | inl y ↦ absurd (let e = eqb-true (2 * j + 2) 0 y in omega (arith, e))
    | inr n ↦ ap not n
  ],
  front-named m (i + 1) (j + 1) ss,
)

-- Their names.
at-end : {A : Type 0} (xs : List A) (y : A) (ys : List A) → slice_get (xs ++ y ∷ ys) (length xs) ≡ Some y
at-end [] y ys = refl
at-end (x ∷ xs) y ys = at-end xs y ys

named-at : (m : List Rec) (before : List Name) (n : Name) (after : List Name) (i : ℕ) → names m ≡ before ++ n ∷ after → i ≡ length before + 1 → name_at m i ≡ n
named-at m before n after i e g =
    ap (λ o. unwrap_or o []) (ap (entry (names m)) g ∙ entry-at (names m) (length before) ∙ ap (λ ns. slice_get ns (length before)) e ∙ at-end before n after)

front-keys : (m : List Rec) (before after : List Name) (i j : ℕ) (ss : List Slot) → names m ≡ before ++ (slot-names ss ++ after) → length before ≡ 2 * j → map key (front m i j ss) ≡ map slot_key ss
front-keys m before after i j [] e n = refl
front-keys m before after i j (s ∷ ss) e n =
    let second : names m ≡ (before ++ s.class ∷ []) ++ s.name ∷ (slot-names ss ++ after) = e ∙ sym (append_assoc before (s.class ∷ []) (s.name ∷ (slot-names ss ++ after))) in
    let third : names m ≡ (before ++ s.class ∷ s.name ∷ []) ++ (slot-names ss ++ after) = e ∙ sym (append_assoc before (s.class ∷ s.name ∷ []) (slot-names ss ++ after)) in
    let one = length-append before (s.class ∷ []) in
    let two = length-append before (s.class ∷ s.name ∷ []) in
    let class = named-at m before s.class (s.name ∷ (slot-names ss ++ after)) (2 * j + 1) e (omega (arith, n)) in
    let name = named-at m (before ++ s.class ∷ []) s.name (slot-names ss ++ after) (2 * j + 2) second (omega (arith, n, one)) in
    ap₂ (λ k ks. k ∷ ks) (ap₂ (λ c d. (c, d)) class name)
    (front-keys m (before ++ s.class ∷ s.name ∷ []) after (i + 1) (j + 1) ss third (omega (arith, n, two)))

pub keys-in-front : (ms : List (List Rec)) (m : List Rec) → HasSegmentsOf (order_records ms) m → map key (portions_in (0, m)) ≡ map slot_key (all ms)
keys-in-front ms m h = ap (map key) (front-segments ms m h) ∙ front-keys m [] (names (rest ms)) 1 0 (all ms) (h.names ∙ order-names ms) refl
