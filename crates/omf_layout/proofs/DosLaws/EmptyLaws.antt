-- The segments of the module for DOS order are empty, and are aligned and combine as those of their class and name.
use Rattle.std.proofs.Common.{◌≡◌, ℕ, ◌+◌, List, [], ◌∷◌, ◌++◌, length, Bool, true, false, refl, sym, ap, ◌∙◌, subst, inl, inr}
use Rattle.std.specs.Prelude.{map, flat_map, filter_map, ◌^◌, ◌&&◌, cond, Option, Some, None, codes, bytes_eq}
use Rattle.std.specs.List.{filter, cons_option}
use Rattle.std.proofs.lemmas.Bool.{cases_Bool, cond-false, cond-true, true≢false}
use Rattle.omf_records.specs.Values.{Contents, Rec, is_big}
use Rattle.omf_frame.specs.Bytes.{is_one_of}
use Rattle.omf_check.specs.Tables.{data_in, segments}
use Rattle.omf_check.specs.declared.segment.SegInfo.{SegInfo}
use Rattle.omf_layout.specs.Wants.{alignment_by, raised}
use Rattle.omf_layout.specs.declared.alignment.Alignment.{Alignment}
use Rattle.omf_layout.specs.declared.alignment.Alignment.TheVariants as align
use Rattle.omf_layout.specs.declared.several.portion.Combination.{Combination}
use Rattle.omf_layout.specs.declared.several.portion.Combination.TheVariants as comb
use Rattle.omf_layout.specs.declared.several.portion.Portion.{Portion}
use Rattle.omf_layout.specs.declared.own.slots.DosPart.{DosPart}
use Rattle.omf_layout.specs.declared.own.slots.DosPart.TheVariants as part
use Rattle.omf_layout.specs.declared.own.slots.Slot.{Slot}
use Rattle.omf_layout.specs.Several.Gathered.{of_name}
use Rattle.omf_layout.specs.Several.Order.{is_named, runs}
use Rattle.omf_layout.specs.Several.Portions.{Classed, classed, combination_named, portions, portions_in}
use Rattle.omf_layout.specs.Own.Communals.{are_grouped}
use Rattle.omf_layout.specs.Own.Order.{alignment_bits, bss_names, bss_slots, combination_bits, data_names, data_slots, dos_slots, end_publics, first_of, has_name, in_part, is_block, is_same_part, marker, missing, order_group, order_records, slot, slots, slots_records}
use Rattle.omf_layout.specs.Own.Written.{end_record, raisings}
use Rattle.omf_layout.specs.Own.Ordered.{HasSegmentsOf, HaveNoEnds, IsEmptyOrder, ends, is_end}
use Rattle.omf_layout.proofs.SeveralLaws.ApartLaws.{Each, each-at}
use Rattle.omf_layout.proofs.SeveralLaws.GatherLaws.{Name, same}
use Rattle.omf_layout.proofs.DosLaws.FrontLaws.{all, flags, front, front-segments, info, infos, keys-in-front, order-raised, order-segments, slot_key}
use Rattle.omf_layout.proofs.RaisedLaws.{AreRaisedFrom, all-raised}
use Rattle.omf_layout.proofs.SeveralLaws.FoundLaws.{each-parted}
use Rattle.omf_layout.proofs.DosLaws.KeyLaws.{Key, each-append, each-filtered, filter-none, left-out, sorted, taken}
use Rattle.omf_layout.proofs.DosLaws.PartLaws.{each-run, first-key, ps}
use Rattle.omf_layout.proofs.DosLaws.RunLaws.{key, run_of, runs-sorted}

-- The attribute byte of an empty segment, and whether it is raised, give its alignment and its combination.
bits-read : (a : Alignment) (c : Combination) → let b = alignment_bits a + combination_bits c in (alignment_by (is_block a) b ≡ a) × ((combination_named b ≡ c) × (is_big b ≡ false))
bits-read align.Byte comb.Joined = (refl, (refl, refl))
bits-read align.Byte comb.Common = (refl, (refl, refl))
bits-read align.Byte comb.Alone = (refl, (refl, refl))
bits-read align.Word comb.Joined = (refl, (refl, refl))
bits-read align.Word comb.Common = (refl, (refl, refl))
bits-read align.Word comb.Alone = (refl, (refl, refl))
bits-read align.Paragraph comb.Joined = (refl, (refl, refl))
bits-read align.Paragraph comb.Common = (refl, (refl, refl))
bits-read align.Paragraph comb.Alone = (refl, (refl, refl))
bits-read align.Page comb.Joined = (refl, (refl, refl))
bits-read align.Page comb.Common = (refl, (refl, refl))
bits-read align.Page comb.Alone = (refl, (refl, refl))
bits-read align.Dword comb.Joined = (refl, (refl, refl))
bits-read align.Dword comb.Common = (refl, (refl, refl))
bits-read align.Dword comb.Alone = (refl, (refl, refl))
bits-read align.Block comb.Joined = (refl, (refl, refl))
bits-read align.Block comb.Common = (refl, (refl, refl))
bits-read align.Block comb.Alone = (refl, (refl, refl))

-- It is aligned and combines like a portion.
pub record IsLike (a : Alignment) (c : Combination) (p : Portion) : Type 0 where
  pub is_first : p.«module» ≡ 0
  pub empty : p.segment.length ≡ 0
  pub relative : p.segment.absolute ≡ None
  pub aligned : p.alignment ≡ a
  pub combined : p.combination ≡ c

-- The same of an attribute byte of a segment that is raised, or is not.
record IsByteOf (a : Alignment) (c : Combination) (r : Bool) (b : ℕ) : Type 0 where
  pub aligned : alignment_by r b ≡ a
  pub combined : combination_named b ≡ c
  pub small : is_big b ≡ false

byte-of : (a : Alignment) (c : Combination) → IsByteOf a c (is_block a) (alignment_bits a + combination_bits c)
byte-of a c = let r = bits-read a c in record { aligned = r.0; combined = r.1.0; small = r.1.1 }

-- What holds of the empty segments and of the markers holds of all in DOS order.
each-in-dos : (P : Slot → Type 0) (ss : List Slot) → Each P ss → (g : Bool) → Each P (marker g (codes "END OF DATA")) → Each P (marker g (codes "END OF BSS")) → Each P (dos_slots g ss)
each-in-dos P ss e g d b =
    let one = λ (p : DosPart). in_part p ss in
    let first = marker g (codes "END OF DATA") in
    let second = marker g (codes "END OF BSS") in
    let in-one : (p : DosPart) → Each P (in_part p ss) = λ p. each-filtered P (λ s. is_same_part p s.part) ss e in
    let datas : Each P (data_slots ss) =
    each-append P (one part.Code) (one part.Outside ++ (one part.Begin ++ one part.Data)) (in-one part.Code)
    (each-append P (one part.Outside) (one part.Begin ++ one part.Data) (in-one part.Outside)
    (each-append P (one part.Begin) (one part.Data) (in-one part.Begin) (in-one part.Data))) in
    each-append P (bss_slots g ss) (second ++ one part.Stack)
    (each-append P (data_slots ss) (first ++ one part.Bss) datas (each-append P first (one part.Bss) d (in-one part.Bss)))
    (each-append P second (one part.Stack) b (in-one part.Stack))

abbrev is-there : {A : Type 0} → List A → Bool
is-there [] = false
is-there (x ∷ xs) = true

some-none : {A B : Type 0} (x : A) (xs : List A) → x ∷ xs ≡ [] → B
some-none x xs e = absurd (true≢false (ap is-there e))

abbrev first-or : Key → List Key → Key
first-or d [] = d
first-or d (k ∷ ks) = k

abbrev rest-of : List Key → List Key
rest-of [] = []
rest-of (k ∷ ks) = ks

module _ (ms : List (List Rec)) where
  -- How the segments of the module for DOS order are, by their class and name.
  abbrev pub IsLikeFirst : Option Portion → Portion → Type 0
  IsLikeFirst None e = IsLike align.Byte comb.Joined e
  IsLikeFirst (Some p) e = IsLike p.alignment p.combination e

  abbrev IsByteFor : Option Portion → Bool → ℕ → Type 0
  IsByteFor None r b = IsByteOf align.Byte comb.Joined r b
  IsByteFor (Some p) r b = IsByteOf p.alignment p.combination r b

  abbrev first : Key → Option Portion
  first k = first_of (run_of (ps ms) k)

  abbrev IsSlot : Slot → Type 0
  IsSlot s = IsByteFor (first (slot_key s)) s.raised s.attribute

  slot-for : (p : Portion) (o : Option Portion) → o ≡ Some p → IsByteFor o (slot ms p).raised (slot ms p).attribute
  slot-for p o e = subst (λ q. IsByteFor q (slot ms p).raised (slot ms p).attribute) (sym e) (byte-of p.alignment p.combination)

  slots-of : (ks : List Key) → Each IsSlot (map (slot ms) (filter_map first_of (map (run_of (ps ms)) ks)))
  slots-of [] = tt
  slots-of (k ∷ ks) = by (first k) refl (slots-of ks) where
    by : (o : Option Portion) → first k ≡ o → Each IsSlot (map (slot ms) (filter_map first_of (map (run_of (ps ms)) ks)))
        → Each IsSlot (map (slot ms) (cons_option (first k) (filter_map first_of (map (run_of (ps ms)) ks))))
    by None e rest = subst (λ o. Each IsSlot (map (slot ms) (cons_option o (filter_map first_of (map (run_of (ps ms)) ks))))) (sym e) rest
    by (Some p) e rest = subst (λ o. Each IsSlot (map (slot ms) (cons_option o (filter_map first_of (map (run_of (ps ms)) ks))))) (sym e)
        (slot-for p (first (slot_key (slot ms p))) (ap first (sym (first-key ms k p e)) ∙ e), rest)

  all-slots : Each IsSlot (slots ms)
  all-slots = subst (λ rs. Each IsSlot (map (slot ms) (filter_map first_of rs))) (sym (runs-sorted (ps ms))) (slots-of (sorted (map key (ps ms))))

  -- Without segments in the classes of the markers.
  module _ (none : HaveNoEnds ms) where
    none-in : (xs : List (Classed Portion)) → filter is_end xs ≡ [] → (c : Name) → has_name ends c ≡ true → run_of xs (c, c) ≡ []
    none-in [] h c w = refl
    none-in (x ∷ xs) h c w = elim (cases_Bool (is_end x)) [
      | inl y ↦ absurd (some-none x (filter is_end xs) (sym (taken is_end x xs y) ∙ h))
      | inr n ↦
          let rest = none-in xs (sym (left-out is_end x xs n) ∙ h) c w in
          elim (cases_Bool (bytes_eq c x.0)) [
            | inl y ↦
                let other : bytes_eq c x.1.0 ≡ false = sym (ap (λ b. b && bytes_eq c x.1.0) w) ∙ ap (λ d. has_name ends d && bytes_eq d x.1.0) (same c x.0 y) ∙ n in
                ap (λ o. of_name (cons_option o (of_name xs c)) c) (cond-true (bytes_eq c x.0) (Some x.1) None y)
                ∙ ap (λ o. cons_option o (run_of xs (c, c))) (cond-false (bytes_eq c x.1.0) (Some x.1.1) None other) ∙ rest
            | inr f ↦ ap (λ o. of_name (cons_option o (of_name xs c)) c) (cond-false (bytes_eq c x.0) (Some x.1) None f) ∙ rest
          ]
    ]

    none-passes : (xs : List (Classed Portion)) → filter is_end xs ≡ [] → Each (λ x. is_end x ≡ false) xs
    none-passes [] h = tt
    none-passes (x ∷ xs) h = elim (cases_Bool (is_end x)) [
      | inl y ↦ absurd (some-none x (filter is_end xs) (sym (taken is_end x xs y) ∙ h))
      | inr n ↦ (n, none-passes xs (sym (left-out is_end x xs n) ∙ h))
    ]

    none-laid : filter is_end (ps ms) ≡ []
    none-laid = filter-none is_end (ps ms) (each-parted (λ x. is_end x ≡ false) (λ x. is_named x.1.1) (portions ms) (none-passes (portions ms) none))

    mark-for : (c : Name) → run_of (ps ms) (c, c) ≡ [] → IsByteFor (first (c, c)) false 0x28
    mark-for c e = subst (λ o. IsByteFor o false 0x28) (sym (ap first_of e)) (byte-of align.Byte comb.Joined)

    marks : (g : Bool) (c : Name) → run_of (ps ms) (c, c) ≡ [] → Each IsSlot (marker g c)
    marks true c e = (mark-for c e, tt)
    marks false c e = tt

    dos-all : (g : Bool) → Each IsSlot (dos_slots g (slots ms))
    dos-all g =
        each-in-dos IsSlot (slots ms) all-slots g (marks g (codes "END OF DATA") (none-in (ps ms) none-laid (codes "END OF DATA") refl))
        (marks g (codes "END OF BSS") (none-in (ps ms) none-laid (codes "END OF BSS") refl))

    -- Its segments.
    abbrev IsFront : Classed Portion → Type 0
    IsFront x = IsLikeFirst (first (key x)) x.1.1

    like-for : (o : Option Portion) (m : List Rec) (i j : ℕ) (s : Slot) → is_one_of (raised m) i ≡ s.raised → IsByteFor o s.raised s.attribute → IsLikeFirst o (classed m 0 (i, (info j s, s.attribute))).1.1
    like-for None m i j s r b = record { is_first = refl; empty = ap (λ t. cond t (2 ^ 32) 0) b.small; relative = refl; aligned = ap (λ t. alignment_by t s.attribute) r ∙ b.aligned; combined = b.combined }
    like-for (Some p) m i j s r b = record { is_first = refl; empty = ap (λ t. cond t (2 ^ 32) 0) b.small; relative = refl; aligned = ap (λ t. alignment_by t s.attribute) r ∙ b.aligned; combined = b.combined }

    fronts : (m : List Rec) (i j : ℕ) (ss : List Slot) → map key (front m i j ss) ≡ map slot_key ss → AreRaisedFrom (raised m) i (map (λ s. s.raised) ss) → Each IsSlot ss → Each IsFront (front m i j ss)
    fronts m i j [] e r h = tt
    fronts m i j (s ∷ ss) e r h = (
      subst (λ k. IsLikeFirst (first k) (classed m 0 (i, (info j s, s.attribute))).1.1) (sym (ap (first-or (slot_key s)) e)) (like-for (first (slot_key s)) m i j s r.0 h.0),
      fronts m (i + 1) (j + 1) ss (ap rest-of e) r.1 h.1,
    )

    -- Its comments raise those of its segments that are to be raised.
    raised-in-front : (m : List Rec) → HasSegmentsOf (order_records ms) m → AreRaisedFrom (raised m) 1 (flags ms)
    raised-in-front m h = all-raised (raised m) 1 (flags ms) (λ n low. ap (λ is. is_one_of is n) (h.raised ∙ order-raised ms))

    pub run-front : (m : List Rec) → HasSegmentsOf (order_records ms) m → (k : Key) → Each (IsLikeFirst (first k)) (run_of (portions_in (0, m)) k)
    run-front m h k =
        let e = front-segments ms m h in
        each-run IsFront (portions_in (0, m)) k
        (subst (Each IsFront) (sym e) (fronts m 1 0 (all ms) (ap (map key) (sym e) ∙ keys-in-front ms m h) (raised-in-front m h) (dos-all (are_grouped ms))))

-- ---- The module has no data, and no bytes in its segments

-- Its segments are not big.
abbrev IsSmall : Slot → Type 0
IsSmall s = is_big s.attribute ≡ false

small-slots : (ms : List (List Rec)) (qs : List Portion) → Each IsSmall (map (slot ms) qs)
small-slots ms [] = tt
small-slots ms (q ∷ qs) = ((byte-of q.alignment q.combination).small, small-slots ms qs)

small-marks : (g : Bool) (c : Name) → Each IsSmall (marker g c)
small-marks true c = (refl, tt)
small-marks false c = tt

abbrev IsWithoutBytes : SegInfo → Type 0
IsWithoutBytes s = (s.length ≡ 0) × (s.absolute ≡ None)

small-infos : (j : ℕ) (ss : List Slot) → Each IsSmall ss → Each IsWithoutBytes (infos j ss)
small-infos j [] e = tt
small-infos j (s ∷ ss) e = ((ap (λ t. cond t (2 ^ 32) 0) e.0, refl), small-infos (j + 1) ss e.1)

order-segments-empty : (ms : List (List Rec)) → Each IsWithoutBytes (segments (order_records ms))
order-segments-empty ms =
    let g = are_grouped ms in
    subst (Each IsWithoutBytes) (sym (order-segments ms)) (small-infos 0 (all ms)
    (each-in-dos IsSmall (slots ms) (small-slots ms (filter_map first_of (runs ms))) g (small-marks g (codes "END OF DATA")) (small-marks g (codes "END OF BSS"))))

abbrev datas-in : List Rec → List Contents
datas-in rs = flat_map (λ r. data_in r.contents) rs

slots-data : (j : ℕ) (ss : List Slot) (rs : List Rec) → datas-in (slots_records j ss ++ rs) ≡ datas-in rs
slots-data j [] rs = refl
slots-data j (s ∷ ss) rs = slots-data (j + 1) ss rs

raisings-data : (i : ℕ) (bs : List Bool) (rs : List Rec) → datas-in (raisings i bs ++ rs) ≡ datas-in rs
raisings-data i [] rs = refl
raisings-data i (true ∷ bs) rs = raisings-data (i + 1) bs rs
raisings-data i (false ∷ bs) rs = raisings-data (i + 1) bs rs

group-data : (g : Bool) (n : ℕ) (rs : List Rec) → datas-in (order_group g n ++ rs) ≡ datas-in rs
group-data true n rs = refl
group-data false n rs = refl

publics-data : (i : ℕ) (ns : List Name) (rs : List Rec) → datas-in (end_publics i ns ++ rs) ≡ datas-in rs
publics-data i [] rs = refl
publics-data i (n ∷ ns) rs = publics-data i ns rs

order-data : (ms : List (List Rec)) → datas-in (order_records ms) ≡ []
order-data ms =
    let g = are_grouped ms in
    let slots = all ms in
    slots-data 0 slots _ ∙ raisings-data 1 (flags ms) _ ∙ group-data g (length slots) _ ∙ publics-data _ (missing ms data_names) _ ∙ publics-data _ (missing ms bss_names) (end_record ∷ [])

pub order-is-empty : IsEmptyOrder
order-is-empty ms = (order-data ms, λ i s e. each-at IsWithoutBytes (segments (order_records ms)) (order-segments-empty ms) i s e)
