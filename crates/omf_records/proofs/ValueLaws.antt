-- References from their values: what can be written is read again, and what is read can be written.
use Rattle.std.proofs.Common.{◌≡◌, ℕ, ◌+◌, ◌*◌, ◌/◌, ◌%◌, ◌^◌, ◌<◌, ◌≤◌, inl, inr, Bool, true, false, cond, List, [], ◌∷◌, ◌++◌, length, map, flat_map, Option, Some, None, refl, sym, ap, subst, ◌∙◌, arith}
use Rattle.std.specs.Prelude.{option_map, not, nat_lt, All}
use Rattle.std.proofs.lemmas.Bool.{lt-ltb, le-ltb}
use Rattle.std.proofs.lemmas.List.{append-nil}
use Rattle.std.proofs.lemmas.List.Elements.{All-nil, All-cons, All-head, All-tail}
use Rattle.byteorder.specs.Endian.{little_bytes}
use Rattle.omf_frame.specs.Bytes.{AreBytes}
use Rattle.omf_frame.specs.Framing.{is_end}
use Rattle.omf_frame.specs.Fields.{IsIndex, index_bytes}
use Rattle.omf_frame.specs.Inner.FieldLaws.{little_spelled, little_fits, index_spelled, are_bytes_cons}
use Rattle.omf_records.specs.Inner.Names.{fixup, thread, fixups, has_frame_datum, has_target_datum, has_start, has_no_displacement}
use Rattle.omf_records.specs.Values.{At, nowhere, unplaced, Rec, Contents, Header, Comment, Names, Segment, Group, Externs, Publics, Communals, Plain, Iterated, Fixups, ModEnd, Carried, Reference, Subrecord, Thread, Fixup, is_wide, width, thread_method, reference_alone, subrecord_alone, alone}
use Rattle.omf_records.specs.Shortest.{option_bytes, datum_bytes, reference_bytes, subrecord_bytes, contents_bytes}
use Rattle.omf_records.specs.Layout.{Layout, many, index, number_of, with_place, when}
use Rattle.omf_records.specs.Entries.{reference, subrecord}
use Rattle.omf_records.specs.Records.{mod_end, contents, IsTyped}
use Rattle.omf_records.specs.Inner.Steps.{AreBytes-none}
use Rattle.omf_records.specs.Laws.{ValuesAreTyped, TypedHaveValues}
use Rattle.omf_records.proofs.TypeBytes.{one_of_two}
use Rattle.omf_records.specs.Valued.{IsThere, IsIndexValue, IsReferenceValue, IsSubrecordValue, is_fixupp, AreReferenceValues, HaveReferenceValues}
use Rattle.omf_records.proofs.Shorter.{are_bytes_append, index_fits}
use Rattle.omf_records.proofs.Recast.{alone_same}
use Rattle.omf_records.proofs.LaidOut.{IsLaidOut, laid-out}

-- ---- from values

-- a value that these bytes spell at a place is x but for its places
record Made {A : Type 0} (p : Layout A) (alone : A → A) (bytes : List ℕ) (at : ℕ) (x : A) : Type 0 where
  value : A
  spelled : p.Spells at bytes value
  same : alone value ≡ alone x
  fits : AreBytes bytes

made-index : (at : ℕ) (x : At ℕ) → IsIndexValue x → Made (with_place index) unplaced (datum_bytes x) at x
made-index at x h =
    let s = index_spelled x.item h in
    record { value = record { within = at; item = x.item }; spelled = (refl, s); same = refl; fits = index_fits x.item (index_bytes x.item) s }

made-when : {A : Type 0} (b : Bool) (p : Layout A) (alone : A → A) (short : A → List ℕ) (P : A → Type 0)
    → ((at : ℕ) (x : A) → P x → Made p alone (short x) at x)
    → (at : ℕ) (o : Option A) → IsThere P b o → Made (when b p) (option_map alone) (option_bytes short o) at o
made-when true p alone short P make at (Some x) h =
    let q = make at x h in
    record { value = Some q.value; spelled = (q.value, q.spelled, refl); same = ap (λ z. Some z) q.same; fits = q.fits }
made-when true p alone short P make at None h = absurd h
made-when false p alone short P make at (Some x) h = absurd h
made-when false p alone short P make at None h = record { value = None; spelled = (refl, refl); same = refl; fits = AreBytes-none }

made-number : (kind : ℕ) (b : Bool) (at : ℕ) (o : Option ℕ) → IsThere (λ d. d < 256 ^ width kind) b o
    → (when b (number_of (is_wide kind))).Spells at (option_bytes (little_bytes (width kind)) o) o × AreBytes (option_bytes (little_bytes (width kind)) o)
made-number kind true at (Some d) h = let l = little_spelled (width kind) d h in ((d, l, refl), l.bytes_fit)
made-number kind true at None h = absurd h
made-number kind false at (Some d) h = absurd h
made-number kind false at None h = ((refl, refl), AreBytes-none)

made-reference : (kind at : ℕ) (r : Reference) → IsReferenceValue kind r → Made (reference (is_wide kind)) reference_alone (reference_bytes kind r) at r
made-reference kind at r h =
    let B = r.fix.item ∷ [] in
    let F = option_bytes datum_bytes r.frame in
    let T = option_bytes datum_bytes r.target in
    let D = option_bytes (little_bytes (width kind)) r.displacement in
    let a = made-when (has_frame_datum r.fix.item) (with_place index) unplaced datum_bytes IsIndexValue made-index (at + length B) r.frame h.frame in
    let b = made-when (has_target_datum r.fix.item) (with_place index) unplaced datum_bytes IsIndexValue made-index (at + length B + length F) r.target h.target in
    let c = made-number kind (not (has_no_displacement r.fix.item)) (at + length B + length F + length T) r.displacement h.displacement in
    record {
      value = record { fix = record { within = at; item = r.fix.item }; frame = a.value; target = b.value; displacement = r.displacement };
      spelled = (B, F ++ (T ++ D), record { within = at; item = r.fix.item }, refl, (refl, ((h.fix, refl), h.methods)), (F, T ++ D, a.value, refl, a.spelled, (T, D, b.value, refl, b.spelled, (D, [], r.displacement, sym (append-nil D), c.0, (refl, refl)))));
      same = alone_same r.fix.item r.fix.within at a.value r.frame b.value r.target r.displacement a.same b.same;
      fits = are_bytes_cons r.fix.item (F ++ (T ++ D)) h.fix (are_bytes_append F (T ++ D) a.fits (are_bytes_append T D b.fits c.1));
    }

made-subrecord : (kind at : ℕ) (s : Subrecord) → IsSubrecordValue kind s → Made (subrecord (is_wide kind)) subrecord_alone (subrecord_bytes kind s) at s
made-subrecord kind at (Thread h datum) v =
    let t : nat_lt h 128 ≡ true = lt-ltb h 128 v.low in
    let q = made-when (nat_lt (thread_method h) 3) (with_place index) unplaced datum_bytes IsIndexValue made-index (at + 1) datum v.index in
    let D = option_bytes datum_bytes datum in
    let more = subst (λ (b : Bool). cond b ((thread h).Spells (at + 1) D (Thread h q.value)) ((fixup (is_wide kind) h).Spells (at + 1) D (Thread h q.value))) (sym t) (q.value, q.spelled, refl) in
    record {
      value = Thread h q.value;
      spelled = (h ∷ [], D, h, refl, (inl (v.low, refl), v.head), more);
      same = ap (λ z. Thread h z) q.same;
      fits = are_bytes_cons h D (below h v.low) q.fits;
    }
  where
    below : (h : ℕ) → h < 128 → h < 256
    below h l = omega (arith, l)
made-subrecord kind at (Fixup h r) v =
    let t : nat_lt h 128 ≡ false = le-ltb h 128 (above h v.high) in
    let q = made-reference kind (at + 2) r v.reference in
    let R = reference_bytes kind r in
    let more = subst (λ (b : Bool). cond b ((thread h).Spells (at + 2) R (Fixup h q.value)) ((fixup (is_wide kind) h).Spells (at + 2) R (Fixup h q.value))) (sym t) (q.value, q.spelled, refl) in
    record {
      value = Fixup h q.value;
      spelled = (h / 256 ∷ h % 256 ∷ [], R, h, refl, (inr (v.high, v.low, refl), v.head), more);
      same = ap (λ z. Fixup h z) q.same;
      fits = are_bytes_cons (h / 256) (h % 256 ∷ R) (upper h v.low) (are_bytes_cons (h % 256) R (lower h) q.fits);
    }
  where
    above : (h : ℕ) → 32768 ≤ h → 128 ≤ h
    above h l = omega (arith, l)

    upper : (h : ℕ) → h < 65536 → h / 256 < 256
    upper h l = omega (arith, l)

    lower : (h : ℕ) → h % 256 < 256
    lower h = omega arith

module _ {A : Type 0} (p : Layout A) (alone : A → A) (short : A → List ℕ) (P : A → Type 0) (make : (at : ℕ) (x : A) → P x → Made p alone (short x) at x) where
  made-many : (at : ℕ) (xs : List (At A)) → All (λ x. P x.item) xs
      → Made (many p) (λ ys. map (λ y. nowhere (alone y.item)) ys) (flat_map (λ x. short x.item) xs) at xs
  made-many at [] h = record { value = []; spelled = refl; same = refl; fits = AreBytes-none }
  made-many at (x ∷ xs) h =
      let q = make at x.item (All-head (λ x. P x.item) x xs h) in
      let t = made-many (at + length (short x.item)) xs (All-tail (λ x. P x.item) x xs h) in
      record {
        value = record { within = at; item = q.value } ∷ t.value;
        spelled = (short x.item, flat_map (λ x. short x.item) xs, refl, refl, q.spelled, t.spelled);
        same = ap (λ z. nowhere z ∷ map (λ y. nowhere (alone y.item)) t.value) q.same ∙ ap (λ zs. nowhere (alone x.item) ∷ zs) t.same;
        fits = are_bytes_append (short x.item) (flat_map (λ x. short x.item) xs) q.fits t.fits;
      }

-- the layout of a FIXUPP, of a MODEND
at-fixupp : (kind : ℕ) → is_fixupp kind ≡ true → (body : List ℕ) (c : Contents) → (fixups (is_wide kind)).Spells 3 body c → (contents kind).Spells 3 body c
at-fixupp kind e body c h = elim (one_of_two 0x9C 0x9D kind e) [
  | inl q ↦ subst (λ (k : ℕ). (fixups (is_wide k)).Spells 3 body c → (contents k).Spells 3 body c) (sym q) (λ x. x) h
  | inr q ↦ subst (λ (k : ℕ). (fixups (is_wide k)).Spells 3 body c → (contents k).Spells 3 body c) (sym q) (λ x. x) h
]

at-end : (kind : ℕ) → is_end kind ≡ true → (body : List ℕ) (c : Contents) → (mod_end (is_wide kind)).Spells 3 body c → (contents kind).Spells 3 body c
at-end kind e body c h = elim (one_of_two 0x8A 0x8B kind e) [
  | inl q ↦ subst (λ (k : ℕ). (mod_end (is_wide k)).Spells 3 body c → (contents k).Spells 3 body c) (sym q) (λ x. x) h
  | inr q ↦ subst (λ (k : ℕ). (mod_end (is_wide k)).Spells 3 body c → (contents k).Spells 3 body c) (sym q) (λ x. x) h
]

abbrev Written : ℕ → Contents → Type 0
Written kind c = ((s : Rec) × (s.kind ≡ kind) × IsTyped s (contents_bytes kind c) × (alone s ≡ alone (record { kind = kind; contents = c }))) × AreBytes (contents_bytes kind c)

written : (kind : ℕ) (c : Contents) → AreReferenceValues kind c → Written kind c
written kind (Fixups subs) h =
    let q = made-many (subrecord (is_wide kind)) subrecord_alone (subrecord_bytes kind) (IsSubrecordValue kind) (made-subrecord kind) 3 subs h.each in
    let sp = at-fixupp kind h.taken (contents_bytes kind (Fixups subs)) (Fixups q.value) (q.value, q.spelled, refl) in
    ((record { kind = kind; contents = Fixups q.value }, refl, sp, ap (λ z. record { kind = kind; contents = Fixups z }) q.same), q.fits)
written kind (ModEnd b start) h =
    let q = made-when (has_start b) (reference (is_wide kind)) reference_alone (reference_bytes kind) (IsReferenceValue kind) (made-reference kind) 4 start h.reference in
    let R = option_bytes (reference_bytes kind) start in
    let sp = at-end kind h.taken (b ∷ R) (ModEnd b q.value) (b ∷ [], R, b, refl, (h.fits, refl), (R, [], q.value, sym (append-nil R), q.spelled, (refl, refl))) in
    ((record { kind = kind; contents = ModEnd b q.value }, refl, sp, ap (λ z. record { kind = kind; contents = ModEnd b z }) q.same), are_bytes_cons b R h.fits q.fits)
written kind (Header x) h = absurd h
written kind (Comment x y z) h = absurd h
written kind (Names x) h = absurd h
written kind (Segment x) h = absurd h
written kind (Group x) h = absurd h
written kind (Externs x) h = absurd h
written kind (Publics x) h = absurd h
written kind (Communals x) h = absurd h
written kind (Plain x) h = absurd h
written kind (Iterated x) h = absurd h
written kind (Carried x) h = absurd h

pub values-typed : ValuesAreTyped
values-typed r h = written r.kind r.contents h

-- ---- back to values

index_value : (n : ℕ) (body : List ℕ) → IsIndex n body → n < 128 * 256
index_value n [] h = absurd h
index_value n (a ∷ []) h = omega (arith, h.0, h.1)
index_value n (a ∷ b ∷ []) h = omega (arith, h.0, h.1, h.2, h.3)
index_value n (a ∷ b ∷ c ∷ more) h = absurd h

value-index : (at : ℕ) (body : List ℕ) (x : At ℕ) → (with_place index).Spells at body x → IsIndexValue x
value-index at body x h = index_value x.item body h.1

value-when : {A : Type 0} (b : Bool) (p : Layout A) (P : A → Type 0) → ((at : ℕ) (body : List ℕ) (x : A) → p.Spells at body x → P x)
    → (at : ℕ) (body : List ℕ) (o : Option A) → (when b p).Spells at body o → IsThere P b o
value-when true p P f at body o (x, sp, is) = subst (IsThere P true) (sym is) (f at body x sp)
value-when false p P f at body o (none, is) = subst (IsThere P false) (sym is) tt

value-reference : (kind at : ℕ) (body : List ℕ) (r : Reference) → (reference (is_wide kind)).Spells at body r → IsReferenceValue kind r
value-reference kind at body r (f1, b1, fix, p1, (w, (s1, none1)), (f2, b2, fr, p2, s2, (f3, b3, tg, p3, s3, (f4, b4, d, p4, s4, (none, is))))) =
    subst (IsReferenceValue kind) (sym is) (record {
      fix = s1.0;
      methods = none1;
      frame = value-when (has_frame_datum fix.item) (with_place index) IsIndexValue value-index (at + length f1) f2 fr s2;
      target = value-when (has_target_datum fix.item) (with_place index) IsIndexValue value-index (at + length f1 + length f2) f3 tg s3;
      displacement = value-when (not (has_no_displacement fix.item)) (number_of (is_wide kind)) (λ d. d < 256 ^ width kind) (λ at body d sp. little_fits (width kind) d body sp) (at + length f1 + length f2 + length f3) f4 d s4;
    })

value-subrecord : (kind at : ℕ) (body : List ℕ) (s : Subrecord) → (subrecord (is_wide kind)).Spells at body s → IsSubrecordValue kind s
value-subrecord kind at body s (f1, b1, h, p1, (inl (low, is1), none), s2) =
    let t : nat_lt h 128 ≡ true = lt-ltb h 128 low in
    let u = subst (λ (b : Bool). cond b ((thread h).Spells (at + length f1) b1 s) ((fixup (is_wide kind) h).Spells (at + length f1) b1 s)) t s2 in
    subst (IsSubrecordValue kind) (sym u.2) (record { low = low; head = none; index = value-when (nat_lt (thread_method h) 3) (with_place index) IsIndexValue value-index (at + length f1) b1 u.0 u.1 })
value-subrecord kind at body s (f1, b1, h, p1, (inr (high, low, is1), none), s2) =
    let t : nat_lt h 128 ≡ false = le-ltb h 128 (omega arith) in
    let u = subst (λ (b : Bool). cond b ((thread h).Spells (at + length f1) b1 s) ((fixup (is_wide kind) h).Spells (at + length f1) b1 s)) t s2 in
    subst (IsSubrecordValue kind) (sym u.2) (record { high = high; low = low; head = none; reference = value-reference kind (at + length f1) b1 u.0 u.1 })

value-many : {A : Type 0} (p : Layout A) (P : A → Type 0) → ((at : ℕ) (body : List ℕ) (x : A) → p.Spells at body x → P x)
    → (at : ℕ) (body : List ℕ) (xs : List (At A)) → (many p).Spells at body xs → All (λ x. P x.item) xs
value-many p P f at body [] h = All-nil (λ x. P x.item)
value-many p P f at body (x ∷ xs) (front, back, parts, w, sp, more) = All-cons (λ x. P x.item) x xs (f at front x.item sp) (value-many p P f (at + length front) back xs more)

-- each kind of contents, in turn
laid-values : (kind at : ℕ) (body : List ℕ) (c : Contents) → IsLaidOut kind at body c → HaveReferenceValues kind c
laid-values kind at body (Fixups subs) (e, sp) = record { taken = e; each = value-many (subrecord (is_wide kind)) (IsSubrecordValue kind) (value-subrecord kind) at body subs sp }
laid-values kind at body (ModEnd byte start) (e, (f1, b1, t, p1, s1, (f2, b2, r, p2, s2, (none, is)))) = subst (HaveReferenceValues kind) (sym is)
    (record { taken = e; fits = s1.0; reference = value-when (has_start t) (reference (is_wide kind)) (IsReferenceValue kind) (value-reference kind) (at + length f1) f2 r s2 })
laid-values kind at body (Header name) h = tt
laid-values kind at body _ h = tt

pub typed-values : TypedHaveValues
typed-values r body t = laid-values r.kind 3 body r.contents (laid-out r.kind 3 body r.contents t)
