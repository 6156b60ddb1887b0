-- A FIXUP that uses no thread is read field by field, where its first two bytes and its fix data byte are valid.
use Rattle.std.proofs.Common.{◌≡◌, ℕ, ◌+◌, ◌*◌, ◌<◌, ◌≤◌, Bool, true, false, List, [], ◌∷◌, length, drop, get_or, Option, Some, None, sym, ap, ◌∙◌, arith, Ok}
use Rattle.std.specs.Prelude.{not, nat_lt, ◌&&◌, ◌||◌, IfSome, ⊤}
use Rattle.std.proofs.lemmas.Bool.{cond-false, le-ltb, ltb-true, lt-ltb}
use Rattle.omf_records.specs.Inner.Names.{wrong_head, has_frame_datum, has_target_datum, has_no_displacement}
use Rattle.omf_records.specs.declared.here.Here.{Here}
use Rattle.omf_records.specs.Inner.Each.{each_turn, with_first}
use Rattle.omf_records.specs.Entries.{wrong_methods, wrong_location, is_frame_method}
use Rattle.omf_records.specs.Inner.EntryReaders.{datum_reader, displacement_reader, part_reader, subrecord_reader, subrecord_shrinks}
use Rattle.omf_records.specs.Inner.Reads.{after, and_then}
use Rattle.omf_records.specs.Inner.Readers.{refuse_first}
use Rattle.omf_records.specs.Inner.Unread.{Pending}
use Rattle.omf_records.specs.Inner.Passing.{Passes, IsEntry, IsWithin, IsSound, PassesNext}
use Rattle.omf_records.specs.Values.{At, Subrecord, Fixup, frame_by_thread, frame_bits, target_by_thread, target_bits}
use Rattle.omf_records.proofs.DirectLaws.{fix, numbered, targeted, framed, named, refused, whole, headed, items_at, no-reason}

both : (a b : Bool) → a ≡ false → b ≡ true → (not a && b) ≡ true
both true b e h = absurd cc
both false b e h = h

module _ (wide : Bool) (at h l f : ℕ) (tail : List ℕ) (high : 128 ≤ h) (place : wrong_location (h * 256 + l) ≡ []) (methods : wrong_methods f ≡ []) where
  no-head : wrong_head (h * 256 + l) ≡ []
  no-head = cond-false (nat_lt (h * 256 + l) 128) _ _ (le-ltb (h * 256 + l) 128 (omega (arith, high))) ∙ place

  begun : whole wide at h l f tail ≡ named wide at h l f tail (framed wide at h l f tail (fix wide at h l f tail) (at + 2 + 1) tail)
  begun =
      ap (λ r. and_then (and_then r (λ a. refuse_first (wrong_head a.value) at a)) (λ a. (part_reader wide a.value).read a.within a.rest)) (cond-false (nat_lt h 128) (Ok (after h (at + 1) (l ∷ f ∷ tail))) (Ok (after (h * 256 + l) (at + 2) (f ∷ tail))) (le-ltb h 128 high))
      ∙ ap (headed wide at h l f tail) no-head
      ∙ cond-false (nat_lt (h * 256 + l) 128) _ _ (le-ltb (h * 256 + l) 128 (omega (arith, high)))
      ∙ ap (λ ms. named wide at h l f tail (refused wide at h l f tail ms)) methods

  -- the bytes after the fix data byte, read field by field
  module _ (own_frame : frame_by_thread f ≡ false) (own_target : target_by_thread f ≡ false) (kind : target_bits f < 3)
      (w : ℕ) (e : w ≡ at + 3) (fr : Option (At ℕ)) (w1 : ℕ) (t1 : List ℕ) (read1 : (datum_reader (has_frame_datum f)).read w tail ≡ Ok (after fr w1 t1))
      (tg : Option (At ℕ)) (w2 : ℕ) (t2 : List ℕ) (read2 : (datum_reader true).read w1 t1 ≡ Ok (after tg w2 t2))
      (d : Option ℕ) (w3 : ℕ) (t3 : List ℕ) (read3 : (displacement_reader wide (not (has_no_displacement f))).read w2 t2 ≡ Ok (after d w3 t3)) where
    spot : at + 2 + 1 ≡ w
    spot = omega (arith, e)

    has-target : has_target_datum f ≡ true
    has-target = both (target_by_thread f) (nat_lt (target_bits f) 3) own_target (lt-ltb (target_bits f) 3 kind)

    pub all-passed : whole wide at h l f tail ≡ Ok (after (Fixup (h * 256 + l) (record { fix = record { within = at + 2; item = f }; frame = fr; target = tg; displacement = d })) w3 t3)
    all-passed =
        begun
        ∙ ap (λ n. named wide at h l f tail (framed wide at h l f tail (fix wide at h l f tail) n tail)) spot
        ∙ ap (λ r. named wide at h l f tail (and_then r (λ b. targeted wide at h l f tail (fix wide at h l f tail) b.value b.within b.rest))) read1
        ∙ ap (λ r. named wide at h l f tail (and_then r (λ c. numbered wide at h l f tail (fix wide at h l f tail) fr c.value c.within c.rest))) (ap (λ b. (datum_reader b).read w1 t1) has-target ∙ read2)
        ∙ ap (λ r. named wide at h l f tail (and_then r (λ d. Ok (after (record { fix = fix wide at h l f tail; frame = fr; target = tg; displacement = d.value }) d.within d.rest)))) read3

-- ---- by the positions between the fields

pub if-some : {A : Type 0} {P Q : A → Type 0} (o : Option A) → ((x : A) → P x → Q x) → IfSome o P → IfSome o Q
if-some (Some x) f p = f x p
if-some None f p = tt

pub second : (a b : Bool) → a ≡ false → (a || b) ≡ true → b ≡ true
second true b e h = absurd cc
second false b e h = h

-- the three bytes at the front, as they are read one by one
pub three : (bytes same : List ℕ) → same ≡ bytes → 3 ≤ length same → bytes ≡ get_or same 0 0 ∷ get_or same 1 0 ∷ get_or same 2 0 ∷ drop 3 bytes
three bytes [] e n = absurd (omega (arith, n))
three bytes (a ∷ []) e n = absurd (omega (arith, n))
three bytes (a ∷ b ∷ []) e n = absurd (omega (arith, n))
three bytes (a ∷ b ∷ c ∷ same) e n = sym e ∙ ap (λ (t : List ℕ). a ∷ b ∷ c ∷ drop 3 t) e

abbrev pub IsFrame : List ℕ → ℕ → Option (At ℕ) → Type 0
IsFrame counts f d = nat_lt (frame_bits f) 3 ≡ true → IsEntry (get_or counts (frame_bits f) 0) d

pub passes : (wide : Bool) (at : ℕ) (bytes : List ℕ) (h l f : ℕ) (tail : List ℕ) (parts : bytes ≡ h ∷ l ∷ f ∷ tail) (counts : List ℕ) (size : ℕ)
    → 128 ≤ h → wrong_location (h * 256 + l) ≡ [] → IsWithin size (h * 256 + l)
    → wrong_methods f ≡ [] → frame_by_thread f ≡ false → target_by_thread f ≡ false
    → (v : Bool) → v ≡ wide → (w : ℕ) → w ≡ at + 3
    → (h1 : Here) → Passes (IsFrame counts f) v ((datum_reader (has_frame_datum f)).read w tail) h1
    → (h2 : Here) → Passes (IsEntry (get_or counts (target_bits f) 0)) h1.wide ((datum_reader true).read h1.within h1.bytes.now) h2
    → (h3 : Here) → Passes (λ d. ⊤) h2.wide ((displacement_reader h2.wide (not (has_no_displacement f))).read h2.within h2.bytes.now) h3
    → Passes (IsSound counts size) wide ((subrecord_reader wide).read at bytes) h3
passes wide at bytes h l f tail parts counts size high place within methods own_frame own_target v same w e h1 p1 h2 p2 h3 p3 =
    let kind : target_bits f < 3 = ltb-true (target_bits f) 3 (second (target_by_thread f) (nat_lt (target_bits f) 3) own_target (no-reason (frame_by_thread f || is_frame_method (frame_bits f)) (target_by_thread f || nat_lt (target_bits f) 3) methods).1) in
    let still : h2.wide ≡ wide = p2.same ∙ p1.same ∙ same in
    let read3 = ap (λ b. (displacement_reader b (not (has_no_displacement f))).read h2.within h2.bytes.now) (sym still) ∙ p3.is in
    record {
      value = Fixup (h * 256 + l) (record { fix = record { within = at + 2; item = f }; frame = p1.value; target = p2.value; displacement = p3.value });
      is = ap (λ (b : List ℕ). (subrecord_reader wide).read at b) parts
          ∙ all-passed wide at h l f tail high place methods own_frame own_target kind w e p1.value h1.within h1.bytes.now p1.is p2.value h2.within h2.bytes.now p2.is p3.value h3.within h3.bytes.now read3;
      same = p3.same ∙ still;
      holds = (within, record { own_frame = own_frame; own_target = own_target; kind = kind; frame = p1.holds; target = p2.holds });
    }

-- ---- one is passed

pub not-empty : (bytes : List ℕ) (n : ℕ) → n < length bytes → bytes ≡ [] → ⊥
not-empty [] n h e = absurd (omega (arith, h))
not-empty (a ∷ bytes) n h e = absurd cc

pub passes-next : (counts : List ℕ) (size : ℕ) (from here : Here) (old new : Pending Subrecord)
    → old.items ≡ items_at from → old.size ≡ length from.bytes.now → new.items ≡ items_at here → new.size ≡ length here.bytes.now
    → Passes (IsSound counts size) from.wide ((subrecord_reader from.wide).read from.within from.bytes.now) here → PassesNext counts size old new
passes-next counts size from here old new a b d e p =
    let t = after p.value here.within here.bytes.now in
    let less = subrecord_shrinks from.wide from.within from.bytes.now t p.is in
    let x : At Subrecord = record { within = from.within; item = p.value } in
    let step = each_turn (λ w. (subrecord_reader w).read) subrecord_shrinks from.wide here.wide from.within from.bytes.now t p.same (not-empty from.bytes.now (length here.bytes.now) less) p.is in
    record {
      next = x;
      gives = (a ∙ (step ∙ ap (with_first x) (sym d)), omega (arith, b, e, less));
      sound = p.holds;
    }
