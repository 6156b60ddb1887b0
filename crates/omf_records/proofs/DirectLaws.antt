-- A FIXUP that names no thread is read field by field, from its first two bytes and its fix data byte on.
use Rattle.std.proofs.Common.{◌≡◌, ℕ, ◌+◌, ◌*◌, ◌/◌, ◌%◌, ◌<◌, ◌≤◌, ◌≢◌, Bool, true, false, List, [], ◌∷◌, ◌++◌, length, drop, get_or, Option, Some, None, refl, sym, ap, ap₂, subst, ◌∙◌, arith, append_assoc, Result, Ok, Err}
use Rattle.std.specs.Prelude.{not, nat_lt, nat_le, ◌&&◌, ◌||◌, IsOk, IfSome, ⊤}
use Rattle.std.proofs.lemmas.Bool.{cond-false, le-ltb, leb-true}
use Rattle.byteorder.specs.Endian.{little_bytes}
use Rattle.omf_frame.specs.Bytes.{AreBytes}
use Rattle.omf_frame.specs.Fault.{Fault}
use Rattle.omf_frame.specs.declared.fault.Reason.{Reason}
use Rattle.omf_frame.specs.declared.fault.Reason.TheVariants as reason
use Rattle.omf_records.specs.Inner.Names.{wrong_head, has_frame_datum, has_target_datum, has_no_displacement}
use Rattle.omf_records.specs.declared.here.Here.{Here}
use Rattle.omf_records.specs.Inner.Direct.{begins_direct, is_zero, IsDirect, IsNonzero, Copies, PutsNext}
use Rattle.omf_records.specs.Inner.Each.{each_turn, each_refused, with_first}
use Rattle.omf_records.specs.Entries.{unless, is_frame_method, wrong_methods}
use Rattle.omf_records.specs.Inner.EntryReaders.{datum_reader, displacement_reader, part_reader, subrecord_reader, subrecord_shrinks}
use Rattle.omf_records.specs.Inner.Reads.{After, after, and_then, each}
use Rattle.omf_records.specs.Inner.Readers.{refuse_first, at_place}
use Rattle.omf_records.specs.Shortest.{option_bytes, datum_bytes, subrecord_bytes}
use Rattle.omf_records.specs.Inner.Unread.{Pending}
use Rattle.omf_records.specs.Values.{At, Reference, Subrecord, Fixup, width, frame_by_thread, frame_bits, target_by_thread, target_bits}

-- ---- what is known of a reading that went well

first-ok : {A B : Type 0} (r : Result A Fault) (f : A → Result B Fault) → IsOk (and_then r f) → IsOk r
first-ok (Ok x) f h = refl
first-ok (Err e) f h = absurd (let q : false ≡ true = h in cc)

none-refused : {A B : Type 0} (rs : List Reason) (at : ℕ) (a : A) (f : A → Result B Fault) → IsOk (and_then (refuse_first rs at a) f) → rs ≡ []
none-refused [] at a f h = refl
none-refused (r ∷ rs) at a f h = absurd (let q : false ≡ true = h in cc)

pub no-reason : (b c : Bool) → unless b reason.FrameMethod ++ unless c reason.TargetMethod ≡ [] → (b ≡ true) × (c ≡ true)
no-reason true true e = (refl, refl)
no-reason true false e = absurd cc
no-reason false c e = absurd cc

there : (a b : Bool) → a ≡ false → (a || b) ≡ true → (not a && b) ≡ true
there true b e h = absurd cc
there false b e h = h

pub two : (a b : Bool) → (not a && not b) ≡ true → (a ≡ false) × (b ≡ false)
two true b e = absurd cc
two false true e = absurd cc
two false false e = (refl, refl)

direct : (a b c : Bool) → a ≡ false → b ≡ false → c ≡ false → (not a && (not b && not c)) ≡ true
direct true b c e f g = absurd cc
direct false true c e f g = absurd cc
direct false false true e f g = absurd cc
direct false false false e f g = refl

-- where items can be read and bytes are left, the first can
pub first-read : (wide : Bool) (at : ℕ) (bytes : List ℕ) → bytes ≢ [] → IsOk (each (subrecord_reader wide).read at bytes) → IsOk ((subrecord_reader wide).read at bytes)
first-read wide at bytes some h = go ((subrecord_reader wide).read at bytes) refl
  where
    go : (r : Result (After Subrecord) Fault) → (subrecord_reader wide).read at bytes ≡ r → IsOk r
    go (Ok x) e = refl
    go (Err f) e = absurd (let q : false ≡ true = subst IsOk (each_refused (subrecord_reader wide).read (subrecord_shrinks wide) at bytes f some e) h in cc)

-- ---- its fields

module _ (wide : Bool) (at h l f : ℕ) (tail : List ℕ) where
  abbrev pub locat : ℕ
  locat = h * 256 + l

  abbrev pub fix : At ℕ
  fix = record { within = at + 2; item = f }

  abbrev pub numbered : At ℕ → Option (At ℕ) → Option (At ℕ) → ℕ → List ℕ → Result (After Reference) Fault
  numbered x fr tg w t = and_then ((displacement_reader wide (not (has_no_displacement x.item))).read w t) (λ d. Ok (after (record { fix = x; frame = fr; target = tg; displacement = d.value }) d.within d.rest))

  abbrev pub targeted : At ℕ → Option (At ℕ) → ℕ → List ℕ → Result (After Reference) Fault
  targeted x fr w t = and_then ((datum_reader (has_target_datum x.item)).read w t) (λ c. numbered x fr c.value c.within c.rest)

  abbrev pub framed : At ℕ → ℕ → List ℕ → Result (After Reference) Fault
  framed x w t = and_then ((datum_reader (has_frame_datum x.item)).read w t) (λ b. targeted x b.value b.within b.rest)

  abbrev pub named : Result (After Reference) Fault → Result (After Subrecord) Fault
  named r = and_then r (λ a. Ok (after (Fixup locat a.value) a.within a.rest))

  abbrev pub refused : List Reason → Result (After Reference) Fault
  refused ms = and_then (and_then (refuse_first ms (at + 2) (after f (at + 2 + 1) tail)) (λ a. Ok (at_place (at + 2) a))) (λ x. framed x.value x.within x.rest)

  abbrev pub whole : Result (After Subrecord) Fault
  whole = (subrecord_reader wide).read at (h ∷ l ∷ f ∷ tail)

  abbrev pub headed : List Reason → Result (After Subrecord) Fault
  headed hs = and_then (refuse_first hs at (after locat (at + 2) (f ∷ tail))) (λ a. (part_reader wide a.value).read a.within a.rest)

  is-headed : 128 ≤ h → whole ≡ headed (wrong_head locat)
  is-headed high = ap (λ r. and_then (and_then r (λ a. refuse_first (wrong_head a.value) at a)) (λ a. (part_reader wide a.value).read a.within a.rest)) (cond-false (nat_lt h 128) (Ok (after h (at + 1) (l ∷ f ∷ tail))) (Ok (after locat (at + 2) (f ∷ tail))) (le-ltb h 128 high))

  long : 128 ≤ h → 128 ≤ h * 256 + l
  long high = omega (arith, high)

  is-refused : 128 ≤ h → IsOk whole → whole ≡ named (refused (wrong_methods f))
  is-refused high ok =
      let e = is-headed high in
      let none : wrong_head locat ≡ [] = none-refused (wrong_head locat) at (after locat (at + 2) (f ∷ tail)) (λ a. (part_reader wide a.value).read a.within a.rest) (subst IsOk e ok) in
      e ∙ ap headed none ∙ cond-false (nat_lt locat 128) _ _ (le-ltb locat 128 (long high))

  methods : 128 ≤ h → IsOk whole → wrong_methods f ≡ []
  methods high ok =
      let a = first-ok (refused (wrong_methods f)) (λ a. Ok (after (Fixup locat a.value) a.within a.rest)) (subst IsOk (is-refused high ok) ok) in
      let b = first-ok (and_then (refuse_first (wrong_methods f) (at + 2) (after f (at + 2 + 1) tail)) (λ a. Ok (at_place (at + 2) a))) (λ x. framed x.value x.within x.rest) a in
      none-refused (wrong_methods f) (at + 2) (after f (at + 2 + 1) tail) (λ a. Ok (at_place (at + 2) a)) b

  is-framed : 128 ≤ h → IsOk whole → whole ≡ named (framed fix (at + 2 + 1) tail)
  is-framed high ok = is-refused high ok ∙ ap (λ ms. named (refused ms)) (methods high ok)

  module _ (high : 128 ≤ h) (ok : IsOk whole) (unthreaded : (not (frame_by_thread f) && not (target_by_thread f)) ≡ true) where
    no-threads : (frame_by_thread f ≡ false) × (target_by_thread f ≡ false)
    no-threads = two (frame_by_thread f) (target_by_thread f) unthreaded

    has-target : has_target_datum f ≡ true
    has-target = there (target_by_thread f) (nat_lt (target_bits f) 3) no-threads.1 (no-reason (frame_by_thread f || is_frame_method (frame_bits f)) (target_by_thread f || nat_lt (target_bits f) 3) (methods high ok)).1

    -- the index of the frame can be read, then that of the target, then the displacement
    pub frame-read : (w : ℕ) → w ≡ at + 3 → IsOk ((datum_reader (has_frame_datum f)).read w tail)
    frame-read w e =
        let a = first-ok (framed fix (at + 2 + 1) tail) (λ a. Ok (after (Fixup locat a.value) a.within a.rest)) (subst IsOk (is-framed high ok) ok) in
        let place : at + 2 + 1 ≡ w = omega (arith, e) in
        subst (λ n. IsOk ((datum_reader (has_frame_datum f)).read n tail)) place (first-ok ((datum_reader (has_frame_datum f)).read (at + 2 + 1) tail) (λ b. targeted fix b.value b.within b.rest) a)

    module _ (w : ℕ) (e : w ≡ at + 3) (fr : Option (At ℕ)) (w1 : ℕ) (t1 : List ℕ) (read1 : (datum_reader (has_frame_datum f)).read w tail ≡ Ok (after fr w1 t1)) where
      place : at + 2 + 1 ≡ w
      place = omega (arith, e)

      is-targeted : whole ≡ named (targeted fix fr w1 t1)
      is-targeted = is-framed high ok ∙ ap (λ n. named (framed fix n tail)) place ∙ ap (λ r. named (and_then r (λ b. targeted fix b.value b.within b.rest))) read1

      has-it : (n : ℕ) (t : List ℕ) → (datum_reader (has_target_datum f)).read n t ≡ (datum_reader true).read n t
      has-it n t = ap (λ b. (datum_reader b).read n t) has-target

      pub target-read : IsOk ((datum_reader true).read w1 t1)
      target-read =
          let a = first-ok (targeted fix fr w1 t1) (λ a. Ok (after (Fixup locat a.value) a.within a.rest)) (subst IsOk is-targeted ok) in
          subst IsOk (has-it w1 t1) (first-ok ((datum_reader (has_target_datum f)).read w1 t1) (λ c. numbered fix fr c.value c.within c.rest) a)

      module _ (tg : Option (At ℕ)) (w2 : ℕ) (t2 : List ℕ) (read2 : (datum_reader true).read w1 t1 ≡ Ok (after tg w2 t2)) where
        is-numbered : whole ≡ named (numbered fix fr tg w2 t2)
        is-numbered = is-targeted ∙ ap (λ r. named (and_then r (λ c. numbered fix fr c.value c.within c.rest))) (has-it w1 t1 ∙ read2)

        pub number-read : IsOk ((displacement_reader wide (not (has_no_displacement f))).read w2 t2)
        number-read =
            let a = first-ok (numbered fix fr tg w2 t2) (λ a. Ok (after (Fixup locat a.value) a.within a.rest)) (subst IsOk is-numbered ok) in
            first-ok ((displacement_reader wide (not (has_no_displacement f))).read w2 t2) (λ d. Ok (after (record { fix = fix; frame = fr; target = tg; displacement = d.value }) d.within d.rest)) a

        pub all-read : (d : Option ℕ) (w3 : ℕ) (t3 : List ℕ) → (displacement_reader wide (not (has_no_displacement f))).read w2 t2 ≡ Ok (after d w3 t3)
            → whole ≡ Ok (after (Fixup locat (record { fix = fix; frame = fr; target = tg; displacement = d })) w3 t3)
        all-read d w3 t3 read3 = is-numbered ∙ ap (λ r. named (and_then r (λ d. Ok (after (record { fix = fix; frame = fr; target = tg; displacement = d.value }) d.within d.rest)))) read3

        pub all-direct : (d : Option ℕ) → IsNonzero d → IsDirect (Fixup locat (record { fix = fix; frame = fr; target = tg; displacement = d }))
        all-direct d z = direct (frame_by_thread f) (target_by_thread f) (is_zero d) no-threads.0 no-threads.1 z

-- ---- their bytes one behind another

joined : (out a b c : List ℕ) (x y z : ℕ) → ((out ++ (x ∷ y ∷ z ∷ [])) ++ a) ++ (b ++ c) ≡ out ++ (x ∷ y ∷ z ∷ (a ++ (b ++ c)))
joined out a b c x y z = append_assoc (out ++ (x ∷ y ∷ z ∷ [])) a (b ++ c) ∙ append_assoc out (x ∷ y ∷ z ∷ []) (a ++ (b ++ c))

pub put-bytes : (kind h l f : ℕ) (fr tg : Option (At ℕ)) (d : Option ℕ) (at : ℕ) (out o1 o2 o3 : List ℕ) → l < 256
    → o1 ≡ (out ++ (h ∷ l ∷ f ∷ [])) ++ option_bytes datum_bytes fr → o2 ≡ o1 ++ option_bytes datum_bytes tg → o3 ≡ o2 ++ option_bytes (little_bytes (width kind)) d
    → o3 ≡ out ++ subrecord_bytes kind (Fixup (h * 256 + l) (record { fix = record { within = at; item = f }; frame = fr; target = tg; displacement = d }))
put-bytes kind h l f fr tg d at out o1 o2 o3 low e1 e2 e3 =
    let F = option_bytes datum_bytes fr in
    let T = option_bytes datum_bytes tg in
    let D = option_bytes (little_bytes (width kind)) d in
    let S = out ++ (h ∷ l ∷ f ∷ []) in
    e3
    ∙ ap (λ (x : List ℕ). x ++ D) (e2 ∙ ap (λ (x : List ℕ). x ++ T) e1)
    ∙ append_assoc (S ++ F) T D
    ∙ joined out F T D h l f
    ∙ ap₂ (λ (x y : ℕ). out ++ (x ∷ y ∷ f ∷ (F ++ (T ++ D)))) (sym (high-is h l low)) (sym (low-is h l low))
  where
    high-is : (h l : ℕ) → l < 256 → (h * 256 + l) / 256 ≡ h
    high-is h l low = omega (arith, low)

    low-is : (h l : ℕ) → l < 256 → (h * 256 + l) % 256 ≡ l
    low-is h l low = omega (arith, low)

-- ---- the whole

-- the three bytes at the front, as they are read one by one
pub record Front (bytes : List ℕ) (h l f : ℕ) : Type 0 where
  pub parts : bytes ≡ h ∷ l ∷ f ∷ drop 3 bytes
  pub high : 128 ≤ h
  pub unthreaded : (not (frame_by_thread f) && not (target_by_thread f)) ≡ true
  pub low : l < 256

and-parts : (x y : Bool) → (x && y) ≡ true → (x ≡ true) × (y ≡ true)
and-parts true y e = (refl, e)
and-parts false y e = absurd cc

pub front : (bytes : List ℕ) → begins_direct bytes ≡ true → AreBytes bytes → Front bytes (get_or bytes 0 0) (get_or bytes 1 0) (get_or bytes 2 0)
front [] e k = absurd (let z : false ≡ true = e in cc)
front (a ∷ []) e k = absurd (let z : false ≡ true = e in cc)
front (a ∷ b ∷ []) e k = absurd (let z : false ≡ true = e in cc)
front (a ∷ b ∷ c ∷ bytes) e k =
    let w = and-parts (nat_le 128 a) (not (frame_by_thread c) && not (target_by_thread c)) e in
    record { parts = refl; high = leb-true 128 a w.0; unthreaded = w.1; low = k 1 }

has-three : (bytes : List ℕ) (h l f : ℕ) (t : List ℕ) → bytes ≡ h ∷ l ∷ f ∷ t → bytes ≢ []
has-three [] h l f t e z = absurd cc
has-three (a ∷ bytes) h l f t e z = absurd cc

pub if-some : {A : Type 0} {P Q : A → Type 0} (o : Option A) → ((x : A) → P x → Q x) → IfSome o P → IfSome o Q
if-some (Some x) f p = f x p
if-some None f p = tt

module _ (wide : Bool) (at : ℕ) (bytes : List ℕ) (H L F : ℕ) (begun : Front bytes H L F) (good : IsOk (each (subrecord_reader wide).read at bytes)) where
  abbrev pub T : List ℕ
  T = drop 3 bytes

  parts : (subrecord_reader wide).read at bytes ≡ (subrecord_reader wide).read at (H ∷ L ∷ F ∷ T)
  parts = ap (λ (b : List ℕ). (subrecord_reader wide).read at b) begun.parts

  well : IsOk (whole wide at H L F T)
  well = subst IsOk parts (first-read wide at bytes (has-three bytes H L F T begun.parts) good)

  pub frame-can : (w : ℕ) (t : List ℕ) → w ≡ at + 3 → t ≡ drop 3 bytes → IsOk ((datum_reader (has_frame_datum F)).read w t)
  frame-can w t e d = subst (λ (b : List ℕ). IsOk ((datum_reader (has_frame_datum F)).read w b)) (sym d) (frame-read wide at H L F T begun.high well begun.unthreaded w e)

  module _ (kind w : ℕ) (t : List ℕ) (e : w ≡ at + 3) (d : t ≡ drop 3 bytes) (v : Bool) (same : v ≡ wide) (out o0 o1 : List ℕ) (h1 : Here) (c1 : Copies (λ x. ⊤) (option_bytes datum_bytes) v ((datum_reader (has_frame_datum F)).read w t) o0 o1 h1) where
    read1 : (datum_reader (has_frame_datum F)).read w T ≡ Ok (after c1.value h1.within h1.bytes.now)
    read1 = ap (λ (b : List ℕ). (datum_reader (has_frame_datum F)).read w b) (sym d) ∙ c1.is

    pub target-can : IsOk ((datum_reader true).read h1.within h1.bytes.now)
    target-can = target-read wide at H L F T begun.high well begun.unthreaded w e c1.value h1.within h1.bytes.now read1

    module _ (o2 : List ℕ) (h2 : Here) (c2 : Copies (λ x. ⊤) (option_bytes datum_bytes) h1.wide ((datum_reader true).read h1.within h1.bytes.now) o1 o2 h2) where
      pub wide-still : h2.wide ≡ wide
      wide-still = c2.same ∙ c1.same ∙ same

      pub number-can : IsOk ((displacement_reader h2.wide (not (has_no_displacement F))).read h2.within h2.bytes.now)
      number-can = subst (λ b. IsOk ((displacement_reader b (not (has_no_displacement F))).read h2.within h2.bytes.now)) (sym wide-still)
          (number-read wide at H L F T begun.high well begun.unthreaded w e c1.value h1.within h1.bytes.now read1 c2.value h2.within h2.bytes.now c2.is)

      pub copied : o0 ≡ out ++ (H ∷ L ∷ F ∷ []) → (o3 : List ℕ) (h3 : Here)
          → Copies IsNonzero (option_bytes (little_bytes (width kind))) h2.wide ((displacement_reader h2.wide (not (has_no_displacement F))).read h2.within h2.bytes.now) o2 o3 h3
          → Copies IsDirect (subrecord_bytes kind) wide ((subrecord_reader wide).read at bytes) out o3 h3
      copied start o3 h3 c3 =
          let read3 = ap (λ b. (displacement_reader b (not (has_no_displacement F))).read h2.within h2.bytes.now) (sym wide-still) ∙ c3.is in
          record {
            value = Fixup (H * 256 + L) (record { fix = record { within = at + 2; item = F }; frame = c1.value; target = c2.value; displacement = c3.value });
            is = parts ∙ all-read wide at H L F T begun.high well begun.unthreaded w e c1.value h1.within h1.bytes.now read1 c2.value h2.within h2.bytes.now c2.is c3.value h3.within h3.bytes.now read3;
            same = c3.same ∙ wide-still;
            holds = all-direct wide at H L F T begun.high well begun.unthreaded w e c1.value h1.within h1.bytes.now read1 c2.value h2.within h2.bytes.now c2.is c3.value c3.holds;
            put = put-bytes kind H L F c1.value c2.value c3.value (at + 2) out o1 o2 o3 begun.low (c1.put ∙ ap (λ (x : List ℕ). x ++ option_bytes datum_bytes c1.value) start) c2.put c3.put;
          }

-- ---- one is put

not-empty : (bytes : List ℕ) (n : ℕ) → n < length bytes → bytes ≢ []
not-empty [] n h e = absurd (omega (arith, h))
not-empty (a ∷ bytes) n h e = absurd cc

abbrev pub Copied : ℕ → Here → List ℕ → List ℕ → Here → Type 0
Copied kind from out then here = Copies IsDirect (subrecord_bytes kind) from.wide ((subrecord_reader from.wide).read from.within from.bytes.now) out then here

-- the subrecords from a place on
abbrev pub items_at : Here → Result (List (At Subrecord)) Fault
items_at from = each (subrecord_reader from.wide).read from.within from.bytes.now

-- of items that are known to stand there
pub puts : (kind : ℕ) (from here : Here) (old new : Pending Subrecord) (out then : List ℕ)
    → old.items ≡ items_at from → old.size ≡ length from.bytes.now → new.items ≡ items_at here → new.size ≡ length here.bytes.now
    → Copied kind from out then here → PutsNext kind old new out then
puts kind from here old new out then a b d e c =
    let t = after c.value here.within here.bytes.now in
    let less = subrecord_shrinks from.wide from.within from.bytes.now t c.is in
    let x : At Subrecord = record { within = from.within; item = c.value } in
    let step = each_turn (λ w. (subrecord_reader w).read) subrecord_shrinks from.wide here.wide from.within from.bytes.now t c.same (not-empty from.bytes.now (length here.bytes.now) less) c.is in
    record {
      next = x;
      gives = (a ∙ (step ∙ ap (with_first x) (sym d)), omega (arith, b, e, less));
      direct = c.holds;
      put = c.put;
    }
