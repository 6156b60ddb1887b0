-- Runs over whole inputs, and modules.
use Rattle.std.proofs.Common.{◌≡◌, ◌⊎◌, inl, inr, ℕ, zero, suc, ◌+◌, ◌*◌, ◌-◌, ◌/◌, ◌%◌, ◌<◌, ◌≤◌, Bool, true, false, cond, not, ◌||◌, is_some, get_or, Option, Some, None, List, [], ◌∷◌, ◌++◌, length, sum, refl, sym, ap, subst, ◌∙◌, append_assoc, arith}
use Rattle.std.specs.Prelude.{◌==◌, nat_le, slice_index, All, IsTrue, flat_map}
use Rattle.std.proofs.lemmas.List.{append-nil, length-append, get_or_append_left, get_or-append_right, append_cancel_left}
use Rattle.std.proofs.lemmas.List.Elements.{All-append}
use Rattle.std.proofs.lemmas.Grind.{flat_map-append}
use Rattle.std.proofs.lemmas.Bool.Decides.{leb_tells}
use Rattle.omf_frame.specs.Inner.Names.{is_unsupported, lasting}
use Rattle.omf_frame.specs.declared.fault.FrameFault.{FrameFault}
use Rattle.omf_frame.specs.Bytes.{AreBytes}
use Rattle.omf_frame.specs.Fault.{Fault}
use Rattle.omf_frame.specs.Framing.{Raw, IsRecord, IsFramed, raw_bytes, present, is_whole, is_end, is_header, is_taken, front_record, frame_fault, standing_fault, record_len}
use Rattle.omf_frame.specs.Framer.{Held, open_at, refused, passed}
use Rattle.omf_frame.specs.Runs.{Run, before_all, run_over, settled, judged, with_byte, AreSound, HasNoEnd, GoesOn, IsStopped, HasEnded, IsFramingOf}
use Rattle.omf_frame.proofs.Growing.{is_short}
use Rattle.omf_frame.proofs.FaultLaws.{all_cons, untrue}
use Rattle.omf_frame.proofs.FramingLaws.{present_raw, front_raw, present-append}
use Rattle.omf_frame.proofs.Judged.{clean_tests}
use Rattle.omf_frame.proofs.Records.{record_at}
use Rattle.omf_frame.proofs.Standing.{present_one, standing_stays, present_twice, lasting_some}
use Rattle.omf_frame.proofs.StepLaws.{raw_framed, of_framed, steps_clean}
use Rattle.std.proofs.lemmas.Bool.{ne_eqb}
use Rattle.omf_frame.proofs.RunLaws.{run_joined, run_taken, going, one_more, not_settled, settled_part, kept_settled, kept_byte, held_is}

-- the first of a list, and the others
pub all_first : {A : Type 0} (P : A → Type 0) (x : A) (xs : List A) → All P (x ∷ xs) → P x
all_first P x xs h = h 0 x (omega arith)

pub all_rest : {A : Type 0} (P : A → Type 0) (x : A) (xs : List A) → All P (x ∷ xs) → All P xs
all_rest P x xs h k d low = let more : suc k < length (x ∷ xs) = omega arith in h (suc k) d more

pub all_none : {A : Type 0} (P : A → Type 0) → All P []
all_none P k d h = absurd (nowhere k h)
  where
    nowhere : (k : ℕ) → k < 0 → ⊥
    nowhere k h = omega arith

pub all_one : {A : Type 0} (P : A → Type 0) (x : A) → P x → All P (x ∷ [])
all_one P x p = all_cons P x [] p (all_none P)

-- bytes after others
pub bytes_behind : (a b : List ℕ) → AreBytes (a ++ b) → AreBytes b
bytes_behind [] b h = h
bytes_behind (x ∷ a) b h = bytes_behind a b (λ i. h (suc i))

-- a record without a fault of framing is of a known type, and the first of a module is a header
pub clean_record : (f : Bool) (r : Raw) → frame_fault f (raw_bytes r) ≡ None → IsTrue (is_taken r.kind) × (f ≡ true → IsTrue (is_header r.kind))
clean_record f r h =
    let n : ℕ = (length r.body + 1) % 256 + 256 * ((length r.body + 1) / 256) in
    let bytes : List ℕ = raw_bytes r in
    let tests = clean_tests (is_taken r.kind) (is_unsupported r.kind) (nat_le n (length (r.body ++ r.checksum ∷ []))) (n == 0) ((slice_index bytes (2 + n) == 0) || (sum bytes % 256 == 0)) (not f || is_header r.kind) (length bytes) (2 + n) h in
    (tests.0, λ e. ap (λ b. not b || is_header r.kind) (sym e) ∙ tests.1)

sound_cases : (records : List Raw) (r : Raw) → AreSound records → IsRecord r → frame_fault (length records == 0) (raw_bytes r) ≡ None → AreSound (records ++ r ∷ [])
sound_cases records r s rec clean k d h = elim (leb_tells (suc k) (length records)) [
  | inl t ↦ let same : get_or (records ++ r ∷ []) k d ≡ get_or records k d = get_or_append_left records (r ∷ []) d k t.1 in
      subst (λ x. IsRecord x × (frame_fault (k == 0) (raw_bytes x) ≡ None)) (sym same) (s k d t.1)
  | inr t ↦ let last : k ≡ length records = omega (arith, length-append records (r ∷ [])) in
      let zero_left : k - length records ≡ 0 = omega arith in
      let same : get_or (records ++ r ∷ []) k d ≡ r = get_or-append_right records (r ∷ []) (length records) k d refl (omega arith) ∙ ap (λ i. get_or (r ∷ []) i d) zero_left in
      subst (λ x. IsRecord x × (frame_fault (k == 0) (raw_bytes x) ≡ None)) (sym same) (rec, ap (λ i. frame_fault (i == 0) (raw_bytes r)) last ∙ clean)
]

-- sound records of which the last alone is a MODEND are a module
framed_of : (records : List Raw) (r : Raw) → AreSound (records ++ r ∷ []) → HasNoEnd records → IsTrue (is_end r.kind) → IsFramed (flat_map raw_bytes (records ++ r ∷ [])) (records ++ r ∷ [])
framed_of records r s none e = record {
  spelled = refl;
  each = λ k d h. (s k d h).0;
  types = λ k d h. (clean_record (k == 0) (get_or (records ++ r ∷ []) k d) (s k d h).1).0;
  first = header records s;
  last = (records, r, refl, e, none);
}
  where
    header : (records : List Raw) → AreSound (records ++ r ∷ []) → IsTrue (is_header (slice_index (flat_map raw_bytes (records ++ r ∷ [])) 0))
    header [] s = let some : 0 < length (r ∷ []) = omega arith in (clean_record true r (s 0 r some).1).1 refl
    header (x ∷ xs) s = let some : 0 < length (x ∷ xs ++ r ∷ []) = omega arith in (clean_record true x (s 0 x some).1).1 refl

-- one byte more after a part of a record
module _ (input : List ℕ) (shown : List Raw) (rest : List ℕ) (b number start : ℕ) where
  abbrev a : List ℕ
  a = rest ++ b ∷ []

  abbrev r : Raw
  r = front_record a

  -- the record is complete, and is passed
  pub going_whole : AreBytes a → input ++ b ∷ [] ≡ flat_map raw_bytes shown ++ a → AreSound shown → number ≡ length shown → start ≡ length (flat_map raw_bytes shown)
      → HasNoEnd shown → is_whole rest ≡ false → standing_fault (number == 0) a ≡ None → is_whole a ≡ true
      → IsFramingOf (input ++ b ∷ []) (record { shown = shown ++ r ∷ []; held = passed (open_at a number start) })
  going_whole fit spelled sound n s none part clean whole =
      let there : present a ≡ a = present_one rest b part in
      let short : length a ≤ record_len a = subst (λ (x : List ℕ). length x ≤ record_len x) there (is_short a) in
      let rec = record_at (number == 0) a fit short whole clean in
      let flat : flat_map raw_bytes (shown ++ r ∷ []) ≡ flat_map raw_bytes shown ++ a = flat_map-append raw_bytes shown (r ∷ []) ∙ ap (λ x. flat_map raw_bytes shown ++ x) (append-nil (raw_bytes r) ∙ rec.1) in
      let now_sound : AreSound (shown ++ r ∷ []) = sound_cases shown r sound rec.0 (ap (λ k. frame_fault (k == 0) (raw_bytes r)) (sym n) ∙ ap (frame_fault (number == 0)) rec.1 ∙ rec.2) in
      let kind : slice_index a 0 ≡ r.kind = ap (λ x. slice_index x 0) (sym rec.1) in
      record {
        rest = [];
        spelled = spelled ∙ sym flat ∙ sym (append-nil (flat_map raw_bytes (shown ++ r ∷ [])));
        sound = now_sound;
        number = omega (arith, n, length-append shown (r ∷ []));
        start = omega (arith, s, ap length flat, length-append (flat_map raw_bytes shown) a);
        state = by_end now_sound none kind (is_end (slice_index a 0)) refl;
      }
    where
      by_end : AreSound (shown ++ r ∷ []) → HasNoEnd shown → slice_index a 0 ≡ r.kind → (e : Bool) → is_end (slice_index a 0) ≡ e
          → GoesOn (shown ++ r ∷ []) [] (passed (open_at a number start)) ⊎ (IsStopped (shown ++ r ∷ []) [] (passed (open_at a number start)) ⊎ HasEnded (shown ++ r ∷ []) (passed (open_at a number start)))
      by_end now_sound none kind true e = inr (inr (record {
        ended = e;
        no_fault = refl;
        at_hand = refl;
        framed = framed_of shown r now_sound none (ap is_end (sym kind) ∙ e);
      }))
      by_end now_sound none kind false e = inl (record {
        not_ended = e;
        no_fault = refl;
        at_hand = refl;
        no_end = All-append (λ x. IsTrue (not (is_end x.kind))) shown (r ∷ []) none (all_one (λ x. IsTrue (not (is_end x.kind))) r (ap not (ap is_end (sym kind) ∙ e)));
        not_whole = refl;
        sound = refl;
      })

  pub going_step : AreBytes a → input ++ b ∷ [] ≡ flat_map raw_bytes shown ++ a → AreSound shown → number ≡ length shown → start ≡ length (flat_map raw_bytes shown)
      → HasNoEnd shown → is_whole rest ≡ false → IsFramingOf (input ++ b ∷ []) (settled (record { shown = shown; held = with_byte (open_at rest number start) b }))
  going_step fit spelled sound n s none part = by_fault (standing_fault (number == 0) a) refl
    where
      by_whole : standing_fault (number == 0) a ≡ None → (w : Bool) → is_whole a ≡ w → IsFramingOf (input ++ b ∷ []) (settled (going shown number start a))
      by_whole e true w =
          let is : settled (going shown number start a) ≡ record { shown = shown ++ r ∷ []; held = passed (open_at a number start) }
          = ap (λ (x : Bool). cond x (record { shown = shown ++ r ∷ []; held = passed (open_at a number start) }) (going shown number start a)) w in
          subst (IsFramingOf (input ++ b ∷ [])) (sym is) (going_whole fit spelled sound n s none part e w)
      by_whole e false w =
          subst (IsFramingOf (input ++ b ∷ [])) (sym (not_settled shown number start a w)) (record {
            rest = a;
            spelled = spelled;
            sound = sound;
            number = n;
            start = s;
            state = inl (record {
              not_ended = refl;
              no_fault = refl;
              at_hand = refl;
              no_end = none;
              not_whole = w;
              sound = ap (λ k. standing_fault (k == 0) a) (sym n) ∙ e;
            });
          })

      by_fault : (o : Option Fault) → standing_fault (number == 0) a ≡ o → IsFramingOf (input ++ b ∷ []) (settled (record { shown = shown; held = with_byte (open_at rest number start) b }))
      by_fault None e = subst (IsFramingOf (input ++ b ∷ [])) (sym (one_more shown number start rest b None e)) (by_whole e (is_whole a) refl)
      by_fault (Some f) e = subst (IsFramingOf (input ++ b ∷ [])) (sym (one_more shown number start rest b (Some f) e)) (record {
        rest = a;
        spelled = spelled;
        sound = sound;
        number = n;
        start = s;
        state = inr (inl (record {
          not_ended = refl;
          no_end = none;
          fault = f;
          why = lasting_some (frame_fault (length shown == 0) (present a)) f (ap (λ k. standing_fault (k == 0) (present a)) (sym n) ∙ ap (standing_fault (number == 0)) (present_one rest b part) ∙ e);
          lasts = ap (λ k. standing_fault (k == 0) (present a)) (sym n) ∙ ap (standing_fault (number == 0)) (present_one rest b part) ∙ e;
          kept = refl;
        }));
      })

-- one byte more
framing_step : (input : List ℕ) (b : ℕ) (run : Run) → AreBytes (input ++ b ∷ []) → IsFramingOf input run → IsFramingOf (input ++ b ∷ []) (settled (record run { held = with_byte run.held b }))
framing_step input b run fit h = by_state h.state
  where
    flat : List ℕ
    flat = flat_map raw_bytes run.shown

    spelled : input ++ b ∷ [] ≡ flat_map raw_bytes run.shown ++ (h.rest ++ b ∷ [])
    spelled = ap (λ x. x ++ b ∷ []) h.spelled ∙ append_assoc (flat_map raw_bytes run.shown) h.rest (b ∷ [])

    behind : AreBytes (h.rest ++ b ∷ [])
    behind = bytes_behind (flat_map raw_bytes run.shown) (h.rest ++ b ∷ []) (subst AreBytes spelled fit)

    by_state : GoesOn run.shown h.rest run.held ⊎ (IsStopped run.shown h.rest run.held ⊎ HasEnded run.shown run.held) → IsFramingOf (input ++ b ∷ []) (settled (record run { held = with_byte run.held b }))
    by_state (inl g) =
        let same : run.held ≡ open_at h.rest run.held.number run.held.start = held_is run.held g.not_ended g.no_fault ∙ ap (λ x. open_at x run.held.number run.held.start) g.at_hand in
        subst (λ (x : Held). IsFramingOf (input ++ b ∷ []) (settled (record run { held = with_byte x b }))) (sym same)
        (going_step input run.shown h.rest b run.held.number run.held.start behind spelled h.sound h.number h.start g.no_end g.not_whole)
    by_state (inr (inl s)) =
        let same : settled (record run { held = with_byte run.held b }) ≡ run
        = ap (λ (x : Held). settled (record run { held = x })) (kept_byte run (refused run.held s.fault) b s.kept) ∙ kept_settled run (refused run.held s.fault) s.kept in
        let stays : standing_fault (length run.shown == 0) (present (h.rest ++ b ∷ [])) ≡ Some s.fault
        = ap (standing_fault (length run.shown == 0)) (sym (present-append h.rest (b ∷ []))) ∙ standing_stays (length run.shown == 0) (present h.rest) (b ∷ []) s.fault (present_twice h.rest) s.lasts in
        subst (IsFramingOf (input ++ b ∷ [])) (sym same) (record {
          rest = h.rest ++ b ∷ [];
          spelled = spelled;
          sound = h.sound;
          number = h.number;
          start = h.start;
          state = inr (inl (record { not_ended = s.not_ended; no_end = s.no_end; fault = s.fault; why = lasting_some (frame_fault (length run.shown == 0) (present (h.rest ++ b ∷ []))) s.fault stays; lasts = stays; kept = s.kept }));
        })
    by_state (inr (inr e)) =
        let judgment : Held = judged run.held (run.held.bytes ++ b ∷ []) (standing_fault (run.held.number == 0) (run.held.bytes ++ b ∷ [])) in
        let byte : with_byte run.held b ≡ run.held
        = ap (λ (o : Option FrameFault). cond (is_some o || run.held.ended) run.held judgment) e.no_fault ∙ ap (λ (x : Bool). cond x run.held judgment) e.ended in
        let same : settled (record run { held = with_byte run.held b }) ≡ run
        = ap (λ (x : Held). settled (record run { held = x })) byte ∙ settled_part run (ap is_whole e.at_hand) in
        subst (IsFramingOf (input ++ b ∷ [])) (sym same) (record {
          rest = h.rest ++ b ∷ [];
          spelled = spelled;
          sound = h.sound;
          number = h.number;
          start = h.start;
          state = inr (inr e);
        })

pub framing_all : (input more : List ℕ) (run : Run) → AreBytes (input ++ more) → IsFramingOf input run → IsFramingOf (input ++ more) (run_over run more)
framing_all input [] run fit h = subst (λ x. IsFramingOf x run) (sym (append-nil input)) h
framing_all input (b ∷ more) run fit h =
    let assoc : (input ++ b ∷ []) ++ more ≡ input ++ b ∷ more = append_assoc input (b ∷ []) more in
    let fit' : AreBytes ((input ++ b ∷ []) ++ more) = subst AreBytes (sym assoc) fit in
    subst (λ x. IsFramingOf x (run_over run (b ∷ more))) assoc
    (framing_all (input ++ b ∷ []) more (settled (record run { held = with_byte run.held b })) fit' (framing_step input b run (bytes_before (input ++ b ∷ []) more fit') h))
  where
    bytes_before : (a b : List ℕ) → AreBytes (a ++ b) → AreBytes a
    bytes_before [] b h i = omega arith
    bytes_before (x ∷ a) b h zero = h 0
    bytes_before (x ∷ a) b h (suc i) = bytes_before a b (λ j. h (suc j)) i

pub framing_from_start : (input : List ℕ) → AreBytes input → IsFramingOf input (run_over before_all input)
framing_from_start input fit = framing_all [] input before_all fit (record {
  rest = [];
  spelled = refl;
  sound = λ k d h. absurd (nowhere k h);
  number = refl;
  start = refl;
  state = inl (record { not_ended = refl; no_fault = refl; at_hand = refl; no_end = all_none (λ r. IsTrue (not (is_end r.kind))); not_whole = refl; sound = refl });
})
  where
    nowhere : (k : ℕ) → k < 0 → ⊥
    nowhere k h = omega arith

-- the record in front is the same
pub same_front : (r s : Raw) (x y : List ℕ) → length r.body + 1 < 65536 → length s.body + 1 < 65536 → raw_bytes r ++ x ≡ raw_bytes s ++ y → r ≡ s
same_front r s x y hr hs e =
    sym (front_raw r hr) ∙ ap front_record (sym (present_raw r hr x) ∙ ap present e ∙ present_raw s hs y) ∙ front_raw s hs

contrary : (k m : ℕ) → k ≡ m → IsTrue (is_end k) → IsTrue (not (is_end m)) → ⊥
contrary k m e h n = untrue (sym (ap not (ap is_end (sym e) ∙ h)) ∙ n)

-- records of which the last alone is a MODEND, and that begin the same bytes, are the same
same_records : (xs ys : List Raw) (r s : Raw) (p q : List ℕ) → All IsRecord (xs ++ r ∷ []) → All IsRecord (ys ++ s ∷ []) → HasNoEnd xs → HasNoEnd ys → IsTrue (is_end r.kind) → IsTrue (is_end s.kind)
    → flat_map raw_bytes (xs ++ r ∷ []) ++ p ≡ flat_map raw_bytes (ys ++ s ∷ []) ++ q → xs ++ r ∷ [] ≡ ys ++ s ∷ []
same_records [] [] r s p q hr hs nx ny er es e =
    ap (λ x. x ∷ []) (same_front r s _ _ (all_first IsRecord r [] hr).0 (all_first IsRecord s [] hs).0 (sym (append_assoc (raw_bytes r) [] p) ∙ e ∙ append_assoc (raw_bytes s) [] q))
same_records [] (y ∷ ys) r s p q hr hs nx ny er es e =
    let same : r ≡ y = same_front r y _ _ (all_first IsRecord r [] hr).0 (all_first IsRecord y (ys ++ s ∷ []) hs).0 (sym (append_assoc (raw_bytes r) [] p) ∙ e ∙ append_assoc (raw_bytes y) (flat_map raw_bytes (ys ++ s ∷ [])) q) in
    absurd (contrary r.kind y.kind (ap (λ (x : Raw). x.kind) same) er (all_first (λ x. IsTrue (not (is_end x.kind))) y ys ny))
same_records (x ∷ xs) [] r s p q hr hs nx ny er es e =
    let same : s ≡ x = same_front s x _ _ (all_first IsRecord s [] hs).0 (all_first IsRecord x (xs ++ r ∷ []) hr).0 (sym (append_assoc (raw_bytes s) [] q) ∙ sym e ∙ append_assoc (raw_bytes x) (flat_map raw_bytes (xs ++ r ∷ [])) p) in
    absurd (contrary s.kind x.kind (ap (λ (x : Raw). x.kind) same) es (all_first (λ x. IsTrue (not (is_end x.kind))) x xs nx))
same_records (x ∷ xs) (y ∷ ys) r s p q hr hs nx ny er es e =
    let whole : raw_bytes x ++ (flat_map raw_bytes (xs ++ r ∷ []) ++ p) ≡ raw_bytes y ++ (flat_map raw_bytes (ys ++ s ∷ []) ++ q)
    = sym (append_assoc (raw_bytes x) (flat_map raw_bytes (xs ++ r ∷ [])) p) ∙ e ∙ append_assoc (raw_bytes y) (flat_map raw_bytes (ys ++ s ∷ [])) q in
    let first : x ≡ y = same_front x y _ _ (all_first IsRecord x (xs ++ r ∷ []) hr).0 (all_first IsRecord y (ys ++ s ∷ []) hs).0 whole in
    let rests : flat_map raw_bytes (xs ++ r ∷ []) ++ p ≡ flat_map raw_bytes (ys ++ s ∷ []) ++ q
    = append_cancel_left (raw_bytes y) _ _ (ap (λ (z : Raw). raw_bytes z ++ (flat_map raw_bytes (xs ++ r ∷ []) ++ p)) (sym first) ∙ whole) in
    let others = same_records xs ys r s p q (all_rest IsRecord x (xs ++ r ∷ []) hr) (all_rest IsRecord y (ys ++ s ∷ []) hs) (all_rest (λ z. IsTrue (not (is_end z.kind))) x xs nx) (all_rest (λ z. IsTrue (not (is_end z.kind))) y ys ny) er es rests in
    ap (λ t. x ∷ t) others ∙ ap (λ z. z ∷ ys ++ s ∷ []) first

-- at most one prefix is framed
pub framed_once : (a b x y : List ℕ) (rs ss : List Raw) → IsFramed a rs → IsFramed b ss → a ++ x ≡ b ++ y → (a ≡ b) × (rs ≡ ss)
framed_once a b x y rs ss f g e =
    let h = f.last in
    let k = g.last in
    let rs_are : rs ≡ h.0 ++ h.1 ∷ [] = h.2 in
    let ss_are : ss ≡ k.0 ++ k.1 ∷ [] = k.2 in
    let spelled : flat_map raw_bytes (h.0 ++ h.1 ∷ []) ++ x ≡ flat_map raw_bytes (k.0 ++ k.1 ∷ []) ++ y
    = ap (λ l. flat_map raw_bytes l ++ x) (sym rs_are) ∙ ap (λ l. l ++ x) (sym f.spelled) ∙ e ∙ ap (λ l. l ++ y) g.spelled ∙ ap (λ l. flat_map raw_bytes l ++ y) ss_are in
    let same : rs ≡ ss = rs_are ∙ same_records h.0 k.0 h.1 k.1 x y (subst (All IsRecord) rs_are f.each) (subst (All IsRecord) ss_are g.each) h.4 k.4 h.3 k.3 spelled ∙ sym ss_are in
    (f.spelled ∙ ap (flat_map raw_bytes) same ∙ sym g.spelled, same)

-- A module is read to its end.
module _ (shown : List Raw) (number start : ℕ) where
  -- a record that may be here is shown and passed
  read_one : (r : Raw) → IsRecord r → IsTrue (is_taken r.kind) → IsTrue (not (number == 0) || is_header r.kind)
      → run_over (going shown number start []) (raw_bytes r) ≡ record { shown = shown ++ r ∷ []; held = passed (open_at (raw_bytes r) number start) }
  read_one r is known headed =
      let framed = raw_framed (number == 0) r is known headed in
      let there : present (raw_bytes r) ≡ raw_bytes r = ap present (sym (append-nil (raw_bytes r))) ∙ present_raw r is.0 [] in
      let clean : standing_fault (number == 0) (raw_bytes r) ≡ None = ap lasting (steps_clean (number == 0) (raw_bytes r) (of_framed (number == 0) (raw_bytes r) framed)) in
      run_taken shown number start [] (raw_bytes r) refl there clean
      ∙ ap (λ (w : Bool). cond w (record { shown = shown ++ front_record (raw_bytes r) ∷ []; held = passed (open_at (raw_bytes r) number start) }) (going shown number start (raw_bytes r))) framed.whole
      ∙ ap (λ (x : Raw). record { shown = shown ++ x ∷ []; held = passed (open_at (raw_bytes r) number start) }) (front_raw r is.0)

  abbrev pub ended_run : Run
  ended_run = record { shown = shown; held = record { bytes = []; number = number; start = start; ended = true; fault = None } }

  ended_stays : (x : List ℕ) → run_over ended_run x ≡ ended_run
  ended_stays [] = refl
  ended_stays (b ∷ x) = ended_stays x

not_first : (n : ℕ) (k : Bool) → IsTrue (not (n + 1 == 0) || k)
not_first n k = let more : n + 1 ≡ 0 → ⊥ = λ e. omega (arith, e) in ap (λ b. not b || k) (ne_eqb (n + 1) 0 more)

no_end_here : (b : Bool) → IsTrue (not b) → b ≡ false
no_end_here true h = absurd (untrue h)
no_end_here false h = refl

-- the bytes of the last record, and of a record before it
read_last : (shown : List Raw) (number start : ℕ) (z : Raw) (bytes x : List ℕ) → bytes ≡ raw_bytes z → IsRecord z → IsTrue (is_taken z.kind) → IsTrue (not (number == 0) || is_header z.kind) → IsTrue (is_end z.kind)
    → run_over (going shown number start []) (bytes ++ x) ≡ ended_run (shown ++ z ∷ []) (number + 1) (start + length bytes)
read_last shown number start z bytes x b is known headed e =
    ap (λ l. run_over (going shown number start []) (l ++ x)) b ∙ run_joined (going shown number start []) (raw_bytes z) x
    ∙ ap (λ (run : Run). run_over run x) (read_one shown number start z is known headed)
    ∙ ap (λ (k : Bool). run_over (record { shown = shown ++ z ∷ []; held = record { bytes = []; number = number + 1; start = start + length (raw_bytes z); ended = k; fault = None } }) x) e
    ∙ ended_stays (shown ++ z ∷ []) (number + 1) (start + length (raw_bytes z)) x
    ∙ ap (λ l. ended_run (shown ++ z ∷ []) (number + 1) (start + length l)) (sym b)

read_next : (shown : List Raw) (number start : ℕ) (y : Raw) (bytes tail x : List ℕ) → bytes ≡ raw_bytes y ++ tail → IsRecord y → IsTrue (is_taken y.kind) → IsTrue (not (number == 0) || is_header y.kind) → IsTrue (not (is_end y.kind))
    → run_over (going shown number start []) (bytes ++ x) ≡ run_over (going (shown ++ y ∷ []) (number + 1) (start + length (raw_bytes y)) []) (tail ++ x)
read_next shown number start y bytes tail x b is known headed e =
    ap (λ l. run_over (going shown number start []) l) (ap (λ l. l ++ x) b ∙ append_assoc (raw_bytes y) tail x) ∙ run_joined (going shown number start []) (raw_bytes y) (tail ++ x)
    ∙ ap (λ (run : Run). run_over run (tail ++ x)) (read_one shown number start y is known headed)
    ∙ ap (λ (k : Bool). run_over (record { shown = shown ++ y ∷ []; held = record { bytes = []; number = number + 1; start = start + length (raw_bytes y); ended = k; fault = None } }) (tail ++ x)) (no_end_here (is_end y.kind) e)

read_all : (front : List Raw) (z : Raw) (x : List ℕ) (shown all : List Raw) (number start : ℕ) (bytes : List ℕ) → all ≡ front ++ z ∷ [] → bytes ≡ flat_map raw_bytes all → All IsRecord (front ++ z ∷ []) → All (λ q. IsTrue (is_taken q.kind)) (front ++ z ∷ [])
    → IsTrue (not (number == 0) || is_header (slice_index bytes 0)) → HasNoEnd front → IsTrue (is_end z.kind)
    → run_over (going shown number start []) (bytes ++ x) ≡ ended_run (shown ++ all) (number + length all) (start + length bytes)
read_all [] z x shown all number start bytes a b is known headed none e =
    let b' : bytes ≡ raw_bytes z = b ∙ ap (flat_map raw_bytes) a ∙ append-nil (raw_bytes z) in
    let headed' : IsTrue (not (number == 0) || is_header z.kind) = subst (λ l. IsTrue (not (number == 0) || is_header (slice_index l 0))) b' headed in
    let count : number + 1 ≡ number + length all = omega (arith, ap length a) in
    read_last shown number start z bytes x b' (all_first IsRecord z [] is) (all_first (λ q. IsTrue (is_taken q.kind)) z [] known) headed' e
    ∙ ap (λ n. ended_run (shown ++ z ∷ []) n (start + length bytes)) count
    ∙ ap (λ l. ended_run (shown ++ l) (number + length all) (start + length bytes)) (sym a)
read_all (y ∷ front) z x shown all number start bytes a b is known headed none e =
    let others : List Raw = front ++ z ∷ [] in
    let tail : List ℕ = flat_map raw_bytes others in
    let b' : bytes ≡ raw_bytes y ++ tail = b ∙ ap (flat_map raw_bytes) a in
    let headed' : IsTrue (not (number == 0) || is_header y.kind) = subst (λ l. IsTrue (not (number == 0) || is_header (slice_index l 0))) b' headed in
    let count : number + 1 + length others ≡ number + length all = omega (arith, ap length a) in
    let far : start + length (raw_bytes y) + length tail ≡ start + length bytes = omega (arith, ap length b', length-append (raw_bytes y) tail) in
    let same : (shown ++ y ∷ []) ++ others ≡ shown ++ all = append_assoc shown (y ∷ []) others ∙ ap (λ l. shown ++ l) (sym a) in
    read_next shown number start y bytes tail x b' (all_first IsRecord y others is) (all_first (λ q. IsTrue (is_taken q.kind)) y others known) headed' (all_first (λ q. IsTrue (not (is_end q.kind))) y front none)
    ∙ read_all front z x (shown ++ y ∷ []) others (number + 1) (start + length (raw_bytes y)) tail refl refl (all_rest IsRecord y others is) (all_rest (λ q. IsTrue (is_taken q.kind)) y others known)
    (not_first number (is_header (slice_index tail 0))) (all_rest (λ q. IsTrue (not (is_end q.kind))) y front none) e
    ∙ ap (λ l. ended_run l (number + 1 + length others) (start + length (raw_bytes y) + length tail)) same
    ∙ ap (λ k. ended_run (shown ++ all) k (start + length (raw_bytes y) + length tail)) count
    ∙ ap (λ k. ended_run (shown ++ all) (number + length all) k) far

pub module_read : (a x : List ℕ) (rs : List Raw) → IsFramed a rs → run_over before_all (a ++ x) ≡ ended_run rs (length rs) (length a)
module_read a x rs f =
    let l = f.last in
    let are : rs ≡ l.0 ++ l.1 ∷ [] = l.2 in
    read_all l.0 l.1 x [] rs 0 0 a are f.spelled (subst (All IsRecord) are f.each) (subst (All (λ q. IsTrue (is_taken q.kind))) are f.types) f.first l.4 l.3
    ∙ ap (λ n. ended_run rs n (0 + length a)) (omega arith)
    ∙ ap (λ n. ended_run rs (length rs) n) (omega arith)
