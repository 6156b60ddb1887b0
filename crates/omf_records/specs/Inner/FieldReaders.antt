-- The readings of fields.
use Rattle.std.proofs.Common.{◌≡◌, ℕ, suc, ◌+◌, ◌-◌, ◌*◌, ◌/◌, ◌%◌, ◌<◌, ◌≤◌, inl, inr, Bool, true, false, cond, ltb, List, [], ◌∷◌, ◌++◌, length, take, drop, Result, Ok, Err, refl, sym, ap, subst, ◌∙◌, arith}
use Rattle.std.specs.Prelude.{nat_lt, nat_le, ◌==◌, if◌then◌else◌}
use Rattle.std.proofs.lemmas.Bool.{ltb-false, le-ltb, ltb-true, lt-ltb, leb-true, leb-false, le-leb, lt-leb, eqb-true, eqb-false, ne_eqb, cases_Bool}
use Rattle.std.proofs.lemmas.List.{take_at, drop_at, take-append-drop, length-append, length-take, length-drop}
use Rattle.byteorder.specs.Endian.{little_number}
use Rattle.omf_frame.specs.Bytes.{AreBytes}
use Rattle.omf_frame.specs.Fault.{Fault}
use Rattle.omf_frame.specs.Fields.{IsIndex, IsName, IsLittle, IsCommunalLength}
use Rattle.omf_frame.specs.declared.fault.Reason.{Reason}
use Rattle.omf_frame.specs.declared.fault.Reason.TheVariants as reason
use Rattle.omf_records.specs.Inner.Names.{IsByte, IsHead}
use Rattle.omf_records.specs.Layout.{fault, field_or, name, index, byte, le, number_of, length_reason, communal_length, head, Behind}
use Rattle.omf_records.specs.Inner.Reads.{After, after, Reading, Takes, Refuses, Reader, Falls, Shrinks}
use Rattle.omf_records.specs.Inner.Steps.{guard_ok, guard_err, chosen, refused_by, AreBytes-take}

-- ---- any field

module _ {A : Type 0} (why : List ℕ → Reason) (P : A → List ℕ → Type 0) (read : Reading A) where
  abbrev pub FieldOk : Type 0
  FieldOk = (at : ℕ) (bytes : List ℕ) (a : After A) → AreBytes bytes → read at bytes ≡ Ok a → Takes (field_or why P) at bytes a

  abbrev pub FieldAgain : Type 0
  FieldAgain = (at : ℕ) (front rest : List ℕ) (x : A) → P x front → read at (front ++ rest) ≡ Ok (after x (at + length front) rest)

  abbrev pub FieldRefused : Type 0
  FieldRefused = (at : ℕ) (bytes : List ℕ) (e : Fault) → read at bytes ≡ Err e → e ≡ fault at (why bytes)

  not_both : (r : Result (After A) Fault) (a : After A) (e : Fault) → r ≡ Ok a → r ≡ Err e → ⊥
  not_both r a e p q = absurd cc

  pub field_err : FieldAgain → FieldRefused → (at : ℕ) (bytes : List ℕ) (e : Fault) → AreBytes bytes → read at bytes ≡ Err e → (field_or why P).Faults at bytes e
  field_err again refused at bytes e h is = (refused at bytes e is, λ front back x parts sp. not_both (read at (front ++ back)) _ e (again at front back x sp) (subst (λ (w : List ℕ). read at w ≡ Err e) parts is))

  refuse : FieldOk → FieldRefused → (at : ℕ) (bytes : List ℕ) (f : Fault) → AreBytes bytes → (field_or why P).Faults at bytes f → (r : Result (After A) Fault) → read at bytes ≡ r → Refuses r f
  refuse ok refused at bytes f h q (Ok a) e = let t = ok at bytes a h e in absurd (q.1 t.front a.rest a.value t.parts t.spells)
  refuse ok refused at bytes f h q (Err d) e = refused_by _ d f refl (refused at bytes d e ∙ sym q.0)

  pub field_refuses : FieldOk → FieldRefused → (at : ℕ) (bytes : List ℕ) (f : Fault) → AreBytes bytes → (field_or why P).Faults at bytes f → Refuses (read at bytes) f
  field_refuses ok refused at bytes f h q = refuse ok refused at bytes f h q (read at bytes) refl

  pub field_behind : Behind (field_or why P)
  field_behind at bytes e q = let w : e.within ≡ at = ap (λ (x : Fault). x.within) q.0 in omega (arith, w)

  pub field_falls : Shrinks read → Falls read
  field_falls shrinks at bytes a e = let h = shrinks at bytes a e in omega arith

  abbrev pub field_reader : FieldOk → FieldAgain → FieldRefused → Falls read → Reader (field_or why P)
  field_reader ok again refused falls = record { read = read; ok = ok; again = again; err = field_err again refused; refuses = field_refuses ok refused; behind = field_behind; falls = falls }

abbrev pub short : List ℕ → Reason
short bytes = reason.Short

-- ---- a name

abbrev pub name_read : Reading (List ℕ)
name_read at [] = Err (fault at reason.Short)
name_read at (n ∷ bytes) = if nat_lt (length bytes) n then Err (fault at reason.Short) else Ok (record { value = take n bytes; within = at + suc n; rest = drop n bytes })

pub name_ok : FieldOk short IsName name_read
name_ok at [] a h e = absurd cc
name_ok at (n ∷ bytes) a h e =
    let g = guard_ok (ltb (length bytes) n) _ _ a e in
    let long : n ≤ length bytes = ltb-false _ _ g.0 in
    let len : length (take n bytes) ≡ n = omega (arith, length-take n bytes) in
    let low : n < 256 = h 0 in
    subst (Takes name at (n ∷ bytes)) g.1 (record {
      front = n ∷ take n bytes;
      parts = ap (λ (t : List ℕ). n ∷ t) (sym (take-append-drop n bytes));
      place = rw len refl;
      spells = (omega arith, rw len refl);
    })

pub name_again : FieldAgain short IsName name_read
name_again at front rest x h =
    let long : ltb (length (x ++ rest)) (length x) ≡ false = le-ltb _ _ (omega (arith, length-append x rest)) in
    rw (h.1, long, take_at x rest (length x) refl, drop_at x rest (length x) refl) refl

pub name_short : FieldRefused short IsName name_read
name_short at [] e h = cc
name_short at (n ∷ bytes) e h = guard_err (ltb (length bytes) n) (fault at reason.Short) _ e h

pub name_shrinks : Shrinks name_read
name_shrinks at [] a e = absurd cc
name_shrinks at (n ∷ bytes) a e =
    let g = guard_ok (ltb (length bytes) n) _ _ a e in
    let long : n ≤ length bytes = ltb-false _ _ g.0 in
    subst (λ (x : After (List ℕ)). length x.rest < suc (length bytes)) g.1 (omega (arith, length-drop n bytes))

abbrev pub name_reader : Reader name
name_reader = field_reader short IsName name_read name_ok name_again name_short (field_falls short IsName name_read name_shrinks)

-- ---- a byte

abbrev pub byte_read : Reading ℕ
byte_read at [] = Err (fault at reason.Short)
byte_read at (b ∷ bytes) = Ok (after b (at + 1) bytes)

pub byte_ok : FieldOk short IsByte byte_read
byte_ok at [] a h e = absurd cc
byte_ok at (b ∷ bytes) a h e = let q : after b (at + 1) bytes ≡ a = cc in subst (Takes byte at (b ∷ bytes)) q (record { front = b ∷ []; parts = refl; place = refl; spells = (h 0, refl) })

pub byte_again : FieldAgain short IsByte byte_read
byte_again at front rest x h = rw h.1 refl

pub byte_short : FieldRefused short IsByte byte_read
byte_short at [] e h = cc
byte_short at (b ∷ bytes) e h = absurd cc

pub byte_shrinks : Shrinks byte_read
byte_shrinks at [] a e = absurd cc
byte_shrinks at (b ∷ bytes) a e = let q : after b (at + 1) bytes ≡ a = cc in subst (λ (x : After ℕ). length x.rest < suc (length bytes)) q (omega arith)

abbrev pub byte_reader : Reader byte
byte_reader = field_reader short IsByte byte_read byte_ok byte_again byte_short (field_falls short IsByte byte_read byte_shrinks)

-- ---- one byte below 128, or two bytes, of which the first is not

module _ (two : ℕ → ℕ → ℕ) where
  abbrev pub one_or_two : Reading ℕ
  one_or_two at [] = Err (fault at reason.Short)
  one_or_two at (b ∷ []) = if nat_lt b 128 then Ok (after b (at + 1) []) else Err (fault at reason.Short)
  one_or_two at (b ∷ c ∷ bytes) = if nat_lt b 128 then Ok (after b (at + 1) (c ∷ bytes)) else Ok (after (two b c) (at + 2) bytes)

  one_low : (at b : ℕ) (rest : List ℕ) → b < 128 → one_or_two at (b ∷ rest) ≡ Ok (after b (at + 1) rest)
  one_low at b [] low = rw (lt-ltb b 128 low) refl
  one_low at b (c ∷ rest) low = rw (lt-ltb b 128 low) refl

  two_shrinks : Shrinks one_or_two
  two_shrinks at [] a e = absurd cc
  two_shrinks at (b ∷ []) a e = elim (chosen (ltb b 128) _ _ _ e) [ inl (t, q) ↦ let p : after b (at + 1) [] ≡ a = cc in subst (λ (x : After ℕ). length x.rest < 1) p (omega arith) | inr (t, q) ↦ absurd cc ]
  two_shrinks at (b ∷ c ∷ bytes) a e =
      elim (chosen (ltb b 128) _ _ _ e) [
        | inl (t, q) ↦ let p : after b (at + 1) (c ∷ bytes) ≡ a = cc in subst (λ (x : After ℕ). length x.rest < suc (suc (length bytes))) p (omega arith)
        | inr (t, q) ↦ let p : after (two b c) (at + 2) bytes ≡ a = cc in subst (λ (x : After ℕ). length x.rest < suc (suc (length bytes))) p (omega arith)
      ]

  module _ (P : ℕ → List ℕ → Type 0) where
    two_short : FieldRefused short P one_or_two
    two_short at [] e h = cc
    two_short at (b ∷ []) e h = elim (chosen (ltb b 128) _ _ _ h) [ inl (t, q) ↦ absurd cc | inr (t, q) ↦ cc ]
    two_short at (b ∷ c ∷ bytes) e h = elim (chosen (ltb b 128) _ _ _ h) [ inl (t, q) ↦ absurd cc | inr (t, q) ↦ absurd cc ]

    two_ok : ((b : ℕ) → b < 128 → P b (b ∷ [])) → ((b c : ℕ) → 128 ≤ b → b < 256 → c < 256 → P (two b c) (b ∷ c ∷ [])) → FieldOk short P one_or_two
    two_ok one both at [] a h e = absurd cc
    two_ok one both at (b ∷ []) a h e =
        elim (chosen (ltb b 128) _ _ _ e) [
          | inl (t, q) ↦ let p : after b (at + 1) [] ≡ a = cc in subst (Takes (field_or short P) at (b ∷ [])) p (record { front = b ∷ []; parts = refl; place = refl; spells = one b (ltb-true _ _ t) })
          | inr (t, q) ↦ absurd cc
        ]
    two_ok one both at (b ∷ c ∷ bytes) a h e =
        elim (chosen (ltb b 128) _ _ _ e) [
          | inl (t, q) ↦ let p : after b (at + 1) (c ∷ bytes) ≡ a = cc in subst (Takes (field_or short P) at (b ∷ c ∷ bytes)) p (record { front = b ∷ []; parts = refl; place = refl; spells = one b (ltb-true _ _ t) })
          | inr (t, q) ↦ let p : after (two b c) (at + 2) bytes ≡ a = cc in subst (Takes (field_or short P) at (b ∷ c ∷ bytes)) p (record { front = b ∷ c ∷ []; parts = refl; place = refl; spells = both b c (ltb-false _ _ t) (h 0) (h 1) })
        ]

-- ---- an index

abbrev pub index_value : ℕ → ℕ → ℕ
index_value b c = (b - 128) * 256 + c

abbrev pub index_read : Reading ℕ
index_read = one_or_two index_value

pub index_ok : FieldOk short IsIndex index_read
index_ok = two_ok index_value IsIndex (λ b low. (low, refl)) (λ b c high hb hc. (high, hb, hc, refl))

pub index_again : FieldAgain short IsIndex index_read
index_again at [] rest x h = absurd h
index_again at (a ∷ []) rest x h = rw h.1 (one_low index_value at a rest h.0)
index_again at (a ∷ b ∷ []) rest x h = rw (le-ltb a 128 h.0, h.3) refl
index_again at (a ∷ b ∷ c ∷ more) rest x h = absurd h

pub index_short : FieldRefused short IsIndex index_read
index_short = two_short index_value IsIndex

pub index_shrinks : Shrinks index_read
index_shrinks = two_shrinks index_value

abbrev pub index_reader : Reader index
index_reader = field_reader short IsIndex index_read index_ok index_again index_short (field_falls short IsIndex index_read index_shrinks)

-- ---- the first byte of a THREAD, or the first two of a FIXUP

abbrev pub head_value : ℕ → ℕ → ℕ
head_value b c = b * 256 + c

abbrev pub head_read : Reading ℕ
head_read = one_or_two head_value

pub head_ok : FieldOk short IsHead head_read
head_ok = two_ok head_value IsHead (λ b low. inl (low, refl)) (λ b c high hb hc.
    let first : (b * 256 + c) / 256 ≡ b = omega (arith, hc) in
    let second : (b * 256 + c) % 256 ≡ c = omega (arith, hc) in
    inr (omega (arith, high), omega (arith, hb, hc), rw (first, second) refl))

pub head_again : FieldAgain short IsHead head_read
head_again at front rest x (inl (low, is)) = rw is (one_low head_value at x rest low)
head_again at front rest x (inr (high, low, is)) =
    let test : ltb (x / 256) 128 ≡ false = le-ltb _ _ (omega arith) in
    let value : x / 256 * 256 + x % 256 ≡ x = omega arith in
    rw (is, test, value) refl

pub head_short : FieldRefused short IsHead head_read
head_short = two_short head_value IsHead

pub head_shrinks : Shrinks head_read
head_shrinks = two_shrinks head_value

abbrev pub head_reader : Reader head
head_reader = field_reader short IsHead head_read head_ok head_again head_short (field_falls short IsHead head_read head_shrinks)

-- ---- a number of k bytes

abbrev pub le_read : ℕ → Reading ℕ
le_read k at bytes = if nat_lt (length bytes) k then Err (fault at reason.Short) else Ok (after (little_number k (take k bytes)) (at + k) (drop k bytes))

pub le_ok : (k : ℕ) → FieldOk short (IsLittle k) (le_read k)
le_ok k at bytes a h e =
    let g = guard_ok (ltb (length bytes) k) _ _ a e in
    let long : k ≤ length bytes = ltb-false _ _ g.0 in
    let len : length (take k bytes) ≡ k = omega (arith, length-take k bytes) in
    subst (Takes (le k) at bytes) g.1 (record {
      front = take k bytes;
      parts = sym (take-append-drop k bytes);
      place = rw len refl;
      spells = record { count = len; bytes_fit = AreBytes-take k bytes h; value = refl };
    })

pub le_again : (k : ℕ) → FieldAgain short (IsLittle k) (le_read k)
le_again k at front rest x h =
    let long : ltb (length (front ++ rest)) k ≡ false = le-ltb _ _ (omega (arith, h.count, length-append front rest)) in
    rw (long, take_at front rest k h.count, drop_at front rest k h.count, h.value, h.count) refl

pub le_short : (k : ℕ) → FieldRefused short (IsLittle k) (le_read k)
le_short k at bytes e h = guard_err (ltb (length bytes) k) (fault at reason.Short) _ e h

pub le_falls : (k : ℕ) → Falls (le_read k)
le_falls k at bytes a e =
    let g = guard_ok (ltb (length bytes) k) _ _ a e in
    subst (λ (x : After ℕ). length x.rest ≤ length bytes) g.1 (omega (arith, length-drop k bytes))

pub le_shrinks : (k : ℕ) → 0 < k → Shrinks (le_read k)
le_shrinks k some at bytes a e =
    let g = guard_ok (ltb (length bytes) k) _ _ a e in
    let long : k ≤ length bytes = ltb-false _ _ g.0 in
    subst (λ (x : After ℕ). length x.rest < length bytes) g.1 (omega (arith, length-drop k bytes))

abbrev pub le_reader : (k : ℕ) → Reader (le k)
le_reader k = field_reader short (IsLittle k) (le_read k) (le_ok k) (le_again k) (le_short k) (le_falls k)

-- 32 bits, or 16
abbrev pub number_reader : (wide : Bool) → Reader (number_of wide)
number_reader wide = le_reader (cond wide 4 2)

pub number_shrinks : (wide : Bool) → Shrinks (number_reader wide).read
number_shrinks true = le_shrinks 4 (omega arith)
number_shrinks false = le_shrinks 2 (omega arith)

-- ---- a communal length

-- the number after the first byte of a length; if it does not fit, the length does not
abbrev pub marked_read : ℕ → Reading ℕ
marked_read k at bytes = if nat_lt (length bytes) k then Err (fault at reason.Short) else Ok (after (little_number k (take k bytes)) (at + suc k) (drop k bytes))

abbrev pub length_read : Reading ℕ
length_read at [] = Err (fault at reason.Short)
length_read at (a ∷ bytes) = if nat_le a 128 then Ok (after a (at + 1) bytes)
    else if a == 0x81 then marked_read 2 at bytes
    else if a == 0x84 then marked_read 3 at bytes
    else if a == 0x88 then marked_read 4 at bytes
    else Err (fault at reason.CommunalLength)

marked_takes : (k m at : ℕ) (bytes : List ℕ) (a : After ℕ) → ((n : ℕ) (rest : List ℕ) → IsLittle k n rest → IsCommunalLength n (m ∷ rest)) → AreBytes bytes → marked_read k at bytes ≡ Ok a → Takes communal_length at (m ∷ bytes) a
marked_takes k m at bytes a spelled h e =
    let g = guard_ok (ltb (length bytes) k) _ _ a e in
    let long : k ≤ length bytes = ltb-false _ _ g.0 in
    let len : length (take k bytes) ≡ k = omega (arith, length-take k bytes) in
    subst (Takes communal_length at (m ∷ bytes)) g.1 (record {
      front = m ∷ take k bytes;
      parts = ap (λ (t : List ℕ). m ∷ t) (sym (take-append-drop k bytes));
      place = rw len refl;
      spells = spelled _ _ (record { count = len; bytes_fit = AreBytes-take k bytes h; value = refl });
    })

marked_again : (k at n : ℕ) (front rest : List ℕ) → IsLittle k n front → marked_read k at (front ++ rest) ≡ Ok (after n (at + suc (length front)) rest)
marked_again k at n front rest h =
    let long : ltb (length (front ++ rest)) k ≡ false = le-ltb _ _ (omega (arith, h.count, length-append front rest)) in
    rw (long, take_at front rest k h.count, drop_at front rest k h.count, h.value, h.count) refl

marked_shrinks : (k at : ℕ) (bytes : List ℕ) (a : After ℕ) → marked_read k at bytes ≡ Ok a → length a.rest < suc (length bytes)
marked_shrinks k at bytes a e =
    let g = guard_ok (ltb (length bytes) k) _ _ a e in
    subst (λ (x : After ℕ). length x.rest < suc (length bytes)) g.1 (omega (arith, length-drop k bytes))

-- the five cases of the first byte
pub data Mark (a : ℕ) : Type 0 where
  Itself : a ≤ 128 → Mark a
  Two : a ≡ 0x81 → Mark a
  Three : a ≡ 0x84 → Mark a
  Four : a ≡ 0x88 → Mark a
  Wrong : 128 < a → (a ≡ 0x81 → ⊥) → (a ≡ 0x84 → ⊥) → (a ≡ 0x88 → ⊥) → Mark a

pub mark : (a : ℕ) → Mark a
mark a =
    elim (cases_Bool (nat_le a 128)) [
      | inl t ↦ Itself (leb-true _ _ t)
      | inr f ↦ elim (cases_Bool (a == 0x81)) [
        | inl t ↦ Two (eqb-true _ _ t)
        | inr f1 ↦ elim (cases_Bool (a == 0x84)) [
          | inl t ↦ Three (eqb-true _ _ t)
          | inr f2 ↦ elim (cases_Bool (a == 0x88)) [
            | inl t ↦ Four (eqb-true _ _ t)
            | inr f3 ↦ Wrong (leb-false _ _ f) (eqb-false _ _ f1) (eqb-false _ _ f2) (eqb-false _ _ f3)
          ]
        ]
      ]
    ]

-- the reading of each case
length_itself : (at a : ℕ) (bytes : List ℕ) → a ≤ 128 → length_read at (a ∷ bytes) ≡ Ok (after a (at + 1) bytes)
length_itself at a bytes le = rw (le-leb a 128 le) refl

length_wrong : (at a : ℕ) (bytes : List ℕ) → 128 < a → (a ≡ 0x81 → ⊥) → (a ≡ 0x84 → ⊥) → (a ≡ 0x88 → ⊥) → length_read at (a ∷ bytes) ≡ Err (fault at reason.CommunalLength)
length_wrong at a bytes high n1 n2 n3 = rw (lt-leb a 128 high, ne_eqb a 0x81 n1, ne_eqb a 0x84 n2, ne_eqb a 0x88 n3) refl

wrong_reason : (a : ℕ) (bytes : List ℕ) → 128 < a → (a ≡ 0x81 → ⊥) → (a ≡ 0x84 → ⊥) → (a ≡ 0x88 → ⊥) → length_reason (a ∷ bytes) ≡ reason.CommunalLength
wrong_reason a bytes high n1 n2 n3 = rw (lt-leb a 128 high, ne_eqb 0x81 a (λ e. n1 (sym e)), ne_eqb 0x84 a (λ e. n2 (sym e)), ne_eqb 0x88 a (λ e. n3 (sym e))) refl

length_cases_ok : (at a : ℕ) (bytes : List ℕ) (b : After ℕ) → AreBytes bytes → length_read at (a ∷ bytes) ≡ Ok b → Mark a → Takes communal_length at (a ∷ bytes) b
length_cases_ok at a bytes b h e (Itself le) =
    let p : after a (at + 1) bytes ≡ b = (let i = length_itself at a bytes le in cc) in
    subst (Takes communal_length at (a ∷ bytes)) p (record { front = a ∷ []; parts = refl; place = refl; spells = inl (le, refl, refl) })
length_cases_ok at a bytes b h e (Two is) = marked_takes 2 a at bytes b (λ n rest l. inr (inl (is, l))) h (let i = subst (λ (m : ℕ). length_read at (m ∷ bytes) ≡ Ok b) is e in i)
length_cases_ok at a bytes b h e (Three is) = marked_takes 3 a at bytes b (λ n rest l. inr (inr (inl (is, l)))) h (let i = subst (λ (m : ℕ). length_read at (m ∷ bytes) ≡ Ok b) is e in i)
length_cases_ok at a bytes b h e (Four is) = marked_takes 4 a at bytes b (λ n rest l. inr (inr (inr (is, l)))) h (let i = subst (λ (m : ℕ). length_read at (m ∷ bytes) ≡ Ok b) is e in i)
length_cases_ok at a bytes b h e (Wrong high n1 n2 n3) = let i = length_wrong at a bytes high n1 n2 n3 in absurd cc

pub length_ok : FieldOk length_reason IsCommunalLength length_read
length_ok at [] b h e = absurd cc
length_ok at (a ∷ bytes) b h e = length_cases_ok at a bytes b (λ i. h (suc i)) e (mark a)

pub length_again : FieldAgain length_reason IsCommunalLength length_read
length_again at [] rest x h = absurd h
length_again at (a ∷ front) rest x (inl (le, none, is)) = rw (none, is) (length_itself at a rest le)
length_again at (a ∷ front) rest x (inr (inl (is, l))) = rw is (marked_again 2 at x front rest l)
length_again at (a ∷ front) rest x (inr (inr (inl (is, l)))) = rw is (marked_again 3 at x front rest l)
length_again at (a ∷ front) rest x (inr (inr (inr (is, l)))) = rw is (marked_again 4 at x front rest l)

marked_refused : (k m at : ℕ) (bytes : List ℕ) (e : Fault) → length_reason (m ∷ bytes) ≡ reason.Short → marked_read k at bytes ≡ Err e → e ≡ fault at (length_reason (m ∷ bytes))
marked_refused k m at bytes e why h = rw why (guard_err (ltb (length bytes) k) (fault at reason.Short) _ e h)

length_cases_refused : (at a : ℕ) (bytes : List ℕ) (e : Fault) → length_read at (a ∷ bytes) ≡ Err e → Mark a → e ≡ fault at (length_reason (a ∷ bytes))
length_cases_refused at a bytes e h (Itself le) = let i = length_itself at a bytes le in absurd cc
length_cases_refused at a bytes e h (Two is) = subst (λ (m : ℕ). e ≡ fault at (length_reason (m ∷ bytes))) (sym is) (marked_refused 2 0x81 at bytes e refl (subst (λ (m : ℕ). length_read at (m ∷ bytes) ≡ Err e) is h))
length_cases_refused at a bytes e h (Three is) = subst (λ (m : ℕ). e ≡ fault at (length_reason (m ∷ bytes))) (sym is) (marked_refused 3 0x84 at bytes e refl (subst (λ (m : ℕ). length_read at (m ∷ bytes) ≡ Err e) is h))
length_cases_refused at a bytes e h (Four is) = subst (λ (m : ℕ). e ≡ fault at (length_reason (m ∷ bytes))) (sym is) (marked_refused 4 0x88 at bytes e refl (subst (λ (m : ℕ). length_read at (m ∷ bytes) ≡ Err e) is h))
length_cases_refused at a bytes e h (Wrong high n1 n2 n3) =
    let i = length_wrong at a bytes high n1 n2 n3 in
    let w = wrong_reason a bytes high n1 n2 n3 in
    rw w cc

pub length_refused : FieldRefused length_reason IsCommunalLength length_read
length_refused at [] e h = cc
length_refused at (a ∷ bytes) e h = length_cases_refused at a bytes e h (mark a)

length_cases_shrinks : (at a : ℕ) (bytes : List ℕ) (b : After ℕ) → length_read at (a ∷ bytes) ≡ Ok b → Mark a → length b.rest < suc (length bytes)
length_cases_shrinks at a bytes b e (Itself le) =
    let p : after a (at + 1) bytes ≡ b = (let i = length_itself at a bytes le in cc) in
    subst (λ (x : After ℕ). length x.rest < suc (length bytes)) p (omega arith)
length_cases_shrinks at a bytes b e (Two is) = marked_shrinks 2 at bytes b (subst (λ (m : ℕ). length_read at (m ∷ bytes) ≡ Ok b) is e)
length_cases_shrinks at a bytes b e (Three is) = marked_shrinks 3 at bytes b (subst (λ (m : ℕ). length_read at (m ∷ bytes) ≡ Ok b) is e)
length_cases_shrinks at a bytes b e (Four is) = marked_shrinks 4 at bytes b (subst (λ (m : ℕ). length_read at (m ∷ bytes) ≡ Ok b) is e)
length_cases_shrinks at a bytes b e (Wrong high n1 n2 n3) = let i = length_wrong at a bytes high n1 n2 n3 in absurd cc

pub length_shrinks : Shrinks length_read
length_shrinks at [] b e = absurd cc
length_shrinks at (a ∷ bytes) b e = length_cases_shrinks at a bytes b e (mark a)

abbrev pub communal_length_reader : Reader communal_length
communal_length_reader = field_reader length_reason IsCommunalLength length_read length_ok length_again length_refused (field_falls length_reason IsCommunalLength length_read length_shrinks)
