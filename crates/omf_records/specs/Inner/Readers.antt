-- The readings of the layout combinators.
use Rattle.std.proofs.Common.{◌≡◌, ℕ, zero, suc, ◌+◌, ◌<◌, ◌≤◌, inl, inr, Bool, true, false, cond, List, [], ◌∷◌, ◌++◌, length, Some, None, Result, Ok, Err, refl, sym, ap, subst, ◌∙◌, append_assoc, arith, add-zero}
use Rattle.std.specs.Prelude.{⊤}
use Rattle.std.proofs.lemmas.List.{length-append}
use Rattle.omf_frame.specs.Bytes.{AreBytes}
use Rattle.omf_frame.specs.Fault.{Fault, reason_number}
use Rattle.omf_frame.specs.declared.fault.Reason.{Reason}
use Rattle.omf_frame.specs.declared.fault.Reason.TheVariants as reason
use Rattle.omf_records.specs.Values.{At}
use Rattle.omf_records.specs.Layout.{Layout, fault, ◌>>=◌, give, ends, rest, times, checked, IsIn, index, number_of, with_place, called, choose, when, Behind}
use Rattle.omf_records.specs.Inner.Reads.{After, after, Reading, and_then, Takes, Refuses, Reader, Whole, Falls, Shrinks}
use Rattle.omf_records.specs.Inner.Steps.{and_then_ok, and_then_err, AreBytes-rest, before_here, refused_by}
use Rattle.omf_records.specs.Inner.FieldReaders.{index_reader, number_reader}

-- ---- one after the other

abbrev pub then_read : {A B : Type 0} → Reading A → (A → Reading B) → Reading B
then_read r s at bytes = and_then (r at bytes) (λ a. s a.value a.within a.rest)

module _ {A B : Type 0} (p : Layout A) (f : A → Layout B) (r : Reader p) where
  pub then_ok : (s : (x : A) → Reader (f x)) (at : ℕ) (bytes : List ℕ) (b : After B) → AreBytes bytes → then_read r.read (λ x. (s x).read) at bytes ≡ Ok b → Takes (p >>= f) at bytes b
  then_ok s at bytes b h e =
      let q = and_then_ok (r.read at bytes) (λ a. (s a.value).read a.within a.rest) b e in
      let a = q.0 in
      let t = r.ok at bytes a h q.1 in
      let u = (s a.value).ok a.within a.rest b (AreBytes-rest bytes t.front a.rest t.parts h) q.2 in
      record {
        front = t.front ++ u.front;
        parts = t.parts ∙ ap (λ (w : List ℕ). t.front ++ w) u.parts ∙ sym (append_assoc t.front u.front b.rest);
        place = omega (arith, t.place, u.place, length-append t.front u.front);
        spells = (t.front, u.front, a.value, refl, t.spells, subst (λ (n : ℕ). (f a.value).Spells n u.front b.value) t.place u.spells);
      }

  pub then_again : (s : (x : A) → Reader (f x)) (at : ℕ) (front rest : List ℕ) (y : B) → (p >>= f).Spells at front y → then_read r.read (λ x. (s x).read) at (front ++ rest) ≡ Ok (after y (at + length front) rest)
  then_again s at front rest y (a, b, x, parts, sp, sq) =
      let place : at + length a + length b ≡ at + length (a ++ b) = omega (arith, length-append a b) in
      rw (parts, append_assoc, r.again at a (b ++ rest) x sp, (s x).again (at + length a) b rest y sq, place) refl

  pub then_err : (s : (x : A) → Reader (f x)) (at : ℕ) (bytes : List ℕ) (e : Fault) → AreBytes bytes → then_read r.read (λ x. (s x).read) at bytes ≡ Err e → (p >>= f).Faults at bytes e
  then_err s at bytes e h is =
      elim (and_then_err (r.read at bytes) (λ a. (s a.value).read a.within a.rest) e is) [
        | inl q ↦ inl (r.err at bytes e h q)
        | inr q ↦
            let a = q.0 in
            let t = r.ok at bytes a h q.1 in
            inr (t.front, a.rest, a.value, t.parts, t.spells, subst (λ (n : ℕ). (f a.value).Faults n a.rest e) t.place ((s a.value).err a.within a.rest e (AreBytes-rest bytes t.front a.rest t.parts h) q.2))
      ]

  pub then_past : (s : (x : A) → Reader (f x)) (at : ℕ) (bytes a b : List ℕ) (x : A) → bytes ≡ a ++ b → p.Spells at a x → then_read r.read (λ x. (s x).read) at bytes ≡ (s x).read (at + length a) b
  then_past s at bytes a b x parts sp = rw (parts, r.again at a b x sp) refl

  pub then_refuses : (s : (x : A) → Reader (f x)) (at : ℕ) (bytes : List ℕ) (e : Fault) → AreBytes bytes → (p >>= f).Faults at bytes e → Refuses (then_read r.read (λ x. (s x).read) at bytes) e
  then_refuses s at bytes e h (inl q) =
      let d = r.refuses at bytes e h q in
      record { given = d.given; is = rw d.is refl; first = d.first }
  then_refuses s at bytes e h (inr (a, b, x, parts, sp, q)) =
      let d = (s x).refuses (at + length a) b e (AreBytes-rest bytes a b parts h) q in
      record { given = d.given; is = then_past s at bytes a b x parts sp ∙ d.is; first = d.first }

  pub then_falls : (s : (x : A) → Reader (f x)) → Falls (then_read r.read (λ x. (s x).read))
  then_falls s at bytes b e =
      let q = and_then_ok (r.read at bytes) (λ a. (s a.value).read a.within a.rest) b e in
      let h = r.falls at bytes q.0 q.1 in
      let k = (s q.0.value).falls q.0.within q.0.rest b q.2 in
      omega arith

  pub then_shrinks : (s : (x : A) → Reader (f x)) → Shrinks r.read → Shrinks (then_read r.read (λ x. (s x).read))
  then_shrinks s first at bytes b e =
      let q = and_then_ok (r.read at bytes) (λ a. (s a.value).read a.within a.rest) b e in
      let h = first at bytes q.0 q.1 in
      let k = (s q.0.value).falls q.0.within q.0.rest b q.2 in
      omega arith

module _ {A B : Type 0} (p : Layout A) (f : A → Layout B) (behind : Behind p) (behinds : (x : A) → Behind (f x)) where
  pub then_behind : Behind (p >>= f)
  then_behind at bytes e (inl q) = behind at bytes e q
  then_behind at bytes e (inr (front, back, x, parts, sp, q)) = omega (arith, behinds x (at + length front) back e q)

-- The fields after a field are further right, so a fault of the field comes first.
pub hidden_right : {A B : Type 0} (p : Layout A) (f : A → Layout B) (r : Reader p) → Shrinks r.read → ((x : A) → Behind (f x))
    → (at : ℕ) (front back : List ℕ) (x : A) (e : Fault) → p.Spells at front x → (f x).Faults (at + length front) back e → at < e.within
hidden_right p f r shrinks behinds at front back x e sp q =
    let some = shrinks at (front ++ []) (after x (at + length front) []) (r.again at front [] x sp) in
    omega (arith, some, length-append front (length_none), behinds x (at + length front) back e q)
  where
    length_none : List ℕ
    length_none = []

infixl 10 ◌>=>◌
abbrev pub ◌>=>◌ : {A B : Type 0} {p : Layout A} {f : A → Layout B} → Reader p → ((x : A) → Reader (f x)) → Reader (p >>= f)
◌>=>◌ {p = p} {f = f} r s = record {
  read = then_read r.read (λ x. (s x).read);
  ok = then_ok p f r s;
  again = then_again p f r s;
  err = then_err p f r s;
  refuses = then_refuses p f r s;
  behind = then_behind p f r.behind (λ x. (s x).behind);
  falls = then_falls p f r s;
}

-- ---- no bytes

abbrev pub done : {A : Type 0} → A → Result A Fault
done x = Ok x

module _ {A : Type 0} (x : A) where
  pub give_ok : (at : ℕ) (bytes : List ℕ) (a : After A) → AreBytes bytes → done (after x at bytes) ≡ Ok a → Takes (give x) at bytes a
  give_ok at bytes a h e = let q : after x at bytes ≡ a = cc in subst (Takes (give x) at bytes) q (record { front = []; parts = refl; place = omega arith; spells = (refl, refl) })

  pub give_again : (at : ℕ) (front rest : List ℕ) (y : A) → (give x).Spells at front y → done (after x at (front ++ rest)) ≡ Ok (after y (at + length front) rest)
  give_again at front rest y (empty, is) = rw (empty, is, add-zero) refl

  pub give_err : (at : ℕ) (bytes : List ℕ) (e : Fault) → AreBytes bytes → done (after x at bytes) ≡ Err e → ⊥
  give_err at bytes e h is = absurd cc

  pub give_refuses : (at : ℕ) (bytes : List ℕ) (f : Fault) → AreBytes bytes → (give x).Faults at bytes f → Refuses (done (after x at bytes)) f
  give_refuses at bytes f h q = absurd q

  pub give_falls : (at : ℕ) (bytes : List ℕ) (a : After A) → done (after x at bytes) ≡ Ok a → length a.rest ≤ length bytes
  give_falls at bytes a e = let q : after x at bytes ≡ a = cc in subst (λ (b : After A). length b.rest ≤ length bytes) q (omega arith)

  abbrev pub give_reader : Reader (give x)
  give_reader = record { read = λ at bytes. Ok (after x at bytes); ok = give_ok; again = give_again; err = give_err; refuses = give_refuses; behind = λ at bytes e q. absurd q; falls = give_falls }

-- ---- a field with its offset

abbrev pub at_place : {A : Type 0} → ℕ → After A → After (At A)
at_place at a = after (record { within = at; item = a.value }) a.within a.rest

module _ {A : Type 0} (p : Layout A) (r : Reader p) where
  abbrev pub placed_read : Reading (At A)
  placed_read at bytes = and_then (r.read at bytes) (λ a. Ok (at_place at a))

  pub placed_ok : (at : ℕ) (bytes : List ℕ) (b : After (At A)) → AreBytes bytes → placed_read at bytes ≡ Ok b → Takes (with_place p) at bytes b
  placed_ok at bytes b h e =
      let q = and_then_ok (r.read at bytes) (λ a. Ok (at_place at a)) b e in
      let t = r.ok at bytes q.0 h q.1 in
      let is : at_place at q.0 ≡ b = let e2 = q.2 in cc in
      subst (Takes (with_place p) at bytes) is (record { front = t.front; parts = t.parts; place = t.place; spells = (refl, t.spells) })

  pub placed_again : (at : ℕ) (front rest : List ℕ) (x : At A) → (with_place p).Spells at front x → placed_read at (front ++ rest) ≡ Ok (after x (at + length front) rest)
  placed_again at front rest x (w, sp) =
      let item : record { within = at; item = x.item } ≡ x = ap (λ (k : ℕ). record { within = k; item = x.item }) (sym w) in
      rw (r.again at front rest x.item sp) (ap (λ (y : At A). Ok (after y (at + length front) rest)) item)

  pub placed_err : (at : ℕ) (bytes : List ℕ) (e : Fault) → AreBytes bytes → placed_read at bytes ≡ Err e → p.Faults at bytes e
  placed_err at bytes e h is =
      elim (and_then_err (r.read at bytes) (λ a. Ok (at_place at a)) e is) [
        | inl q ↦ r.err at bytes e h q
        | inr q ↦ let e2 = q.2 in absurd cc
      ]

  pub placed_refuses : (at : ℕ) (bytes : List ℕ) (f : Fault) → AreBytes bytes → p.Faults at bytes f → Refuses (placed_read at bytes) f
  placed_refuses at bytes f h q = let d = r.refuses at bytes f h q in record { given = d.given; is = rw d.is refl; first = d.first }

  pub placed_falls : Falls placed_read
  placed_falls at bytes b e =
      let q = and_then_ok (r.read at bytes) (λ a. Ok (at_place at a)) b e in
      let h = r.falls at bytes q.0 q.1 in
      let is : at_place at q.0 ≡ b = let e2 = q.2 in cc in
      subst (λ (x : After (At A)). length x.rest ≤ length bytes) is h

  abbrev pub placed_reader : Reader (with_place p)
  placed_reader = record { read = placed_read; ok = placed_ok; again = placed_again; err = placed_err; refuses = placed_refuses; behind = r.behind; falls = placed_falls }

  pub placed_shrinks : Shrinks r.read → Shrinks placed_read
  placed_shrinks shrinks at bytes b e =
      let q = and_then_ok (r.read at bytes) (λ a. Ok (at_place at a)) b e in
      let h = shrinks at bytes q.0 q.1 in
      let is : at_place at q.0 ≡ b = let e2 = q.2 in cc in
      subst (λ (x : After (At A)). length x.rest < length bytes) is h

-- an index and its offset
abbrev pub index_at : Reader (with_place index)
index_at = placed_reader index index_reader

-- a number of the record's width and its offset
abbrev pub number_at : (wide : Bool) → Reader (with_place (number_of wide))
number_at wide = placed_reader (number_of wide) (number_reader wide)

-- ---- a field with refused values

abbrev pub refuse_first : {A : Type 0} → List Reason → ℕ → A → Result A Fault
refuse_first [] at a = Ok a
refuse_first (r ∷ rs) at a = Err (fault at r)

pub refuse_first_ok : {A : Type 0} (rs : List Reason) (at : ℕ) (a b : A) → refuse_first rs at a ≡ Ok b → (rs ≡ []) × (a ≡ b)
refuse_first_ok [] at a b e = (refl, cc)
refuse_first_ok (r ∷ rs) at a b e = absurd cc

pub refuse_first_err : {A : Type 0} (rs : List Reason) (at : ℕ) (a : A) (e : Fault) → refuse_first rs at a ≡ Err e → (e.within ≡ at) × IsIn e.reason rs
refuse_first_err [] at a e h = absurd cc
refuse_first_err (r ∷ rs) at a e h = let q : fault at r ≡ e = cc in (sym (ap (λ (x : Fault). x.within) q), inl (sym (ap (λ (x : Fault). x.reason) q)))

-- the first reason has the least number
abbrev pub InOrder : List Reason → Type 0
InOrder [] = ⊤
InOrder (r ∷ rs) = (s : Reason) → IsIn s rs → reason_number r ≤ reason_number s

pub refuse_first_least : {A : Type 0} (rs : List Reason) (at : ℕ) (a : A) (e : Fault) → InOrder rs → e.within ≡ at → IsIn e.reason rs → Refuses (refuse_first rs at a) e
refuse_first_least [] at a e o w i = absurd i
refuse_first_least (r ∷ rs) at a e o w (inl i) = record { given = fault at r; is = refl; first = before_here (fault at r) e (sym w) (rw i (omega arith)) }
refuse_first_least (r ∷ rs) at a e o w (inr i) = record { given = fault at r; is = refl; first = before_here (fault at r) e (sym w) (o e.reason i) }

module _ {A : Type 0} (p : Layout A) (refused : A → List Reason) (r : Reader p) (ordered : (x : A) → InOrder (refused x)) where
  abbrev pub checked_read : Reading A
  checked_read at bytes = and_then (r.read at bytes) (λ a. refuse_first (refused a.value) at a)

  pub checked_ok : (at : ℕ) (bytes : List ℕ) (b : After A) → AreBytes bytes → checked_read at bytes ≡ Ok b → Takes (checked p refused) at bytes b
  checked_ok at bytes b h e =
      let q = and_then_ok (r.read at bytes) (λ a. refuse_first (refused a.value) at a) b e in
      let a = q.0 in
      let t = r.ok at bytes a h q.1 in
      let g = refuse_first_ok (refused a.value) at a b q.2 in
      subst (Takes (checked p refused) at bytes) g.1 (record { front = t.front; parts = t.parts; place = t.place; spells = (t.spells, g.0) })

  pub checked_again : (at : ℕ) (front rest : List ℕ) (x : A) → (checked p refused).Spells at front x → checked_read at (front ++ rest) ≡ Ok (after x (at + length front) rest)
  checked_again at front rest x (sp, none) = rw (r.again at front rest x sp, none) refl

  pub checked_err : (at : ℕ) (bytes : List ℕ) (e : Fault) → AreBytes bytes → checked_read at bytes ≡ Err e → (checked p refused).Faults at bytes e
  checked_err at bytes e h is =
      elim (and_then_err (r.read at bytes) (λ a. refuse_first (refused a.value) at a) e is) [
        | inl q ↦ inl (r.err at bytes e h q)
        | inr q ↦
            let a = q.0 in
            let t = r.ok at bytes a h q.1 in
            let g = refuse_first_err (refused a.value) at a e q.2 in
            inr (t.front, a.rest, a.value, t.parts, t.spells, g.0, g.1)
      ]

  pub checked_past : (at : ℕ) (bytes front back : List ℕ) (x : A) → bytes ≡ front ++ back → p.Spells at front x → checked_read at bytes ≡ refuse_first (refused x) at (after x (at + length front) back)
  checked_past at bytes front back x parts sp = rw (parts, r.again at front back x sp) refl

  pub checked_refuses : (at : ℕ) (bytes : List ℕ) (e : Fault) → AreBytes bytes → (checked p refused).Faults at bytes e → Refuses (checked_read at bytes) e
  checked_refuses at bytes e h (inl q) =
      let d = r.refuses at bytes e h q in
      record { given = d.given; is = rw d.is refl; first = d.first }
  checked_refuses at bytes e h (inr (front, back, x, parts, sp, w, i)) =
      let d = refuse_first_least (refused x) at (after x (at + length front) back) e (ordered x) w i in
      record { given = d.given; is = checked_past at bytes front back x parts sp ∙ d.is; first = d.first }

  pub checked_behind : Behind (checked p refused)
  checked_behind at bytes e (inl q) = r.behind at bytes e q
  checked_behind at bytes e (inr (front, back, x, parts, sp, w, i)) = omega (arith, w)

  pub checked_falls : Falls checked_read
  checked_falls at bytes b e =
      let q = and_then_ok (r.read at bytes) (λ a. refuse_first (refused a.value) at a) b e in
      let h = r.falls at bytes q.0 q.1 in
      let g = refuse_first_ok (refused q.0.value) at q.0 b q.2 in
      subst (λ (x : After A). length x.rest ≤ length bytes) g.1 h

  pub checked_shrinks : Shrinks r.read → Shrinks checked_read
  checked_shrinks shrinks at bytes b e =
      let q = and_then_ok (r.read at bytes) (λ a. refuse_first (refused a.value) at a) b e in
      let h = shrinks at bytes q.0 q.1 in
      let g = refuse_first_ok (refused q.0.value) at q.0 b q.2 in
      subst (λ (x : After A). length x.rest < length bytes) g.1 h

  abbrev pub checked_reader : Reader (checked p refused)
  checked_reader = record { read = checked_read; ok = checked_ok; again = checked_again; err = checked_err; refuses = checked_refuses; behind = checked_behind; falls = checked_falls }

-- ---- one of two

module _ {A : Type 0} (p q : Layout A) (r : Reader p) (s : Reader q) where
  abbrev pub choose_read : Bool → Reading A
  choose_read b at bytes = cond b (r.read at bytes) (s.read at bytes)

  pub choose_ok : (b : Bool) (at : ℕ) (bytes : List ℕ) (a : After A) → AreBytes bytes → choose_read b at bytes ≡ Ok a → Takes (choose b p q) at bytes a
  choose_ok true at bytes a h e = let t = r.ok at bytes a h e in record { front = t.front; parts = t.parts; place = t.place; spells = t.spells }
  choose_ok false at bytes a h e = let t = s.ok at bytes a h e in record { front = t.front; parts = t.parts; place = t.place; spells = t.spells }

  pub choose_again : (b : Bool) (at : ℕ) (front rest : List ℕ) (x : A) → (choose b p q).Spells at front x → choose_read b at (front ++ rest) ≡ Ok (after x (at + length front) rest)
  choose_again true = r.again
  choose_again false = s.again

  pub choose_err : (b : Bool) (at : ℕ) (bytes : List ℕ) (e : Fault) → AreBytes bytes → choose_read b at bytes ≡ Err e → (choose b p q).Faults at bytes e
  choose_err true = r.err
  choose_err false = s.err

  pub choose_refuses : (b : Bool) (at : ℕ) (bytes : List ℕ) (f : Fault) → AreBytes bytes → (choose b p q).Faults at bytes f → Refuses (choose_read b at bytes) f
  choose_refuses true = r.refuses
  choose_refuses false = s.refuses

  pub choose_behind : (b : Bool) → Behind (choose b p q)
  choose_behind true = r.behind
  choose_behind false = s.behind

  pub choose_falls : (b : Bool) → Falls (choose_read b)
  choose_falls true = r.falls
  choose_falls false = s.falls

  pub choose_shrinks : Shrinks r.read → Shrinks s.read → (b : Bool) → Shrinks (choose_read b)
  choose_shrinks h k true = h
  choose_shrinks h k false = k

  abbrev pub choose_reader : (b : Bool) → Reader (choose b p q)
  choose_reader b = record { read = choose_read b; ok = choose_ok b; again = choose_again b; err = choose_err b; refuses = choose_refuses b; behind = choose_behind b; falls = choose_falls b }

-- ---- a function of the value

abbrev pub renamed : {A B : Type 0} → (A → B) → After A → After B
renamed f a = after (f a.value) a.within a.rest

module _ {A B : Type 0} (p : Layout A) (f : A → B) (r : Reader p) where
  abbrev pub renamed_read : Reading B
  renamed_read at bytes = and_then (r.read at bytes) (λ a. Ok (renamed f a))

  pub renamed_ok : (at : ℕ) (bytes : List ℕ) (b : After B) → AreBytes bytes → renamed_read at bytes ≡ Ok b → Takes (called p f) at bytes b
  renamed_ok at bytes b h e =
      let q = and_then_ok (r.read at bytes) (λ a. Ok (renamed f a)) b e in
      let t = r.ok at bytes q.0 h q.1 in
      let is : renamed f q.0 ≡ b = let e2 = q.2 in cc in
      subst (Takes (called p f) at bytes) is (record { front = t.front; parts = t.parts; place = t.place; spells = (q.0.value, t.spells, refl) })

  pub renamed_again : (at : ℕ) (front rest : List ℕ) (y : B) → (called p f).Spells at front y → renamed_read at (front ++ rest) ≡ Ok (after y (at + length front) rest)
  renamed_again at front rest y (x, sp, is) = rw (r.again at front rest x sp, is) refl

  pub renamed_err : (at : ℕ) (bytes : List ℕ) (e : Fault) → AreBytes bytes → renamed_read at bytes ≡ Err e → p.Faults at bytes e
  renamed_err at bytes e h is = elim (and_then_err (r.read at bytes) (λ a. Ok (renamed f a)) e is) [ inl q ↦ r.err at bytes e h q | inr q ↦ let e2 = q.2 in absurd cc ]

  pub renamed_refuses : (at : ℕ) (bytes : List ℕ) (e : Fault) → AreBytes bytes → p.Faults at bytes e → Refuses (renamed_read at bytes) e
  renamed_refuses at bytes e h q = let d = r.refuses at bytes e h q in record { given = d.given; is = rw d.is refl; first = d.first }

  pub renamed_falls : Falls renamed_read
  renamed_falls at bytes b e =
      let q = and_then_ok (r.read at bytes) (λ a. Ok (renamed f a)) b e in
      let h = r.falls at bytes q.0 q.1 in
      let is : renamed f q.0 ≡ b = let e2 = q.2 in cc in
      subst (λ (x : After B). length x.rest ≤ length bytes) is h

  pub renamed_shrinks : Shrinks r.read → Shrinks renamed_read
  renamed_shrinks shrinks at bytes b e =
      let q = and_then_ok (r.read at bytes) (λ a. Ok (renamed f a)) b e in
      let h = shrinks at bytes q.0 q.1 in
      let is : renamed f q.0 ≡ b = let e2 = q.2 in cc in
      subst (λ (x : After B). length x.rest < length bytes) is h

  abbrev pub called_reader : Reader (called p f)
  called_reader = record { read = renamed_read; ok = renamed_ok; again = renamed_again; err = renamed_err; refuses = renamed_refuses; behind = r.behind; falls = renamed_falls }

abbrev pub when_reader : {A : Type 0} (b : Bool) (p : Layout A) → Reader p → Reader (when b p)
when_reader b p r = choose_reader (called p (λ x. Some x)) (give None) (called_reader p (λ x. Some x) r) (give_reader None) b

-- ---- n of them

abbrev pub times_reader : {A : Type 0} (n : ℕ) (p : Layout A) → Reader p → Reader (times n p)
times_reader zero p r = give_reader []
times_reader (suc n) p r = r >=> λ x. times_reader n p r >=> λ xs. give_reader (x ∷ xs)

-- ---- all remaining bytes

abbrev pub taken_whole : List ℕ → Result (List ℕ) Fault
taken_whole bytes = Ok bytes

pub rest_ok : (at : ℕ) (bytes x : List ℕ) → AreBytes bytes → taken_whole bytes ≡ Ok x → rest.Spells at bytes x
rest_ok at bytes x h e = cc

pub rest_again : (at : ℕ) (bytes x : List ℕ) → rest.Spells at bytes x → taken_whole bytes ≡ Ok x
rest_again at bytes x h = rw h refl

pub rest_err : (at : ℕ) (bytes : List ℕ) (e : Fault) → AreBytes bytes → taken_whole bytes ≡ Err e → rest.Faults at bytes e
rest_err at bytes e h is = absurd cc

pub rest_refuses : (at : ℕ) (bytes : List ℕ) (f : Fault) → AreBytes bytes → rest.Faults at bytes f → Refuses (taken_whole bytes) f
rest_refuses at bytes f h q = absurd q

abbrev pub rest_whole : Whole rest
rest_whole = record { read = λ at bytes. taken_whole bytes; ok = rest_ok; again = rest_again; err = rest_err; refuses = rest_refuses; behind = λ at bytes e q. absurd q }

-- ---- no bytes, and none may remain

module _ {A : Type 0} (x : A) where
  abbrev pub ends_read : ℕ → List ℕ → Result A Fault
  ends_read at [] = Ok x
  ends_read at (b ∷ bytes) = Err (fault at reason.Long)

  pub ends_ok : (at : ℕ) (bytes : List ℕ) (y : A) → AreBytes bytes → ends_read at bytes ≡ Ok y → (ends x).Spells at bytes y
  ends_ok at [] y h e = (refl, cc)
  ends_ok at (b ∷ bytes) y h e = absurd cc

  pub ends_again : (at : ℕ) (bytes : List ℕ) (y : A) → (ends x).Spells at bytes y → ends_read at bytes ≡ Ok y
  ends_again at bytes y (empty, is) = rw (empty, is) refl

  pub ends_err : (at : ℕ) (bytes : List ℕ) (e : Fault) → AreBytes bytes → ends_read at bytes ≡ Err e → (ends x).Faults at bytes e
  ends_err at [] e h is = absurd cc
  ends_err at (b ∷ bytes) e h is = ((λ z. absurd cc), cc)

  pub ends_refuses : (at : ℕ) (bytes : List ℕ) (f : Fault) → AreBytes bytes → (ends x).Faults at bytes f → Refuses (ends_read at bytes) f
  ends_refuses at [] f h q = absurd (q.0 refl)
  ends_refuses at (b ∷ bytes) f h q = refused_by _ (fault at reason.Long) f refl (sym q.1)

  pub ends_behind : Behind (ends x)
  ends_behind at bytes e q = let w : e.within ≡ at = ap (λ (d : Fault). d.within) q.1 in omega (arith, w)

  abbrev pub ends_whole : Whole (ends x)
  ends_whole = record { read = ends_read; ok = ends_ok; again = ends_again; err = ends_err; refuses = ends_refuses; behind = ends_behind }

module _ {A B : Type 0} (p : Layout A) (f : A → Layout B) (r : Reader p) (s : (x : A) → Whole (f x)) where
  abbrev pub last_read : ℕ → List ℕ → Result B Fault
  last_read at bytes = and_then (r.read at bytes) (λ a. (s a.value).read a.within a.rest)

  pub last_ok : (at : ℕ) (bytes : List ℕ) (y : B) → AreBytes bytes → last_read at bytes ≡ Ok y → (p >>= f).Spells at bytes y
  last_ok at bytes y h e =
      let q = and_then_ok (r.read at bytes) (λ a. (s a.value).read a.within a.rest) y e in
      let a = q.0 in
      let t = r.ok at bytes a h q.1 in
      (t.front, a.rest, a.value, t.parts, t.spells, subst (λ (n : ℕ). (f a.value).Spells n a.rest y) t.place ((s a.value).ok a.within a.rest y (AreBytes-rest bytes t.front a.rest t.parts h) q.2))

  pub last_past : (at : ℕ) (bytes a b : List ℕ) (x : A) → bytes ≡ a ++ b → p.Spells at a x → last_read at bytes ≡ (s x).read (at + length a) b
  last_past at bytes a b x parts sp = rw (parts, r.again at a b x sp) refl

  pub last_again : (at : ℕ) (bytes : List ℕ) (y : B) → (p >>= f).Spells at bytes y → last_read at bytes ≡ Ok y
  last_again at bytes y (a, b, x, parts, sp, sq) = last_past at bytes a b x parts sp ∙ (s x).again (at + length a) b y sq

  pub last_err : (at : ℕ) (bytes : List ℕ) (e : Fault) → AreBytes bytes → last_read at bytes ≡ Err e → (p >>= f).Faults at bytes e
  last_err at bytes e h is =
      elim (and_then_err (r.read at bytes) (λ a. (s a.value).read a.within a.rest) e is) [
        | inl q ↦ inl (r.err at bytes e h q)
        | inr q ↦
            let a = q.0 in
            let t = r.ok at bytes a h q.1 in
            inr (t.front, a.rest, a.value, t.parts, t.spells, subst (λ (n : ℕ). (f a.value).Faults n a.rest e) t.place ((s a.value).err a.within a.rest e (AreBytes-rest bytes t.front a.rest t.parts h) q.2))
      ]

  pub last_refuses : (at : ℕ) (bytes : List ℕ) (e : Fault) → AreBytes bytes → (p >>= f).Faults at bytes e → Refuses (last_read at bytes) e
  last_refuses at bytes e h (inl q) =
      let d = r.refuses at bytes e h q in
      record { given = d.given; is = rw d.is refl; first = d.first }
  last_refuses at bytes e h (inr (a, b, x, parts, sp, q)) =
      let d = (s x).refuses (at + length a) b e (AreBytes-rest bytes a b parts h) q in
      record { given = d.given; is = last_past at bytes a b x parts sp ∙ d.is; first = d.first }

  abbrev pub last_whole : Whole (p >>= f)
  last_whole = record { read = last_read; ok = last_ok; again = last_again; err = last_err; refuses = last_refuses; behind = then_behind p f r.behind (λ x. (s x).behind) }

infixl 10 ◌>=>|◌
abbrev pub ◌>=>|◌ : {A B : Type 0} {p : Layout A} {f : A → Layout B} → Reader p → ((x : A) → Whole (f x)) → Whole (p >>= f)
◌>=>|◌ {p = p} {f = f} r s = last_whole p f r s

module _ {A B : Type 0} (p : Layout A) (f : A → B) (r : Whole p) where
  abbrev pub called_read : ℕ → List ℕ → Result B Fault
  called_read at bytes = and_then (r.read at bytes) (λ x. Ok (f x))

  pub called_ok : (at : ℕ) (bytes : List ℕ) (y : B) → AreBytes bytes → called_read at bytes ≡ Ok y → (called p f).Spells at bytes y
  called_ok at bytes y h e =
      let q = and_then_ok (r.read at bytes) (λ x. Ok (f x)) y e in
      let e2 = q.2 in
      (q.0, r.ok at bytes q.0 h q.1, cc)

  pub called_again : (at : ℕ) (bytes : List ℕ) (y : B) → (called p f).Spells at bytes y → called_read at bytes ≡ Ok y
  called_again at bytes y (x, sp, is) = rw (r.again at bytes x sp, is) refl

  pub called_err : (at : ℕ) (bytes : List ℕ) (e : Fault) → AreBytes bytes → called_read at bytes ≡ Err e → p.Faults at bytes e
  called_err at bytes e h is = elim (and_then_err (r.read at bytes) (λ x. Ok (f x)) e is) [ inl q ↦ r.err at bytes e h q | inr q ↦ let e2 = q.2 in absurd cc ]

  pub called_refuses : (at : ℕ) (bytes : List ℕ) (e : Fault) → AreBytes bytes → p.Faults at bytes e → Refuses (called_read at bytes) e
  called_refuses at bytes e h q = let d = r.refuses at bytes e h q in record { given = d.given; is = rw d.is refl; first = d.first }

  abbrev pub called_whole : Whole (called p f)
  called_whole = record { read = called_read; ok = called_ok; again = called_again; err = called_err; refuses = called_refuses; behind = r.behind }

module _ {A : Type 0} (p q : Layout A) (r : Whole p) (s : Whole q) where
  abbrev pub choose_whole_read : Bool → ℕ → List ℕ → Result A Fault
  choose_whole_read b at bytes = cond b (r.read at bytes) (s.read at bytes)

  pub choose_whole_ok : (b : Bool) (at : ℕ) (bytes : List ℕ) (x : A) → AreBytes bytes → choose_whole_read b at bytes ≡ Ok x → (choose b p q).Spells at bytes x
  choose_whole_ok true = r.ok
  choose_whole_ok false = s.ok

  pub choose_whole_again : (b : Bool) (at : ℕ) (bytes : List ℕ) (x : A) → (choose b p q).Spells at bytes x → choose_whole_read b at bytes ≡ Ok x
  choose_whole_again true = r.again
  choose_whole_again false = s.again

  pub choose_whole_err : (b : Bool) (at : ℕ) (bytes : List ℕ) (e : Fault) → AreBytes bytes → choose_whole_read b at bytes ≡ Err e → (choose b p q).Faults at bytes e
  choose_whole_err true = r.err
  choose_whole_err false = s.err

  pub choose_whole_refuses : (b : Bool) (at : ℕ) (bytes : List ℕ) (f : Fault) → AreBytes bytes → (choose b p q).Faults at bytes f → Refuses (choose_whole_read b at bytes) f
  choose_whole_refuses true = r.refuses
  choose_whole_refuses false = s.refuses

  pub choose_whole_behind : (b : Bool) → Behind (choose b p q)
  choose_whole_behind true = r.behind
  choose_whole_behind false = s.behind

  abbrev pub choose_whole : (b : Bool) → Whole (choose b p q)
  choose_whole b = record { read = choose_whole_read b; ok = choose_whole_ok b; again = choose_whole_again b; err = choose_whole_err b; refuses = choose_whole_refuses b; behind = choose_whole_behind b }

-- one of two layouts, by a literal test
