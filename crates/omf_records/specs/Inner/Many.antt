-- The reading of items to the end of the bytes.
use Rattle.std.proofs.Common.{◌≡◌, ℕ, zero, suc, ◌+◌, ◌<◌, ◌≤◌, ◌≢◌, inl, inr, List, [], ◌∷◌, ◌++◌, length, Ok, Err, refl, sym, ap, subst, ◌∙◌, append_assoc, arith, add-zero}
use Rattle.std.proofs.lemmas.List.{length-append}
use Rattle.omf_frame.specs.Fault.{Fault}
use Rattle.omf_records.specs.Values.{At}
use Rattle.omf_frame.specs.Bytes.{AreBytes}
use Rattle.omf_records.specs.Layout.{Layout, many, SpellsEach}
use Rattle.omf_records.specs.Inner.Reads.{After, after, Takes, Refuses, Reader, Whole, Shrinks, each_read, each}
use Rattle.omf_records.specs.Inner.Steps.{and_then_ok, and_then_err, AreBytes-rest}
use Rattle.omf_records.specs.Inner.Each.{each_step, each_refused, item_at, with_first}

module _ {A : Type 0} (p : Layout A) (r : Reader p) (shrinks : Shrinks r.read) where
  pub each_ok : (n at : ℕ) (bytes : List ℕ) (xs : List (At A)) → AreBytes bytes → length bytes ≤ n → each_read r.read n at bytes ≡ Ok xs → SpellsEach p at bytes xs
  each_ok n at [] xs h le e = let q : [] ≡ xs = cc in subst (SpellsEach p at []) q refl
  each_ok zero at (b ∷ bytes) xs h le e = absurd (omega arith)
  each_ok (suc n) at (b ∷ bytes) xs h le e =
      let q = and_then_ok (r.read at (b ∷ bytes)) (λ a. with_first (item_at at a) (each_read r.read n a.within a.rest)) xs e in
      let a = q.0 in
      let t = r.ok at (b ∷ bytes) a h q.1 in
      let less = shrinks at (b ∷ bytes) a q.1 in
      let u = and_then_ok (each_read r.read n a.within a.rest) (λ ys. Ok (item_at at a ∷ ys)) xs q.2 in
      let is : item_at at a ∷ u.0 ≡ xs = let e2 = u.2 in cc in
      let rest = each_ok n a.within a.rest u.0 (AreBytes-rest (b ∷ bytes) t.front a.rest t.parts h) (omega arith) u.1 in
      subst (SpellsEach p at (b ∷ bytes)) is (t.front, a.rest, t.parts, refl, t.spells, subst (λ (k : ℕ). SpellsEach p k a.rest u.0) t.place rest)

  not_nothing : (bytes rest : List ℕ) → length rest < length bytes → bytes ≢ []
  not_nothing [] rest lt e = absurd (omega arith)
  not_nothing (b ∷ bytes) rest lt e = absurd cc

  read_again : (at : ℕ) (bytes front back : List ℕ) (x : A) → bytes ≡ front ++ back → p.Spells at front x → r.read at bytes ≡ Ok (after x (at + length front) back)
  read_again at bytes front back x parts sp = rw parts (r.again at front back x sp)

  past : (at : ℕ) (bytes front back : List ℕ) (x : A) → bytes ≡ front ++ back → p.Spells at front x → each r.read at bytes ≡ with_first (record { within = at; item = x }) (each r.read (at + length front) back)
  past at bytes front back x parts sp =
      let e = read_again at bytes front back x parts sp in
      each_step r.read shrinks at bytes (after x (at + length front) back) (not_nothing bytes back (shrinks at bytes _ e)) e

  pub each_again : (at : ℕ) (bytes : List ℕ) (xs : List (At A)) → SpellsEach p at bytes xs → each r.read at bytes ≡ Ok xs
  each_again at bytes [] h = rw h refl
  each_again at bytes (x ∷ xs) (front, back, parts, w, sp, rest) =
      let item : record { within = at; item = x.item } ≡ x = ap (λ (k : ℕ). record { within = k; item = x.item }) (sym w) in
      past at bytes front back x.item parts sp ∙ rw (each_again (at + length front) back xs rest) (ap (λ (y : At A). Ok (y ∷ xs)) item)

  pub each_err : (n at : ℕ) (bytes : List ℕ) (e : Fault) → AreBytes bytes → length bytes ≤ n → each_read r.read n at bytes ≡ Err e → (many p).Faults at bytes e
  each_err n at [] e h le is = absurd cc
  each_err zero at (b ∷ bytes) e h le is = absurd cc
  each_err (suc n) at (b ∷ bytes) e h le is =
      elim (and_then_err (r.read at (b ∷ bytes)) (λ a. with_first (item_at at a) (each_read r.read n a.within a.rest)) e is) [
        | inl q ↦ ([], b ∷ bytes, [], refl, (λ z. absurd cc), refl, subst (λ (k : ℕ). p.Faults k (b ∷ bytes) e) (sym (add-zero at)) (r.err at (b ∷ bytes) e h q))
        | inr q ↦
            let a = q.0 in
            let t = r.ok at (b ∷ bytes) a h q.1 in
            let less = shrinks at (b ∷ bytes) a q.1 in
            elim (and_then_err (each_read r.read n a.within a.rest) (λ ys. Ok (item_at at a ∷ ys)) e q.2) [
              | inr u ↦ let e2 = u.2 in absurd cc
              | inl u ↦
                  let v = each_err n a.within a.rest e (AreBytes-rest (b ∷ bytes) t.front a.rest t.parts h) (omega arith) u in
                  joined at (b ∷ bytes) a e t v
            ]
      ]
    where
      joined : (at : ℕ) (bytes : List ℕ) (a : After A) (e : Fault) → Takes p at bytes a → (many p).Faults a.within a.rest e → (many p).Faults at bytes e
      joined at bytes a e t (front, back, xs, parts, some, sp, q) =
          let place : a.within + length front ≡ at + length (t.front ++ front) = omega (arith, t.place, length-append t.front front) in (
            t.front ++ front,
            back,
            item_at at a ∷ xs,
            t.parts ∙ (ap (λ (w : List ℕ). t.front ++ w) parts ∙ sym (append_assoc t.front front back)),
            some,
            (t.front, front, refl, refl, t.spells, subst (λ (k : ℕ). SpellsEach p k front xs) t.place sp),
            subst (λ (k : ℕ). p.Faults k back e) place q,
          )

  pub each_refuses : (at : ℕ) (bytes front back : List ℕ) (xs : List (At A)) (e : Fault) → AreBytes bytes → bytes ≡ front ++ back → back ≢ [] → SpellsEach p at front xs → p.Faults (at + length front) back e → Refuses (each r.read at bytes) e
  each_refuses at bytes front back [] e h parts some sp q =
      let is : bytes ≡ back = parts ∙ ap (λ (w : List ℕ). w ++ back) sp in
      let place : at + length front ≡ at = ap (λ (w : List ℕ). at + length w) sp ∙ add-zero at in
      let here = subst (λ (k : ℕ). p.Faults k back e) place q in
      let d = r.refuses at bytes e h (subst (λ (w : List ℕ). p.Faults at w e) (sym is) here) in
      record { given = d.given; is = each_refused r.read shrinks at bytes d.given (λ z. some (sym is ∙ z)) d.is; first = d.first }
  each_refuses at bytes front back (x ∷ xs) e h parts some (first, others, cut, w, sp, rest) q =
      let whole : bytes ≡ first ++ (others ++ back) = parts ∙ (ap (λ (t : List ℕ). t ++ back) cut ∙ append_assoc first others back) in
      let place : at + length front ≡ at + length first + length others = ap (λ (t : List ℕ). at + length t) cut ∙ omega (arith, length-append first others) in
      let d = each_refuses (at + length first) (others ++ back) others back xs e (AreBytes-rest bytes first (others ++ back) whole h) refl some rest (subst (λ (k : ℕ). p.Faults k back e) place q) in
      record { given = d.given; is = past at bytes first (others ++ back) x.item whole sp ∙ rw d.is refl; first = d.first }

  abbrev pub each_whole : Whole (many p)
  each_whole = record {
    read = each r.read;
    ok = λ at bytes xs h e. each_ok (length bytes) at bytes xs h (omega arith) e;
    again = each_again;
    err = λ at bytes e h is. each_err (length bytes) at bytes e h (omega arith) is;
    refuses = λ at bytes f h q. each_refuses at bytes q.0 q.1 q.2 f h q.3 q.4 q.5 q.6;
    behind = λ at bytes e q. omega (arith, r.behind (at + length q.0) q.1 e q.6);
  }
