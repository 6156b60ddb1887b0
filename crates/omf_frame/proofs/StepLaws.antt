-- A record's bytes have no fault of framing exactly where they are a record of a known type, a header first.
use Rattle.std.proofs.Common.{◌≡◌, ℕ, zero, suc, ◌+◌, ◌*◌, ◌-◌, ◌/◌, ◌%◌, ◌<◌, ◌≤◌, List, [], ◌∷◌, ◌++◌, refl, sym, ◌∙◌, ap, subst, length, arith, Bool, true, false, inl, inr, take, length-drop, Some, None}
use Rattle.std.specs.Prelude.{IsTrue, not, ◌||◌, ◌==◌, ◌⊎◌, slice_index, sum}
use Rattle.std.proofs.lemmas.Bool.{leb-true, le-leb, eqb-true, eq-eqb}
use Rattle.std.proofs.lemmas.List.{length-take, take-append-drop}
use Rattle.omf_frame.specs.Inner.Names.{types_of, is_unsupported, is_nonempty}
use Rattle.omf_frame.specs.declared.fault.Reason.{Reason}
use Rattle.omf_frame.specs.declared.fault.Reason.TheVariants as reason
use Rattle.omf_frame.specs.Bytes.{AreBytes}
use Rattle.omf_frame.specs.Types.{is_treated, types_treated}
use Rattle.omf_frame.specs.declared.kinds.Treatment.TheVariants.{Read, Carried}
use Rattle.omf_frame.specs.Fault.{Fault, least, first_step, broken, rule}
use Rattle.omf_frame.specs.Framing.{Raw, raw_bytes, IsRecord, is_taken, is_header, is_whole, stated_length, front_record, frame_steps, frame_fault, present, HasFront}
use Rattle.omf_frame.proofs.FaultLaws.{untrue}
use Rattle.omf_frame.proofs.TypeLaws.{all_of, any_all}
use Rattle.omf_frame.proofs.FramingLaws.{stated, size, checksum_raw, raw_front, body_length}

pub some_none : (f : Fault) (fs : List Fault) → f ∷ fs ≡ [] → ⊥
some_none f fs e = cc

-- no step has a fault
pub first_one : (fs : List Fault) (xs : List (List Fault)) → first_step (fs ∷ xs) ≡ [] → (fs ≡ []) × (first_step xs ≡ [])
first_one [] xs h = (refl, h)
first_one (f ∷ fs) xs h = absurd (some_none f fs h)

pub first_of_none : (fs : List Fault) (xs : List (List Fault)) → fs ≡ [] → first_step xs ≡ [] → first_step (fs ∷ xs) ≡ []
first_of_none fs xs e h = subst (λ s. first_step (s ∷ xs) ≡ []) (sym e) h

pub first_both : (xs ys : List (List Fault)) → first_step xs ≡ [] → first_step ys ≡ [] → first_step (xs ++ ys) ≡ []
first_both [] ys hx hy = hy
first_both ([] ∷ xs) ys hx hy = first_both xs ys hx hy
first_both ((f ∷ fs) ∷ xs) ys hx hy = absurd (some_none f fs hx)

pub first_parts : (xs ys : List (List Fault)) → first_step (xs ++ ys) ≡ [] → (first_step xs ≡ []) × (first_step ys ≡ [])
first_parts [] ys h = (refl, h)
first_parts ([] ∷ xs) ys h = first_parts xs ys h
first_parts ((f ∷ fs) ∷ xs) ys h = absurd (some_none f fs h)

-- one rule
one_kept : (b : Bool) (w : ℕ) (r : Reason) → broken (rule b w r ∷ []) ≡ [] → IsTrue b
one_kept true w r h = refl
one_kept false w r h = absurd (some_none _ _ h)

one_none : (b : Bool) (w : ℕ) (r : Reason) → IsTrue b → broken (rule b w r ∷ []) ≡ []
one_none true w r h = refl
one_none false w r h = absurd (untrue h)

or_cases : (x y : Bool) → IsTrue (x || y) → IsTrue x ⊎ IsTrue y
or_cases true y h = inl refl
or_cases false y h = inr h

or_left : (x y : Bool) → IsTrue x → IsTrue (x || y)
or_left true y h = refl
or_left false y h = absurd (untrue h)

or_right : (x y : Bool) → IsTrue y → IsTrue (x || y)
or_right true y h = refl
or_right false y h = h

-- no type is both known and unsupported
pub known_supported : (kind : ℕ) → IsTrue (is_taken kind) → IsTrue (not (is_unsupported kind))
unfolding all_of
known_supported kind h = by (is_treated Read kind) refl h
  where
    by : (b : Bool) → is_treated Read kind ≡ b → IsTrue (b || is_treated Carried kind) → IsTrue (not (is_unsupported kind))
    by true e t = any_all (λ k. not (is_unsupported k)) (types_of (types_treated Read)) kind e refl
    by false e t = any_all (λ k. not (is_unsupported k)) (types_of (types_treated Carried)) kind t refl

two_kept : (a b : Bool) (v w : ℕ) (r s : Reason) → broken (rule a v r ∷ rule b w s ∷ []) ≡ [] → IsTrue a × IsTrue b
two_kept true b v w r s h = (refl, one_kept b w s h)
two_kept false b v w r s h = absurd (some_none _ _ h)

two_none : (a b : Bool) (v w : ℕ) (r s : Reason) → IsTrue a → IsTrue b → broken (rule a v r ∷ rule b w s ∷ []) ≡ []
two_none true b v w r s ha hb = one_none b w s hb
two_none false b v w r s ha hb = absurd (untrue ha)

known_of : (x y : Bool) → IsTrue (x || y) → IsTrue (not y) → IsTrue x
known_of true y h n = refl
known_of false true h n = absurd (untrue n)
known_of false false h n = absurd (untrue h)

-- The bytes present of a record have no fault of framing.
pub record AreFramed (is_first : Bool) (bytes : List ℕ) : Type 0 where
  pub nonempty : IsTrue (is_nonempty bytes)
  pub known : IsTrue (is_taken (slice_index bytes 0))
  pub whole : IsTrue (is_whole bytes)
  pub filled : IsTrue (not (stated_length bytes == 0))
  pub summed : IsTrue ((slice_index bytes (2 + stated_length bytes) == 0) || (sum bytes % 256 == 0))
  pub headed : IsTrue (not is_first || is_header (slice_index bytes 0))

pub framed_of : (is_first : Bool) (bytes : List ℕ) → first_step (frame_steps is_first bytes) ≡ [] → AreFramed is_first bytes
framed_of is_first bytes h =
    let kind : ℕ = slice_index bytes 0 in
    let h1 = first_one _ _ h in
    let h2 = first_one _ _ h1.1 in
    let h3 = first_one _ _ h2.1 in
    let h4 = first_one _ _ h3.1 in
    let h5 = first_one _ _ h4.1 in
    let h6 = first_one _ _ h5.1 in
    let t = two_kept (is_taken kind || is_unsupported kind) (not (is_unsupported kind)) 0 0 reason.UnknownType reason.UnsupportedType h2.0 in
    record {
      nonempty = one_kept (is_nonempty bytes) 0 reason.NoEnd h1.0;
      known = known_of (is_taken kind) (is_unsupported kind) t.0 t.1;
      whole = one_kept (is_whole bytes) (length bytes) reason.Cut h3.0;
      filled = one_kept (not (stated_length bytes == 0)) 1 reason.EmptyRecord h4.0;
      summed = one_kept ((slice_index bytes (2 + stated_length bytes) == 0) || (sum bytes % 256 == 0)) (2 + stated_length bytes) reason.Checksum h5.0;
      headed = one_kept (not is_first || is_header kind) 0 reason.NoHeader h6.0;
    }

pub of_framed : (is_first : Bool) (bytes : List ℕ) → AreFramed is_first bytes → first_step (frame_steps is_first bytes) ≡ []
of_framed is_first bytes f =
    let kind : ℕ = slice_index bytes 0 in
    let known : IsTrue (is_taken kind || is_unsupported kind) = or_left (is_taken kind) (is_unsupported kind) f.known in
    first_of_none _ _ (one_none (is_nonempty bytes) 0 reason.NoEnd f.nonempty)
    (first_of_none _ _ (two_none (is_taken kind || is_unsupported kind) (not (is_unsupported kind)) 0 0 reason.UnknownType reason.UnsupportedType known (known_supported kind f.known))
    (first_of_none _ _ (one_none (is_whole bytes) (length bytes) reason.Cut f.whole)
    (first_of_none _ _ (one_none (not (stated_length bytes == 0)) 1 reason.EmptyRecord f.filled)
    (first_of_none _ _ (one_none ((slice_index bytes (2 + stated_length bytes) == 0) || (sum bytes % 256 == 0)) (2 + stated_length bytes) reason.Checksum f.summed)
    (first_of_none _ _ (one_none (not is_first || is_header kind) 0 reason.NoHeader f.headed) refl)))))

-- A record's bytes are framed.
not_zero : (n : ℕ) → 0 < n → IsTrue (not (n == 0))
not_zero n h = by (n == 0) refl
  where
    by : (b : Bool) → n == 0 ≡ b → IsTrue (not (n == 0))
    by true e = let z : n ≡ 0 = eqb-true n 0 e in absurd (omega (arith, z, h))
    by false e = ap not e

zero_not : (n : ℕ) → IsTrue (not (n == 0)) → 0 < n
zero_not zero h = absurd (untrue h)
zero_not (suc n) h = omega arith

get_3 : (x y z : ℕ) (xs : List ℕ) (n : ℕ) → slice_index (x ∷ y ∷ z ∷ xs) (2 + suc n) ≡ slice_index xs n
get_3 x y z xs n = let e : 2 + suc n ≡ suc (suc (suc n)) = omega arith in ap (λ k. slice_index (x ∷ y ∷ z ∷ xs) k) e

pub raw_framed : (is_first : Bool) (r : Raw) → IsRecord r → IsTrue (is_taken r.kind) → IsTrue (not is_first || is_header r.kind) → AreFramed is_first (raw_bytes r)
raw_framed is_first r (small, sum) known headed =
    let n : ℕ = length r.body + 1 in
    let lo : ℕ = n % 256 in
    let hi : ℕ = n / 256 in
    let tail : List ℕ = r.body ++ r.checksum ∷ [] in
    let says : lo + 256 * hi ≡ n = stated r small in
    let le : lo + 256 * hi ≤ length tail = omega (arith, says, size r small) in
    let some : 0 < lo + 256 * hi = omega (arith, says) in
    let where_it_is : 2 + (lo + 256 * hi) ≡ 2 + suc (length r.body) = omega (arith, says) in
    let check : slice_index (raw_bytes r) (2 + (lo + 256 * hi)) ≡ r.checksum
    = ap (λ k. slice_index (raw_bytes r) k) where_it_is ∙ get_3 r.kind lo hi tail (length r.body) ∙ checksum_raw r small in
    record {
      nonempty = refl;
      known = known;
      whole = le-leb (lo + 256 * hi) (length tail) le;
      filled = not_zero (lo + 256 * hi) some;
      summed = elim sum [
        | inl z ↦ or_left _ _ (eq-eqb _ 0 (check ∙ z))
        | inr z ↦ or_right _ _ (eq-eqb _ 0 z)
      ];
      headed = headed;
    }

module _ (t lo hi : ℕ) (bytes : List ℕ) (is_first : Bool) (low : lo < 256) (high : hi < 256)
    (f : AreFramed is_first (t ∷ lo ∷ hi ∷ take (lo + 256 * hi) bytes)) where
  abbrev there : List ℕ
  there = take (lo + 256 * hi) bytes

  some : 0 < lo + 256 * hi
  some = zero_not (lo + 256 * hi) f.filled

  exact : length there ≡ lo + 256 * hi
  exact = let le : lo + 256 * hi ≤ length there = leb-true (lo + 256 * hi) (length there) f.whole in omega (arith, le, length-take (lo + 256 * hi) bytes)

  enough : lo + 256 * hi ≤ length bytes
  enough = omega (arith, exact, length-take (lo + 256 * hi) bytes)

  back : raw_bytes (front_record (t ∷ lo ∷ hi ∷ there)) ≡ t ∷ lo ∷ hi ∷ there
  back = raw_front t lo hi there low high some exact

  summed : ((front_record (t ∷ lo ∷ hi ∷ there)).checksum ≡ 0) ⊎ (sum (raw_bytes (front_record (t ∷ lo ∷ hi ∷ there))) % 256 ≡ 0)
  summed = elim (or_cases _ _ f.summed) [
    | inl z ↦ inl (sym place ∙ eqb-true _ 0 z)
    | inr z ↦ inr (ap (λ bs. sum bs % 256) back ∙ eqb-true _ 0 z)
  ]
    where
      here : 2 + (lo + 256 * hi) ≡ 2 + suc (lo + 256 * hi - 1)
      here = omega (arith, some)

      place : slice_index (t ∷ lo ∷ hi ∷ there) (2 + (lo + 256 * hi)) ≡ slice_index there (lo + 256 * hi - 1)
      place = ap (λ k. slice_index (t ∷ lo ∷ hi ∷ there) k) here ∙ get_3 t lo hi there (lo + 256 * hi - 1)

  front_of : HasFront (t ∷ lo ∷ hi ∷ bytes)
  front_of = record {
    is_record = (let e = body_length t lo hi there low high some exact in omega (arith, e), summed);
    whole = back;
    parts = ap (λ bs. t ∷ lo ∷ hi ∷ bs) (sym (take-append-drop (lo + 256 * hi) bytes));
    shorter = let e = length-drop (lo + 256 * hi) bytes in omega (arith, e);
  }

pub has_front : (is_first : Bool) (bytes : List ℕ) → AreBytes bytes → AreFramed is_first (present bytes) → HasFront bytes
has_front is_first [] small f = absurd (untrue f.nonempty)
has_front is_first (t ∷ []) small f = absurd (untrue f.whole)
has_front is_first (t ∷ lo ∷ []) small f = absurd (untrue f.whole)
has_front is_first (t ∷ lo ∷ hi ∷ bytes) small f =
    let low : lo < 256 = small 1 in
    let high : hi < 256 = small 2 in
    front_of t lo hi bytes is_first low high f

-- no least fault, no fault
pub least_none : (fs : List Fault) → least fs ≡ None → fs ≡ []
least_none [] e = refl
least_none (f ∷ fs) e = absurd (no_some e)
  where
    no_some : {A : Type 0} {x : A} → Some x ≡ None → ⊥
    no_some e = cc

pub clean_steps : (is_first : Bool) (bytes : List ℕ) → frame_fault is_first bytes ≡ None → first_step (frame_steps is_first bytes) ≡ []
clean_steps is_first bytes e = least_none (first_step (frame_steps is_first bytes)) e

pub steps_clean : (is_first : Bool) (bytes : List ℕ) → first_step (frame_steps is_first bytes) ≡ [] → frame_fault is_first bytes ≡ None
steps_clean is_first bytes e = ap least e
