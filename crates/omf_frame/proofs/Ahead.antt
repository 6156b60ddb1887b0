-- A record that is whole in the next bytes, and bytes that are taken of those that a source shows.
use Rattle.std.proofs.Common.{◌≡◌, ℕ, zero, suc, ◌+◌, ◌*◌, ◌≤◌, ◌<◌, Bool, true, false, cond, Option, Some, None, List, [], ◌∷◌, ◌++◌, length, take, drop, is_some, is_none, refl, sym, ap, subst, ◌∙◌, arith}
use Rattle.std.specs.Prelude.{◌==◌, OnSome, slice_index, option_map}
use Rattle.std.specs.Io.KnownBytes.{Consumes, prepend_known}
use Rattle.std.specs.Io.BufRead.{DropsConsumable}
use Rattle.std.proofs.lemmas.List.{length-take}
use borrow.Author.Tests.{leb-true, leb-false}
use Rattle.omf_frame.specs.declared.fault.FrameFault.{FrameFault}
use Rattle.omf_frame.specs.declared.fault.Reason.{Reason}
use Rattle.omf_frame.specs.Fault.{Fault}
use Rattle.omf_frame.specs.Framing.{present, is_whole, is_end, frame_fault, standing_fault, record_len}
use Rattle.omf_frame.specs.Framer.{Held, IsBetween, Takes, passed, with_bytes}
use Rattle.omf_frame.specs.Inner.Judging.{found, type_fault, whole_fault}
use Rattle.omf_frame.proofs.Judged.{by_type, by_whole, uncut}
use Rattle.omf_frame.proofs.Standing.{lasting_some}
use Rattle.omf_frame.proofs.Growing.{present_is, length_present}
use Rattle.omf_frame.proofs.States.{takes}

-- ---- sources

pub nothing_taken : (o : Option (List ℕ)) (n : ℕ) → Consumes o o (take n [])
nothing_taken None n = tt
nothing_taken (Some xs) zero = refl
nothing_taken (Some xs) (suc n) = refl

pub nothing_left : (n : ℕ) → [] ≡ drop {A = ℕ} n []
nothing_left zero = refl
nothing_left (suc n) = refl

parts : (n : ℕ) (buf xs : List ℕ) → n ≤ length buf → buf ++ xs ≡ take n buf ++ drop n (buf ++ xs)
parts zero buf xs le = refl
parts (suc n) [] xs le = absurd (omega (arith, le))
parts (suc n) (b ∷ buf) xs le = ap (λ t. b ∷ t) (parts n buf xs (omega (arith, le)))

-- a buffered reader, whose buffer has room or none
pub buffer_taken : (no_room : Bool) (inner : Option (List ℕ)) (buf : List ℕ) (n : ℕ) (new : Option (List ℕ)) → n ≤ length buf
    → DropsConsumable (cond no_room None (prepend_known buf inner)) new (Some (length buf)) n → Consumes (cond no_room None (prepend_known buf inner)) new (take n buf)
buffer_taken true inner buf n new le d = tt
buffer_taken false None buf n new le d = tt
buffer_taken false (Some xs) buf n new le d = subst (λ o. Consumes (Some (buf ++ xs)) o (take n buf)) (sym (d le)) (parts n buf xs le)

-- ---- a record that is whole

pub on_some : {A : Type 0} {P : Type 0} (o : Option A) → P → OnSome o P
on_some None p = tt
on_some (Some x) p = p

pub on_both : {A : Type 0} {P Q R S : Type 0} (o : Option A) → OnSome o P → OnSome o Q → OnSome o R → (P → Q → R → S) → OnSome o S
on_both None p q r f = tt
on_both (Some x) p q r f = f p q r

faulty : (f : Bool) (bytes : List ℕ) (g : Fault) → standing_fault f bytes ≡ Some g → is_none (frame_fault f bytes) ≡ false
faulty f bytes g e = ap is_none (lasting_some (frame_fault f bytes) g e)

pub shown_now : {A : Type 0} (o : Option A) (f : Bool) (bytes : List ℕ) → is_some o ≡ true → OnSome o (frame_fault f bytes ≡ None) → is_some o ≡ is_none (frame_fault f bytes)
shown_now None f bytes e s = cc
shown_now (Some x) f bytes e s = sym (ap is_none s)

-- the front of the bytes, as far as the record goes
module _ (f : Bool) (bytes front : List ℕ) (size : ℕ) (size_is : size ≡ record_len bytes) (front_is : front ≡ take size bytes) where
  pub whole_is : front ≡ present bytes
  whole_is = front_is ∙ ap (λ n. take n bytes) size_is ∙ present_is bytes

  pub type_some : (r : Option (Reason × ℕ)) (x : Reason × ℕ) → r ≡ type_fault front → r ≡ Some x → false ≡ is_none (frame_fault f (present bytes))
  type_some r x e g = sym (ap (λ b. is_none (frame_fault f b)) (sym whole_is) ∙ faulty f front (found x) (by_type f front r x e g))

  pub whole_some : (r w : Option (Reason × ℕ)) (x : Reason × ℕ) → r ≡ type_fault front → r ≡ None → w ≡ whole_fault f front → w ≡ Some x → false ≡ is_none (frame_fault f (present bytes))
  whole_some r w x e n g h = sym (ap (λ b. is_none (frame_fault f b)) (sym whole_is) ∙ faulty f front (found x) (by_whole f front r w e n g ∙ ap (option_map found) h))

  pub sound_is : (r w : Option (Reason × ℕ)) → r ≡ type_fault front → r ≡ None → w ≡ whole_fault f front → w ≡ None → standing_fault f front ≡ None
  sound_is r w e n g h = by_whole f front r w e n g ∙ ap (option_map found) h

cut_whole : (bytes : List ℕ) → length bytes < record_len bytes → is_whole (present bytes) ≡ false
cut_whole [] h = refl
cut_whole (t ∷ []) h = refl
cut_whole (t ∷ lo ∷ []) h = refl
cut_whole (t ∷ lo ∷ hi ∷ bytes) h = by (is_whole (present (t ∷ lo ∷ hi ∷ bytes))) refl
  where
    by : (b : Bool) → is_whole (present (t ∷ lo ∷ hi ∷ bytes)) ≡ b → is_whole (present (t ∷ lo ∷ hi ∷ bytes)) ≡ false
    by false e = e
    by true e = let enough = leb-true (lo + 256 * hi) (length (take (lo + 256 * hi) bytes)) e in absurd (omega (arith, enough, h, length-take (lo + 256 * hi) bytes))

pub part_shown : (f : Bool) (bytes : List ℕ) → length bytes < record_len bytes → false ≡ is_none (frame_fault f (present bytes))
part_shown f bytes h = sym (uncut f (present bytes) (cut_whole bytes h))

pub whole_long : (bytes : List ℕ) → record_len bytes ≤ length bytes → is_whole (present bytes) ≡ true
whole_long [] h = absurd (omega (arith, h))
whole_long (t ∷ []) h = absurd (omega (arith, h))
whole_long (t ∷ lo ∷ []) h = absurd (omega (arith, h))
whole_long (t ∷ lo ∷ hi ∷ bytes) h = by (is_whole (present (t ∷ lo ∷ hi ∷ bytes))) refl
  where
    by : (b : Bool) → is_whole (present (t ∷ lo ∷ hi ∷ bytes)) ≡ b → is_whole (present (t ∷ lo ∷ hi ∷ bytes)) ≡ true
    by true e = e
    by false e = let less = leb-false (lo + 256 * hi) (length (take (lo + 256 * hi) bytes)) e in absurd (omega (arith, less, h, length-take (lo + 256 * hi) bytes))

-- without a fault it is whole
long_if_sound : (f : Bool) (ahead : List ℕ) → frame_fault f (present ahead) ≡ None → length (present ahead) ≡ record_len ahead
long_if_sound f ahead s = by (is_whole (present ahead)) refl
  where
    clash : (o : Option Fault) → is_none o ≡ false → o ≡ None → ⊥
    clash None e h = cc
    clash (Some x) e h = cc

    long : (bytes : List ℕ) → is_whole (present bytes) ≡ true → length (present bytes) ≡ record_len bytes
    long [] e = cc
    long (t ∷ []) e = cc
    long (t ∷ lo ∷ []) e = cc
    long (t ∷ lo ∷ hi ∷ bytes) e = let enough = leb-true (lo + 256 * hi) (length (take (lo + 256 * hi) bytes)) e in omega (arith, enough, length-take (lo + 256 * hi) bytes)

    by : (b : Bool) → is_whole (present ahead) ≡ b → length (present ahead) ≡ record_len ahead
    by true e = long ahead e
    by false e = absurd (clash (frame_fault f (present ahead)) (uncut f (present ahead) e) s)

first_same : (ahead : List ℕ) → slice_index ahead 0 ≡ slice_index (present ahead) 0
first_same [] = refl
first_same (t ∷ []) = refl
first_same (t ∷ lo ∷ []) = refl
first_same (t ∷ lo ∷ hi ∷ bytes) = refl

-- ---- the framer

pub takes_ahead : (bytes : List ℕ) (number start : ℕ) (ended : Bool) (fault : Option FrameFault) (ahead : List ℕ) → bytes ≡ [] → ended ≡ false → fault ≡ None
    → record_len ahead ≤ length ahead → standing_fault (number == 0) (present ahead) ≡ None → is_whole (present ahead) ≡ true
    → Takes (record { bytes = bytes; number = number; start = start; ended = ended; fault = fault }) ahead (record_len ahead) true (record { bytes = present ahead; number = number; start = start; ended = ended; fault = fault })
takes_ahead bytes number start ended fault ahead b e f long sound whole =
    let none : length bytes ≡ 0 = ap length b in
    let count : length (present ahead) ≡ record_len ahead = omega (arith, length_present ahead, long) in
    let same : present (bytes ++ ahead) ≡ present ahead = ap (λ x. present (x ++ ahead)) b in
    takes bytes number start ended fault ahead (record_len ahead) true (present ahead) f e (sym same)
    (sym (present_is ahead) ∙ ap (λ x. x ++ take (record_len ahead) ahead) (sym b))
    (let n : record_len ahead + length bytes ≡ length (present ahead) = omega (arith, none, count) in n ∙ ap length (sym same))
    long sound (sym whole)

state : List ℕ → ℕ → ℕ → Bool → Option FrameFault → Held
state bytes number start ended fault = record { bytes = bytes; number = number; start = start; ended = ended; fault = fault }

passed_is : (held : Held) (ahead : List ℕ) (size : ℕ) (end : Bool) → IsBetween held → frame_fault (held.number == 0) (present ahead) ≡ None → size ≡ record_len ahead → end ≡ is_end (slice_index ahead 0)
    → state held.bytes (held.number + 1) (held.start + size) end held.fault ≡ passed (with_bytes held (present ahead))
unfolding state
passed_is held ahead size end b s n e =
    ap (λ x. state x (held.number + 1) (held.start + size) end held.fault) b.none
    ∙ ap (λ x. state [] (held.number + 1) (held.start + x) end held.fault) (n ∙ sym (long_if_sound (held.number == 0) ahead s))
    ∙ ap (λ x. state [] (held.number + 1) (held.start + length (present ahead)) x held.fault) (e ∙ ap is_end (first_same ahead))
    ∙ ap (λ x. state [] (held.number + 1) (held.start + length (present ahead)) (is_end (slice_index (present ahead) 0)) x) b.no_fault

pub passed_at : (held now : Held) (ahead : List ℕ) (size : ℕ) (end : Bool) → held ≡ now → IsBetween now → frame_fault (now.number == 0) (present ahead) ≡ None → size ≡ record_len ahead → end ≡ is_end (slice_index ahead 0)
    → record { bytes = held.bytes; number = held.number + 1; start = held.start + size; ended = end; fault = held.fault } ≡ passed (with_bytes now (present ahead))
unfolding state
passed_at held now ahead size end v b s n e =
    subst (λ h. state h.bytes (h.number + 1) (h.start + size) end h.fault ≡ passed (with_bytes now (present ahead))) (sym v) (passed_is now ahead size end b s n e)

pub no_bytes : (xs : List ℕ) → length xs ≡ 0 → xs ≡ []
no_bytes [] h = refl
no_bytes (x ∷ xs) h = absurd (omega (arith, h))

pub between_at : (held now : Held) → held ≡ now → held.fault ≡ None → (held.number ≡ 0 → ⊥) → held.ended ≡ false → length held.bytes ≡ 0 → IsBetween now
between_at held now v f n e l = subst IsBetween v (record { later = omega (arith, n); none = no_bytes held.bytes l; running = e; no_fault = f })
