-- Readings from left to right, and their relation to layouts.
use Rattle.std.specs.Prelude.{◌≡◌, ℕ, zero, suc, ◌+◌, ◌<◌, ◌≤◌, Bool, List, [], ◌∷◌, ◌++◌, length, Result, Ok, Err, IsTrue}
use Rattle.omf_frame.specs.Bytes.{AreBytes}
use Rattle.omf_frame.specs.Fault.{Fault, is_before}
use Rattle.omf_records.specs.Values.{At}
use Rattle.omf_records.specs.Layout.{Layout, Behind}

-- a value, and the offset and the bytes after it
pub record After (A : Type 0) : Type 0 where
  pub value : A
  pub within : ℕ
  pub rest : List ℕ

abbrev pub after : {A : Type 0} → A → ℕ → List ℕ → After A
after x at bytes = record { value = x; within = at; rest = bytes }

abbrev pub Reading : Type 0 → Type 0
Reading A = ℕ → List ℕ → Result (After A) Fault

-- a reading of all bytes
abbrev pub WholeReading : Type 0 → Type 0
WholeReading A = ℕ → List ℕ → Result A Fault

abbrev pub and_then : {A B : Type 0} → Result A Fault → (A → Result B Fault) → Result B Fault
and_then (Ok x) f = f x
and_then (Err e) f = Err e

-- the front of the bytes encodes the value read, and the rest follows
pub record Takes {A : Type 0} (p : Layout A) (at : ℕ) (bytes : List ℕ) (a : After A) : Type 0 where
  pub front : List ℕ
  pub parts : bytes ≡ front ++ a.rest
  pub place : a.within ≡ at + length front
  pub spells : p.Spells at front a.value

-- the reading gives a fault no later than f
pub record Refuses {A : Type 0} (r : Result A Fault) (f : Fault) : Type 0 where
  pub given : Fault
  pub is : r ≡ Err given
  pub first : IsTrue (is_before given f)

-- the rest is no longer than the bytes
abbrev pub Falls : {A : Type 0} → Reading A → Type 0
Falls {A} read = (at : ℕ) (bytes : List ℕ) (a : After A) → read at bytes ≡ Ok a → length a.rest ≤ length bytes

-- a value has at least one byte
abbrev pub Shrinks : {A : Type 0} → Reading A → Type 0
Shrinks {A} read = (at : ℕ) (bytes : List ℕ) (a : After A) → read at bytes ≡ Ok a → length a.rest < length bytes

-- A reading that finds the encoding at the front, whatever follows: by `again` no encoding is a prefix of another, and the value and
-- the offset after it are unique.
pub record Reader {A : Type 0} (p : Layout A) : Type 0 where
  pub read : Reading A
  pub ok : (at : ℕ) (bytes : List ℕ) (a : After A) → AreBytes bytes → read at bytes ≡ Ok a → Takes p at bytes a
  pub again : (at : ℕ) (front rest : List ℕ) (x : A) → p.Spells at front x → read at (front ++ rest) ≡ Ok (after x (at + length front) rest)
  pub err : (at : ℕ) (bytes : List ℕ) (e : Fault) → AreBytes bytes → read at bytes ≡ Err e → p.Faults at bytes e
  pub refuses : (at : ℕ) (bytes : List ℕ) (f : Fault) → AreBytes bytes → p.Faults at bytes f → Refuses (read at bytes) f
  pub behind : Behind p
  pub falls : Falls read

-- a reading of all bytes that agrees with its layout
pub record Whole {A : Type 0} (p : Layout A) : Type 0 where
  pub read : WholeReading A
  pub ok : (at : ℕ) (bytes : List ℕ) (x : A) → AreBytes bytes → read at bytes ≡ Ok x → p.Spells at bytes x
  pub again : (at : ℕ) (bytes : List ℕ) (x : A) → p.Spells at bytes x → read at bytes ≡ Ok x
  pub err : (at : ℕ) (bytes : List ℕ) (e : Fault) → AreBytes bytes → read at bytes ≡ Err e → p.Faults at bytes e
  pub refuses : (at : ℕ) (bytes : List ℕ) (f : Fault) → AreBytes bytes → p.Faults at bytes f → Refuses (read at bytes) f
  pub behind : Behind p

-- items to the end; n is at least the number of bytes
abbrev pub each_read : {A : Type 0} → Reading A → ℕ → ℕ → List ℕ → Result (List (At A)) Fault
each_read read n at [] = Ok []
each_read read zero at (b ∷ bytes) = Ok []
each_read read (suc n) at (b ∷ bytes) = and_then (read at (b ∷ bytes)) (λ a. and_then (each_read read n a.within a.rest) (λ xs. Ok (record { within = at; item = a.value } ∷ xs)))

abbrev pub each : {A : Type 0} → Reading A → WholeReading (List (At A))
each read at bytes = each_read read (length bytes) at bytes

abbrev pub or_none : {A : Type 0} → Result (List A) Fault → List A
or_none (Ok xs) = xs
or_none (Err e) = []

-- The result of a function is that of the reading, up to the position with this `place` and `rest`, in a record of width w.
abbrev pub GivesFrom : {A F : Type 0} → (F → ℕ) → (F → List ℕ) → (F → Bool) → Bool → Result (A × F) Fault → Result (After A) Fault → Type 0
GivesFrom place rest wide w (Ok x) read = (read ≡ Ok (record { value = x.0; within = place x.1; rest = rest x.1 })) × (wide x.1 ≡ w)
GivesFrom place rest wide w (Err e) read = read ≡ Err e
