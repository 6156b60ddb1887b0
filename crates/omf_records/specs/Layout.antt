-- Layouts, and the combinators they are built from.
--
-- A layout is two relations. `Spells`: these bytes, at this offset, encode this value. `Faults`: the remaining bytes of the contents
-- have this fault. Offsets count the bytes of the record, from 0 at its type byte.
--
-- The faults are those of the first field that does not read, from left to right: all faults of that field, as both methods of a fix
-- data byte. A refused value hides the fields after it. No hidden fault could be the least one: it is further right, since a refused
-- field has a byte and no layout has a fault before its own offset (`behind` in Reads, `hidden_right` in Readers).
--
-- The combinators, and their readings (FieldReaders, Readers, Many):
--   p >>= f            p, and then the layout of its value         _>=>_, and _>=>|_ to the end of the bytes
--   give x             no bytes                                    give_reader
--   ends x             no bytes, and none may remain               ends_whole
--   rest               all remaining bytes                         rest_whole
--   many p             p repeated to the end, with offsets         each_whole
--   times n p          p repeated n times                          times_reader
--   with_place p       p with its offset                           placed_reader
--   checked p refused  p, some values of which are refused         checked_reader
--   called p f         p, with f applied to its value              called_reader, called_whole
--   choose b p q       p if b, else q                              choose_reader, choose_whole
--   when b p           p if b, else nothing                        when_reader
--   byte, le k, number_of wide, index, name, communal_length, head byte_reader, le_reader, number_reader, ..
use Rattle.std.specs.Prelude.{◌≡◌, ℕ, zero, suc, ◌+◌, ◌/◌, ◌%◌, ◌<◌, ◌≤◌, ◌⊎◌, ◌≢◌, ◌||◌, Bool, cond, nat_le, if◌then◌else◌, Option, Some, None, List, [], ◌∷◌, ◌++◌, length, Result, Ok, IsTrue, IfOk, IfErr}
use Rattle.omf_frame.specs.Bytes.{is_one_of}
use Rattle.omf_frame.specs.Fault.{Fault, is_before}
use Rattle.omf_frame.specs.Fields.{IsIndex, IsName, IsLittle, IsCommunalLength}
use Rattle.omf_frame.specs.declared.fault.Reason.{Reason}
use Rattle.omf_frame.specs.declared.fault.Reason.TheVariants as reason
use Rattle.omf_records.specs.Values.{At}

pub record Layout (A : Type 0) : Type 1 where
  -- exactly these bytes, at this offset, encode the value
  pub Spells : ℕ → List ℕ → A → Type 0
  -- the bytes from this offset to the end of the contents have the fault
  pub Faults : ℕ → List ℕ → Fault → Type 0

abbrev pub fault : ℕ → Reason → Fault
fault at r = record { within = at; reason = r }

-- p, and then the layout of its value
infixl 10 ◌>>=◌
abbrev pub ◌>>=◌ : {A B : Type 0} → Layout A → (A → Layout B) → Layout B
◌>>=◌ {A} {B} p f = record {
  Spells = λ at bytes y. (front : List ℕ) × (back : List ℕ) × (x : A) × (bytes ≡ front ++ back) × p.Spells at front x × (f x).Spells (at + length front) back y;
  Faults = λ at bytes e. p.Faults at bytes e ⊎ ((front : List ℕ) × (back : List ℕ) × (x : A) × (bytes ≡ front ++ back) × p.Spells at front x × (f x).Faults (at + length front) back e);
}

-- no bytes
abbrev pub give : {A : Type 0} → A → Layout A
give {A} x = record { Spells = λ at bytes y. (bytes ≡ []) × (y ≡ x); Faults = λ at bytes e. ⊥ }

-- no bytes, and none may remain
abbrev pub ends : {A : Type 0} → A → Layout A
ends {A} x = record { Spells = λ at bytes y. (bytes ≡ []) × (y ≡ x); Faults = λ at bytes e. (bytes ≢ []) × (e ≡ fault at reason.Long) }

-- all remaining bytes
abbrev pub rest : Layout (List ℕ)
rest = record { Spells = λ at bytes y. y ≡ bytes; Faults = λ at bytes e. ⊥ }

-- p repeated to the end; each item has its offset
abbrev pub SpellsEach : {A : Type 0} → Layout A → ℕ → List ℕ → List (At A) → Type 0
SpellsEach p at bytes [] = bytes ≡ []
SpellsEach p at bytes (x ∷ xs) = (front : List ℕ) × (back : List ℕ) × (bytes ≡ front ++ back) × (x.within ≡ at) × p.Spells at front x.item × SpellsEach p (at + length front) back xs

abbrev pub many : {A : Type 0} → Layout A → Layout (List (At A))
many {A} p = record {
  Spells = SpellsEach p;
  Faults = λ at bytes e. (front : List ℕ) × (back : List ℕ) × (xs : List (At A)) × (bytes ≡ front ++ back) × (back ≢ []) × SpellsEach p at front xs × p.Faults (at + length front) back e;
}

-- p repeated n times
abbrev pub times : {A : Type 0} → ℕ → Layout A → Layout (List A)
times zero p = give []
times (suc n) p = p >>= λ x. times n p >>= λ xs. give (x ∷ xs)

-- A field, with a reason from its bytes if they encode no value.
abbrev pub field_or : {A : Type 0} → (List ℕ → Reason) → (A → List ℕ → Type 0) → Layout A
field_or {A} why P = record {
  Spells = λ at bytes x. P x bytes;
  Faults = λ at bytes e. (e ≡ fault at (why bytes)) × ((front : List ℕ) (back : List ℕ) (x : A) → bytes ≡ front ++ back → P x front → ⊥);
}

-- A field, with reason Short if the bytes begin with no encoding of it.
abbrev pub field : {A : Type 0} → (A → List ℕ → Type 0) → Layout A
field P = field_or (λ bytes. reason.Short) P

abbrev pub name : Layout (List ℕ)
name = field IsName

abbrev pub index : Layout ℕ
index = field IsIndex

-- a byte
abbrev pub byte : Layout ℕ
byte = field (λ n bytes. (n < 256) × (bytes ≡ n ∷ []))

-- a little-endian number of k bytes
abbrev pub le : ℕ → Layout ℕ
le k = field (IsLittle k)

-- 32 bits, or 16
abbrev pub number_of : Bool → Layout ℕ
number_of wide = le (cond wide 4 2)

-- The first byte of a communal length is at most 128, or 81H, 84H, 88H. Any other is refused, whatever follows.
abbrev pub length_reason : List ℕ → Reason
length_reason [] = reason.Short
length_reason (a ∷ bytes) = if nat_le a 128 || is_one_of (0x81 ∷ 0x84 ∷ 0x88 ∷ []) a then reason.Short else reason.CommunalLength

abbrev pub communal_length : Layout ℕ
communal_length = field_or length_reason IsCommunalLength

-- One byte below 128, or two bytes, high byte first, with bit 7 of the first set. All other bytes are too short.
abbrev pub head : Layout ℕ
head = field (λ n bytes. ((n < 128) × (bytes ≡ n ∷ [])) ⊎ ((32768 ≤ n) × (n < 65536) × (bytes ≡ n / 256 ∷ n % 256 ∷ [])))

abbrev pub IsIn : Reason → List Reason → Type 0
IsIn r [] = ⊥
IsIn r (x ∷ xs) = (r ≡ x) ⊎ IsIn r xs

-- a field with refused values, each with the list of its reasons, reported at the field's first byte
abbrev pub checked : {A : Type 0} → Layout A → (A → List Reason) → Layout A
checked {A} p refused = record {
  Spells = λ at bytes x. p.Spells at bytes x × (refused x ≡ []);
  Faults = λ at bytes e. p.Faults at bytes e ⊎ ((front : List ℕ) × (back : List ℕ) × (x : A) × (bytes ≡ front ++ back) × p.Spells at front x × (e.within ≡ at) × IsIn e.reason (refused x));
}

-- a field and its offset
abbrev pub with_place : {A : Type 0} → Layout A → Layout (At A)
with_place {A} p = record { Spells = λ at bytes x. (x.within ≡ at) × p.Spells at bytes x.item; Faults = p.Faults }

-- a layout, with f applied to its value
abbrev pub called : {A B : Type 0} → Layout A → (A → B) → Layout B
called {A} {B} p f = record { Spells = λ at bytes y. (x : A) × p.Spells at bytes x × (y ≡ f x); Faults = p.Faults }

-- one of two
abbrev pub choose : {A : Type 0} → Bool → Layout A → Layout A → Layout A
choose b p q = record { Spells = λ at bytes x. cond b (p.Spells at bytes x) (q.Spells at bytes x); Faults = λ at bytes e. cond b (p.Faults at bytes e) (q.Faults at bytes e) }

-- a layout if b, else nothing
abbrev pub when : {A : Type 0} → Bool → Layout A → Layout (Option A)
when b p = choose b (called p (λ x. Some x)) (give None)

-- no fault is at an offset before the layout's own
abbrev pub Behind : {A : Type 0} → Layout A → Type 0
Behind p = (at : ℕ) (bytes : List ℕ) (e : Fault) → p.Faults at bytes e → at ≤ e.within

-- The result is the one value that the bytes encode, or their first fault.
pub record Meets {A : Type 0} (p : Layout A) (at : ℕ) (bytes : List ℕ) (r : Result A Fault) : Type 0 where
  -- a returned value is encoded by the bytes
  pub spelled : IfOk r (p.Spells at bytes)
  -- an encoded value is returned
  pub given : (x : A) → p.Spells at bytes x → r ≡ Ok x
  -- a returned fault is a fault of the bytes, and no other comes before it
  pub faulty : IfErr r (p.Faults at bytes)
  pub first : IfErr r (λ e. (f : Fault) → p.Faults at bytes f → IsTrue (is_before e f))
