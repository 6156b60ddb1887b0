-- How sources and sinks change their bytes and their counts of failures.
use Rattle.std.specs.Prelude.{◌≡◌, ◌⊎◌, ◌<◌, ◌≤◌, ℕ, ◌+◌, ◌-◌, ◌^◌, ◌/◌, ◌%◌, ◌++◌, List, [], ◌∷◌, length, take, Bool, true, false, not, ◌==◌, ◌&&◌, nat_lt, if◌then◌else◌, Option, IfSome, Result, Ok, Err}
use Rattle.std.specs.Io.{StartsWith}
use Rattle.std.specs.Io.KnownBytes.{Appends, Consumes, Keeps, IsAtEnd}
use Rattle.std.specs.IoError.{error_kind}
use Rattle.std.specs.declared.io.Error.{Error}
use Rattle.std.specs.declared.io.ErrorKind.{ErrorKind}
use Rattle.std.specs.declared.io.ErrorKind.TheVariants.{Interrupted}

-- The state of a source or a sink: its bytes, if known (of a source those that remain, of a sink those it holds); the number of
-- failures; and the number of breaks, the failures other than interruptions. Both counts saturate at the largest u64.
pub record Device : Type 0 where
  pub bytes : Option (List ℕ)
  pub failures : ℕ
  pub breaks : ℕ

-- one more, saturating
abbrev pub one_more : ℕ → ℕ
one_more count = if nat_lt count (2 ^ 64 - 1) then count + 1 else count

-- a pull takes the first n remaining bytes, 0 only at the end; a failed one takes none
abbrev pub Pulls : {E : Type 0} → Option (List ℕ) → Option (List ℕ) → Result ℕ E → List ℕ → Type 0
Pulls old new (Ok n) buf = Consumes old new (take n buf) × (n ≡ 0 → IsAtEnd new)
Pulls old new (Err e) buf = Keeps old new

-- a push appends the first n bytes; a failed one appends none
abbrev pub Pushes : {E : Type 0} → Option (List ℕ) → Option (List ℕ) → Result ℕ E → List ℕ → Type 0
Pushes old new (Ok n) bytes = Appends old new (take n bytes)
Pushes old new (Err e) bytes = Keeps old new

-- the bytes shown are a prefix of those that remain
abbrev pub Shows : Option (List ℕ) → List ℕ → Type 0
Shows left front = IfSome left (λ bytes. StartsWith bytes front)

abbrev pub is_interruption : ErrorKind → Bool
is_interruption Interrupted = true
is_interruption _ = false

-- a pull breaks if it returns an error other than an interruption
abbrev pub pull_breaks : Result ℕ Error → Bool
pull_breaks (Ok n) = false
pull_breaks (Err e) = not (is_interruption (error_kind e))

-- a push fails if it returns an error, or takes 0 bytes of a nonempty slice
abbrev pub push_fails : {E : Type 0} → Result ℕ E → List ℕ → Bool
push_fails (Ok n) bytes = n == 0 && nat_lt 0 (length bytes)
push_fails (Err e) bytes = true

-- a push breaks if it fails other than by an interruption
abbrev pub push_breaks : Result ℕ Error → List ℕ → Bool
push_breaks (Ok n) bytes = n == 0 && nat_lt 0 (length bytes)
push_breaks (Err e) bytes = not (is_interruption (error_kind e))

-- a count after a call
abbrev pub counted : Bool → ℕ → ℕ
counted failed count = if failed then one_more count else count

-- the whole text was appended, or at an error a prefix of it
abbrev pub Writes : {E : Type 0} → Option (List ℕ) → Option (List ℕ) → Result (Unit {0}) E → List ℕ → Type 0
Writes old new (Ok n) text = Appends old new text
Writes old new (Err e) text = (front : List ℕ) × (back : List ℕ) × (text ≡ front ++ back) × Appends old new front

-- a failure was counted, or the count is saturated
abbrev pub HasFailed : ℕ → ℕ → Type 0
HasFailed old new = (old < new) ⊎ (2 ^ 64 - 1 ≤ new)

-- a thousand failures were counted, or the count is saturated
abbrev pub IsThousandMore : ℕ → ℕ → Type 0
IsThousandMore old new = (old + 1000 ≤ new) ⊎ (2 ^ 64 - 1 ≤ new)

-- An interruption is returned after a thousand of them and no break; any other failure at once, as the one break.
abbrev pub IsLastTry : Bool → Device → Device → Type 0
IsLastTry true old new = (new.breaks ≡ old.breaks) × IsThousandMore old.failures new.failures
IsLastTry false old new = new.breaks ≡ one_more old.breaks

-- Only interruptions are retried: at success nothing broke, and an error is that of the last try.
abbrev pub TriesAgain : {A : Type 0} → Device → Device → Result A Error → Type 0
TriesAgain old new (Ok x) = new.breaks ≡ old.breaks
TriesAgain old new (Err e) = IsLastTry (is_interruption (error_kind e)) old new

-- a call on a device gave up: one break, or a thousand interruptions and no break
abbrev pub GivesUp : Device → Device → Type 0
GivesUp old new = (new.breaks ≡ one_more old.breaks) ⊎ ((new.breaks ≡ old.breaks) × IsThousandMore old.failures new.failures)

-- the type byte and the length bytes of a record
abbrev pub head : ℕ → List ℕ → List ℕ
head kind body = kind ∷ (length body + 1) % 256 ∷ (length body + 1) / 256 ∷ []
