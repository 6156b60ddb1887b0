-- What devices made for tests give.
use Rattle.std.proofs.Common.{◌≡◌, ℕ, ◌-◌, ◌<◌, min, Bool, true, false, not, List, [], ◌∷◌, ◌++◌, length, take, drop, Option, Some, None, sym, refl, arith, take-append-drop}
use Rattle.std.proofs.lemmas.List.{append-nil, take_min}
use Rattle.std.specs.Prelude.{◌==◌, nat_lt, if◌then◌else◌}
use Rattle.std.specs.Io.KnownBytes.{Consumes, IsAtEnd}
use Rattle.omf_frame.specs.declared.faulty.Then.{Then}
use Rattle.omf_frame.specs.declared.faulty.Then.TheVariants.{Ends, Fails, Repeats}
use Rattle.std.specs.declared.io.ErrorKind.{ErrorKind}
use Rattle.std.specs.declared.io.ErrorKind.TheVariants.{Interrupted, Other}
use Rattle.omf_frame.specs.Device.{one_more, counted, is_interruption}
use Rattle.omf_frame.specs.Inner.Faulty.{Scripted, Taking, Answer, Interrupts, Refuses, told, kind_once, kind_due, next_due, next_failing, unless_failing, taken, passed_on, is_push_failure, is_push_break, after_push, given, is_failure, is_break, after_pull}

-- bytes that are given from the front are consumed
pub gives_front : (after : Then) (bytes rest front : List ℕ) (count : ℕ) → bytes ≡ front ++ rest → 0 < count → Consumes (told after bytes) (told after rest) front × (count ≡ 0 → IsAtEnd (told after rest))
gives_front Ends bytes rest front count e h = (e, λ z. absurd (omega arith))
gives_front Fails bytes rest front count e h = (e, λ z. absurd (omega arith))
gives_front (Repeats b) bytes rest front count e h = (tt, λ z. tt)

-- at most so many bytes from the front, and the rest
pub front_and_rest : (bytes rest front : List ℕ) (most count : ℕ) → front ≡ take most bytes → rest ≡ drop count bytes → count ≡ min most (length bytes) → bytes ≡ front ++ rest
front_and_rest bytes rest front most count f r n = rw (f, r, n, ← take_min most bytes) (sym (take-append-drop (min most (length bytes)) bytes))

-- some are given where there are some
pub some_given : (is_empty : Bool) (bytes : List ℕ) (most count : ℕ) → is_empty ≡ (length bytes == 0) → is_empty ≡ false → 0 < most → count ≡ min most (length bytes) → 0 < count
some_given is_empty [] most count e h p n = cc
some_given is_empty (b ∷ bytes) most count e h p n = omega arith

-- What a failure that comes by its turn passes on, and how it counts.
pub record IsTurn (answer : Answer) (kind : ErrorKind) (bytes : List ℕ) : Type 0 where
  pub none : passed_on answer ≡ []
  pub fails : is_push_failure answer bytes ≡ true
  pub breaks : is_push_break answer bytes ≡ not (is_interruption kind)
  pub pull_fails : is_failure answer ≡ true
  pub pull_breaks : is_break answer ≡ not (is_interruption kind)

none_due : (kind : ErrorKind) → None ≡ Some kind → ⊥
none_due kind e = cc

once : (is_turn : Bool) (answer : Answer) (kind : ErrorKind) (bytes : List ℕ) → (if is_turn then Some Other else None) ≡ Some kind → IsTurn (if is_turn then Refuses else answer) kind bytes
once true answer kind bytes e = let k : kind ≡ Other = cc in rw k (record { none = refl; fails = refl; breaks = refl; pull_fails = refl; pull_breaks = refl })
once false answer kind bytes e = absurd (none_due kind e)

turn : (is_due : Bool) (fails_in : Option ℕ) (answer : Answer) (kind : ErrorKind) (bytes : List ℕ) → (if is_due then Some Interrupted else kind_once fails_in) ≡ Some kind → IsTurn (if is_due then Interrupts else unless_failing fails_in answer) kind bytes
turn true fails_in answer kind bytes e = let k : kind ≡ Interrupted = cc in rw k (record { none = refl; fails = refl; breaks = refl; pull_fails = refl; pull_breaks = refl })
turn false (Some n) answer kind bytes e = once (n == 0) answer kind bytes e
turn false None answer kind bytes e = absurd (none_due kind e)

-- what a taker is after a failure that comes by its turn
pub failed_by_turn : (t : Taking) (bytes : List ℕ) (kind : ErrorKind) (due : ℕ) (fails_in : Option ℕ) (failures breaks : ℕ) → Some kind ≡ kind_due t.due t.fails_in → due ≡ next_due t.due t.interruptions → fails_in ≡ next_failing t.due t.fails_in → failures ≡ one_more t.failures → breaks ≡ counted (not (is_interruption kind)) t.breaks
    → record { held = t.held; room = t.room; full = t.full; piece = t.piece; interruptions = t.interruptions; due = due; fails_in = fails_in; failures = failures; breaks = breaks } ≡ after_push t bytes
failed_by_turn t bytes kind due fails_in failures breaks e d f n k =
    let h = turn (nat_lt 0 t.due) t.fails_in (taken t.full t.piece t.room bytes) kind bytes (sym e) in
    let whole : t.room - length {A = ℕ} [] ≡ t.room = omega arith in
    rw (h.none, h.fails, h.breaks, d, f, n, k, append-nil t.held, whole) refl

-- what a script is after a failure that comes by its turn
pub pull_failed_by_turn : (s : Scripted) (room : ℕ) (kind : ErrorKind) (due : ℕ) (fails_in : Option ℕ) (failures breaks : ℕ) → Some kind ≡ kind_due s.due s.fails_in → due ≡ next_due s.due s.interruptions → fails_in ≡ next_failing s.due s.fails_in → failures ≡ one_more s.failures → breaks ≡ counted (not (is_interruption kind)) s.breaks
    → record { bytes = s.bytes; after = s.after; piece = s.piece; interruptions = s.interruptions; due = due; fails_in = fails_in; failures = failures; breaks = breaks } ≡ after_pull s room
pull_failed_by_turn s room kind due fails_in failures breaks e d f n k =
    let h = turn (nat_lt 0 s.due) s.fails_in (given s.after (min room s.piece) s.bytes) kind [] (sym e) in
    rw (h.none, h.pull_fails, h.pull_breaks, d, f, n, k) refl
