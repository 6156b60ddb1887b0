-- The bytes of a binary, one by one.
use Rattle.std.proofs.Common.{◌≡◌, ℕ, ◌+◌, ◌-◌, ◌<◌, ◌≤◌, List, [], ◌∷◌, ◌++◌, length, Bool, true, false, cond, leb, ltb, get_or, inl, inr, refl, ap, ap₂, sym, ◌∙◌, arith}
use Rattle.std.specs.Prelude.{◌&&◌, replicate}
use Rattle.std.proofs.lemmas.Bool.{le-leb, lt-leb, lt-ltb, le-ltb}
use Rattle.std.proofs.lemmas.List.{get_or_append_left, get_or-append_right, get_or-replicate, length-replicate, length-append}
use Rattle.std.proofs.lemmas.Bool.Decides.{leb_tells}
use Rattle.omf_output.specs.declared.rom.run.Run.{Run}
use Rattle.omf_output.specs.Rom.Binary.{Ascend, binary, byte_at, AreBytesFrom}

-- ascending runs begin where they may, and end where they must
pub ascends : (from end : ℕ) (runs : List Run) → Ascend from end runs → from ≤ end
ascends from end [] h = h
ascends from end (r ∷ runs) h = let next = ascends (r.address + length r.bytes.now) end runs h.1 in omega (arith, next, h.0)

-- a run, or those after it
pub in_run : (fill : ℕ) (r : Run) (runs : List Run) (x : ℕ) (low high : Bool) → leb r.address x ≡ low → ltb x (r.address + length r.bytes.now) ≡ high
    → byte_at fill (r ∷ runs) x ≡ cond (low && high) (get_or r.bytes.now (x - r.address) 0) (byte_at fill runs x)
in_run fill r runs x low high e f = ap₂ (λ (a b : Bool). cond (a && b) (get_or r.bytes.now (x - r.address) 0) (byte_at fill runs x)) e f

-- below the first run there is fill
below : (from end fill : ℕ) (runs : List Run) (x : ℕ) → Ascend from end runs → x < from → byte_at fill runs x ≡ fill
below from end fill [] x h lt = refl
below from end fill (r ∷ runs) x h lt =
    in_run fill r runs x false (ltb x (r.address + length r.bytes.now)) (lt-leb r.address x (omega (arith, h.0))) refl
    ∙ below (r.address + length r.bytes.now) end fill runs x h.1 (omega (arith, h.0))

pub bytes_are : (from end fill : ℕ) (runs : List Run) → Ascend from end runs → AreBytesFrom from end fill runs (binary from end fill runs)
bytes_are from end fill [] h = record { size = length-replicate (end - from) fill; each = λ i lt. get_or-replicate (end - from) i fill 0 (omega arith) }
bytes_are from end fill (r ∷ runs) h =
    let gap : ℕ = r.address - from in
    let next : ℕ = r.address + length r.bytes.now in
    let filled : List ℕ = replicate gap fill in
    let others : List ℕ = binary next end fill runs in
    let rest = bytes_are next end fill runs h.1 in
    let high = ascends next end runs h.1 in
    let gap_size : length filled ≡ gap = length-replicate gap fill in
    let front_size : length (filled ++ r.bytes.now) ≡ gap + length r.bytes.now = length-append filled r.bytes.now ∙ ap (λ (n : ℕ). n + length r.bytes.now) gap_size in
    let first : from ≤ r.address = h.0 in
    let in_gap : (i : ℕ) → i < gap → get_or ((filled ++ r.bytes.now) ++ others) i 0 ≡ byte_at fill (r ∷ runs) (from + i) = λ i lt.
    get_or_append_left (filled ++ r.bytes.now) others 0 i (omega (arith, front_size)) ∙ get_or_append_left filled r.bytes.now 0 i (omega (arith, gap_size)) ∙ get_or-replicate gap i fill 0 lt
    ∙ sym (in_run fill r runs (from + i) false (ltb (from + i) next) (lt-leb r.address (from + i) (omega arith)) refl ∙ below next end fill runs (from + i) h.1 (omega arith)) in
    let in_bytes : (i : ℕ) → gap ≤ i → i < gap + length r.bytes.now → get_or ((filled ++ r.bytes.now) ++ others) i 0 ≡ byte_at fill (r ∷ runs) (from + i) = λ i le lt.
    let at : i - gap ≡ from + i - r.address = omega arith in
    get_or_append_left (filled ++ r.bytes.now) others 0 i (omega (arith, front_size)) ∙ get_or-append_right filled r.bytes.now gap i 0 gap_size le ∙ ap (λ (k : ℕ). get_or r.bytes.now k 0) at
    ∙ sym (in_run fill r runs (from + i) true true (le-leb r.address (from + i) (omega arith)) (lt-ltb (from + i) next (omega arith))) in
    let in_others : (i : ℕ) → gap + length r.bytes.now ≤ i → from + i < end → get_or ((filled ++ r.bytes.now) ++ others) i 0 ≡ byte_at fill (r ∷ runs) (from + i) = λ i le lt.
    let at : next + (i - (gap + length r.bytes.now)) ≡ from + i = omega arith in
    get_or-append_right (filled ++ r.bytes.now) others (gap + length r.bytes.now) i 0 front_size le ∙ rest.each (i - (gap + length r.bytes.now)) (omega arith) ∙ ap (byte_at fill runs) at
    ∙ sym (in_run fill r runs (from + i) true false (le-leb r.address (from + i) (omega arith)) (le-ltb (from + i) next (omega arith))) in
    record {
      size = length-append (filled ++ r.bytes.now) others ∙ omega (arith, front_size, rest.size);
      each = λ i lt. elim (leb_tells gap i) [
        | inl over ↦ elim (leb_tells (gap + length r.bytes.now) i) [ inl beyond ↦ in_others i beyond.1 lt | inr inside ↦ in_bytes i over.1 inside.1 ]
        | inr low ↦ in_gap i low.1
      ];
    }
