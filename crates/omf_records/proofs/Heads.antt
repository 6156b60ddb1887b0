-- What is read of a subrecord, from its head and from what is read after it.
use Rattle.std.proofs.Common.{◌≡◌, ℕ, ◌+◌, ◌*◌, ◌<◌, ◌≤◌, Bool, true, false, cond, List, [], ◌∷◌, length, drop, Result, Ok, Err, refl, sym, ap, ap₂, ◌∙◌, arith}
use Rattle.std.specs.Prelude.{nat_lt, slice_index}
use Rattle.std.proofs.lemmas.Bool.{lt-ltb, le-ltb}
use Rattle.omf_frame.specs.Fault.{Fault}
use Rattle.omf_frame.specs.declared.fault.Reason.{Reason}
use Rattle.omf_records.specs.Inner.Names.{fixup, thread, wrong_head}
use Rattle.omf_records.specs.declared.here.Here.{Here}
use Rattle.omf_records.specs.Values.{Subrecord}
use Rattle.omf_records.specs.Entries.{wrong_thread, wrong_location}
use Rattle.omf_records.specs.Inner.EntryReaders.{thread_reader, fixup_reader, part_reader, subrecord_reader}
use Rattle.omf_records.specs.Inner.FieldReaders.{head_read}
use Rattle.omf_records.specs.Inner.Readers.{choose_reader, refuse_first}
use Rattle.omf_records.specs.Inner.Gives.{Gives}
use Rattle.omf_records.specs.Inner.Reads.{After, after, and_then, GivesFrom}

from_gives : (v w : Bool) (r : Result (Subrecord × Here) Fault) (a b : Result (After Subrecord) Fault) → v ≡ w → a ≡ b → Gives v r a
    → GivesFrom (λ (x : Here). x.within) (λ (x : Here). x.bytes.now) (λ (x : Here). x.wide) w r b
from_gives v w (Ok x) a b e q g = (sym q ∙ g.0, g.1 ∙ e)
from_gives v w (Err f) a b e q g = sym q ∙ g

-- the reading after a head that is not refused
after_head : (wide : Bool) (at : ℕ) (bs : List ℕ) (a : After ℕ) → head_read at bs ≡ Ok a → wrong_head a.value ≡ []
    → (subrecord_reader wide).read at bs ≡ (part_reader wide a.value).read a.within a.rest
after_head wide at bs a read none =
    ap (λ (r : Result (After ℕ) Fault). and_then (and_then r (λ x. refuse_first (wrong_head x.value) at x)) (λ x. (part_reader wide x.value).read x.within x.rest)) read
    ∙ ap (λ (rs : List Reason). and_then (refuse_first rs at a) (λ x. (part_reader wide x.value).read x.within x.rest)) none

thread_head : (wide : Bool) (at : ℕ) (bs : List ℕ) → 1 ≤ length bs → slice_index bs 0 < 128 → [] ≡ wrong_thread (slice_index bs 0)
    → (thread_reader (slice_index bs 0)).read (at + 1) (drop 1 bs) ≡ (subrecord_reader wide).read at bs
thread_head wide at [] some low none = absurd (omega (arith, some))
thread_head wide at (b ∷ rest) some low none =
    sym (after_head wide at (b ∷ rest) (after b (at + 1) rest) (head_low at b rest low) (wrong_low b (lt-ltb b 128 low) none) ∙ part_low wide b (at + 1) rest (lt-ltb b 128 low))
  where
    head_low : (at b : ℕ) (rest : List ℕ) → b < 128 → head_read at (b ∷ rest) ≡ Ok (after b (at + 1) rest)
    head_low at b [] low = rw (lt-ltb b 128 low) refl
    head_low at b (c ∷ rest) low = rw (lt-ltb b 128 low) refl

    wrong_low : (b : ℕ) → nat_lt b 128 ≡ true → [] ≡ wrong_thread b → wrong_head b ≡ []
    wrong_low b low none = ap (λ (t : Bool). cond t (wrong_thread b) (wrong_location b)) low ∙ sym none

    part_low : (wide : Bool) (b at : ℕ) (rest : List ℕ) → nat_lt b 128 ≡ true → (part_reader wide b).read at rest ≡ (thread_reader b).read at rest
    part_low wide b at rest low = ap (λ (t : Bool). (choose_reader (thread b) (fixup wide b) (thread_reader b) (fixup_reader wide b) t).read at rest) low

fixup_head : (wide : Bool) (at : ℕ) (bs : List ℕ) → 2 ≤ length bs → 128 ≤ slice_index bs 0 → [] ≡ wrong_location (slice_index bs 0 * 256 + slice_index bs 1)
    → (fixup_reader wide (slice_index bs 0 * 256 + slice_index bs 1)).read (at + 2) (drop 2 bs) ≡ (subrecord_reader wide).read at bs
fixup_head wide at [] some high none = absurd (omega (arith, some))
fixup_head wide at (b ∷ []) some high none = absurd (omega (arith, some))
fixup_head wide at (b ∷ c ∷ rest) some high none =
    let head : nat_lt (b * 256 + c) 128 ≡ false = le-ltb _ _ (omega (arith, high)) in
    sym (after_head wide at (b ∷ c ∷ rest) (after (b * 256 + c) (at + 2) rest) (head_high at b c rest high) (wrong_high (b * 256 + c) head none) ∙ part_high wide (b * 256 + c) (at + 2) rest head)
  where
    head_high : (at b c : ℕ) (rest : List ℕ) → 128 ≤ b → head_read at (b ∷ c ∷ rest) ≡ Ok (after (b * 256 + c) (at + 2) rest)
    head_high at b c rest high = rw (le-ltb b 128 high) refl

    wrong_high : (n : ℕ) → nat_lt n 128 ≡ false → [] ≡ wrong_location n → wrong_head n ≡ []
    wrong_high n high none = ap (λ (t : Bool). cond t (wrong_thread n) (wrong_location n)) high ∙ sym none

    part_high : (wide : Bool) (n at : ℕ) (rest : List ℕ) → nat_lt n 128 ≡ false → (part_reader wide n).read at rest ≡ (fixup_reader wide n).read at rest
    part_high wide n at rest high = ap (λ (t : Bool). (choose_reader (thread n) (fixup wide n) (thread_reader n) (fixup_reader wide n) t).read at rest) high

pub thread_gives : (h p : Here) (bytes : List ℕ) (n : ℕ) (r : Result (Subrecord × Here) Fault) → bytes ≡ h.bytes.now → 1 ≤ length bytes
    → slice_index bytes 0 < 128 → [] ≡ wrong_thread (slice_index bytes 0) → n ≡ slice_index bytes 0
    → p.within ≡ h.within + 1 → p.bytes.now ≡ drop 1 h.bytes.now → p.wide ≡ h.wide
    → Gives p.wide r ((thread_reader n).read p.within p.bytes.now)
    → GivesFrom (λ (x : Here). x.within) (λ (x : Here). x.bytes.now) (λ (x : Here). x.wide) h.wide r ((subrecord_reader h.wide).read h.within h.bytes.now)
thread_gives h p bytes n r same some low none is within rest wide g =
    from_gives p.wide h.wide r _ _ wide (
    ap (λ (m : ℕ). (thread_reader m).read p.within p.bytes.now) is
    ∙ ap₂ (λ (at : ℕ) (bs : List ℕ). (thread_reader (slice_index bytes 0)).read at bs) within (rest ∙ ap (drop 1) (sym same))
    ∙ thread_head h.wide h.within bytes some low none
    ∙ ap (λ (bs : List ℕ). (subrecord_reader h.wide).read h.within bs) same) g

pub fixup_gives : (h p : Here) (bytes : List ℕ) (b c n : ℕ) (r : Result (Subrecord × Here) Fault) → bytes ≡ h.bytes.now → 2 ≤ length bytes
    → 128 ≤ slice_index bytes 0 → b ≡ slice_index bytes 0 → c ≡ slice_index bytes 1 → [] ≡ wrong_location (b * 256 + c) → n ≡ b * 256 + c
    → p.within ≡ h.within + 2 → p.bytes.now ≡ drop 2 h.bytes.now → p.wide ≡ h.wide
    → Gives p.wide r ((fixup_reader p.wide n).read p.within p.bytes.now)
    → GivesFrom (λ (x : Here). x.within) (λ (x : Here). x.bytes.now) (λ (x : Here). x.wide) h.wide r ((subrecord_reader h.wide).read h.within h.bytes.now)
fixup_gives h p bytes b c n r same some high first second none is within rest wide g =
    let number : b * 256 + c ≡ slice_index bytes 0 * 256 + slice_index bytes 1 = ap₂ (λ x y. x * 256 + y) first second in
    from_gives p.wide h.wide r _ _ wide (
    ap₂ (λ (w : Bool) (m : ℕ). (fixup_reader w m).read p.within p.bytes.now) wide (is ∙ number)
    ∙ ap₂ (λ (at : ℕ) (bs : List ℕ). (fixup_reader h.wide (slice_index bytes 0 * 256 + slice_index bytes 1)).read at bs) within (rest ∙ ap (drop 2) (sym same))
    ∙ fixup_head h.wide h.within bytes some high (none ∙ ap wrong_location number)
    ∙ ap (λ (bs : List ℕ). (subrecord_reader h.wide).read h.within bs) same) g
