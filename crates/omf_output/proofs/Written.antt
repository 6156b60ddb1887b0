-- The bytes of a file, as they are appended.
use Rattle.std.proofs.Common.{Result, Ok, Err, ◌≡◌, ℕ, ◌+◌, ◌*◌, ◌-◌, ◌<◌, ◌≤◌, List, [], ◌∷◌, ◌++◌, Bool, true, false, cond, length, take, refl, sym, ◌∙◌, ap, ap₂, arith, length-append}
use Rattle.std.specs.Prelude.{All, Option, Some, None, find, flat_map, nat_lt, option_map, replicate, ◌^◌}
use Rattle.std.proofs.lemmas.Bool.{ltb-false}
use Rattle.std.proofs.lemmas.List.Elements.{All-nil, All-cons}
use Rattle.std.proofs.lemmas.Grind.{flat_map-append}
use Rattle.std.proofs.lemmas.List.{append_assoc, take_all}
use Rattle.byteorder.specs.Endian.{little_bytes}
use Rattle.omf_frame.specs.Bytes.{AddsText}
use Rattle.omf_output.specs.Exe.Exe.{CanBeWritten, Program, as_bytes, entry_of, exe, header, paragraphs}
use Rattle.omf_output.specs.Exe.FileFaults.{file_fault}
use Rattle.omf_output.specs.declared.exe.file.FileFault.{FileFault}
use Rattle.omf_output.specs.declared.exe.file.FileFault.TheVariants as fault
use Rattle.omf_output.proofs.FileLaws.{length-bytes, length-entries}

abbrev pub front_of : ℕ → Program → List ℕ
front_of most p = as_bytes (header most p ++ flat_map entry_of p.words)

pub front-made : (most : ℕ) (p : Program) (h words a b f : List ℕ) → a ≡ [] → h ≡ header most p → b ≡ a ++ as_bytes h → words ≡ p.words → f ≡ b ++ as_bytes (flat_map entry_of words) → f ≡ front_of most p
front-made most p h words a b f ea eh eb ew ef =
    ef
    ∙ ap₂ (λ x ws. x ++ as_bytes (flat_map entry_of ws)) (eb ∙ ap₂ (λ x y. x ++ as_bytes y) ea eh) ew
    ∙ sym (flat_map-append (little_bytes 2) (header most p) (flat_map entry_of p.words))

length-front : (most : ℕ) (p : Program) → length (front_of most p) ≡ 4 * length p.words + 28
length-front most p =
    let one = length-bytes (header most p ++ flat_map entry_of p.words) in
    let two = length-append (header most p) (flat_map entry_of p.words) in
    let three = length-entries p.words in
    omega (arith, one, two, three)

pub file-made : (most : ℕ) (p : Program) (n old : ℕ) (front padded image f : List ℕ) → front ≡ front_of most p → n ≡ 16 * paragraphs p → old ≡ length front → padded ≡ take n front ++ replicate (n - old) 0
    → image ≡ p.image → f ≡ padded ++ image → f ≡ exe most p
file-made most p n old front padded image f ef en eo ep ei e =
    let long : length (front_of most p) ≡ 4 * length p.words + 28 = length-front most p in
    let short : length (front_of most p) ≤ 16 * paragraphs p = omega (arith, long) in
    let gap : 16 * paragraphs p - length (front_of most p) ≡ 16 * paragraphs p - (4 * length p.words + 28) = ap (λ x. 16 * paragraphs p - x) long in
    e
    ∙ ap₂ (λ x i. x ++ i) (ep ∙ ap (λ o. take n front ++ replicate (n - o) 0) eo ∙ ap₂ (λ m x. take m x ++ replicate (m - length x) 0) en ef) ei
    ∙ ap₂ (λ x g. (x ++ replicate g 0) ++ p.image) (take_all (16 * paragraphs p) (front_of most p) short) gap
    ∙ append_assoc (front_of most p) (replicate (16 * paragraphs p - (4 * length p.words + 28)) 0) p.image

-- ---- a program without a fault can be written

none-outside : (len : ℕ) (words : List ℕ) → find (λ at. nat_lt len (at + 2)) words ≡ None → All (λ at. at + 2 ≤ len) words
none-outside len [] e = All-nil (λ at. at + 2 ≤ len)
none-outside len (w ∷ words) e = by (nat_lt len (w + 2)) refl e (none-outside len words)
  where
    by : (b : Bool) → nat_lt len (w + 2) ≡ b → cond b (Some w) (find (λ at. nat_lt len (at + 2)) words) ≡ None
        → (find (λ at. nat_lt len (at + 2)) words ≡ None → All (λ at. at + 2 ≤ len) words) → All (λ at. at + 2 ≤ len) (w ∷ words)
    by true f e rest = absurd cc
    by false f e rest = All-cons (λ at. at + 2 ≤ len) w words (ltb-false len (w + 2) f) (rest e)

abbrev outside : Program → Option FileFault
outside p = option_map fault.Outside (find (λ at. nat_lt (length p.image) (at + 2)) p.words)

pub writable : (p : Program) → (p.code.0 < 2 ^ 16) × (p.code.1 < 2 ^ 16) → (p.stack.0 < 2 ^ 16) × (p.stack.1 < 2 ^ 16) → file_fault p ≡ None → CanBeWritten p
writable p code stack e = many (nat_lt 65535 (length p.words)) refl e
  where
    inside : (o : Option ℕ) → option_map fault.Outside o ≡ None → o ≡ None
    inside None e = refl
    inside (Some at) e = absurd cc

    long : length p.words ≤ 65535 → (b : Bool) → nat_lt (2 ^ 20) (length p.image) ≡ b → cond b (Some fault.TooLong) (outside p) ≡ None → CanBeWritten p
    long few true f e = absurd cc
    long few false f e = record {
      few = omega (arith, few);
      short = ltb-false (2 ^ 20) (length p.image) f;
      inside = none-outside (length p.image) p.words (inside (find (λ at. nat_lt (length p.image) (at + 2)) p.words) e);
      code = code;
      stack = stack;
    }

    many : (b : Bool) → nat_lt 65535 (length p.words) ≡ b → cond b (Some fault.TooMany) (cond (nat_lt (2 ^ 20) (length p.image)) (Some fault.TooLong) (outside p)) ≡ None → CanBeWritten p
    many true f e = absurd cc
    many false f e = long (ltb-false 65535 (length p.words) f) (nat_lt (2 ^ 20) (length p.image)) refl e

-- A second part was written after the first.
pub both_written : {A E : Type 0} (r : Result A E) (old mid new a b : List ℕ) → mid ≡ old ++ a → AddsText r mid new b → AddsText r old new (a ++ b)
both_written (Ok x) old mid new a b first second = second ∙ ap (λ (t : List ℕ). t ++ b) first ∙ append_assoc old a b
both_written (Err e) old mid new a b first second = second
