-- The runs of an image and their bytes.
use Rattle.std.proofs.Common.{◌≡◌, ℕ, zero, suc, ◌+◌, ◌-◌, ◌<◌, List, [], ◌∷◌, ◌++◌, refl, sym, ap, ap₂, subst, ◌∙◌, arith, length, append_assoc, add-zero, Some}
use Rattle.std.specs.Prelude.{flat_map, map, drop, Option, slice_get}
use Rattle.std.specs.Option.{option_to_list}
use Rattle.std.specs.List.{range_with_len}
use Rattle.std.proofs.Math.Path.{fun_ext}
use Rattle.omf_image.specs.Inner.Joined.{runs_of}
use Rattle.omf_image.specs.Overlay.{Laid, byte_at, AreBytesOver, AreRuns}
use Rattle.omf_image.specs.declared.run.Run.{Run}
use Rattle.omf_image.proofs.RunLaws.{joined_are_runs, runs_unique}
use Rattle.omf_c.specs.Runs.{Shown, bytes_over, shown_of}

-- the bytes over an interval, from each of them
bytes_from : (byte : ℕ → Option ℕ) (first : ℕ) (bytes : List ℕ) → ((i : ℕ) → i < length bytes → byte (first + i) ≡ slice_get bytes i)
    → flat_map (λ x. option_to_list (byte x)) (range_with_len first (length bytes)) ≡ bytes
bytes_from byte first [] each = refl
bytes_from byte first (b ∷ bytes) each =
    let is : byte first ≡ Some b = subst (λ (x : ℕ). byte x ≡ Some b) (add-zero first) (each 0 (omega arith)) in
    let next : (i : ℕ) → i < length bytes → byte (first + 1 + i) ≡ slice_get bytes i = λ i lt. let e : first + suc i ≡ first + 1 + i = omega arith in subst (λ (x : ℕ). byte x ≡ slice_get bytes i) e (each (suc i) (omega arith)) in
    ap (λ (o : Option ℕ). option_to_list o ++ flat_map (λ x. option_to_list (byte x)) (range_with_len (first + 1) (length bytes))) is
    ∙ ap (λ (t : List ℕ). b ∷ t) (bytes_from byte (first + 1) bytes next)

-- the bytes of a run that is shown
pub bytes_are : (byte : ℕ → Option ℕ) (first : ℕ) (bytes : List ℕ) → AreBytesOver byte (record { first = first; len = length bytes }) bytes → bytes_over byte (record { first = first; len = length bytes }) ≡ bytes
bytes_are byte first bytes over = bytes_from byte first bytes over.each

-- the row of an item is there, and those of the items after it are to come
pub row_due : {A B : Type 0} (f : A → B) (x : A) (all left : List A) (now due : List B) → all ≡ x ∷ left → due ≡ now ++ f x ∷ [] → due ++ map f left ≡ now ++ map f all
row_due f x all left now due e is = ap (λ t. t ++ map f left) is ∙ append_assoc now (f x ∷ []) (map f left) ∙ ap (λ l. now ++ map f l) (sym e)

-- the segments after some of them
pub next_segment : (before count : ℕ) → before < count → range_with_len (before + 1) (count - before) ≡ (before + 1) ∷ range_with_len (before + 1 + 1) (count - (before + 1))
next_segment before count low =
    let left : count - before ≡ suc (count - (before + 1)) = omega arith in
    ap (range_with_len (before + 1)) left

-- what is shown of an image is what is shown of other pieces that give the same bytes
pub overlay_shown : (pieces laid : List Laid) (segments : ℕ) → ((s x : ℕ) → byte_at laid s x ≡ byte_at pieces s x) → shown_of segments (byte_at laid) (runs_of laid) ≡ shown_of segments (byte_at pieces) (runs_of pieces)
overlay_shown pieces laid segments same =
    let bytes : (s : ℕ) → byte_at laid s ≡ byte_at pieces s = λ s. fun_ext (λ x. same s x) in
    let runs : (s : ℕ) → runs_of laid s ≡ runs_of pieces s = λ s. runs_unique (byte_at pieces s) (runs_of laid s) (runs_of pieces s)
    (subst (λ (byte : ℕ → Option ℕ). AreRuns byte (runs_of laid s)) (bytes s) (joined_are_runs laid s)) (joined_are_runs pieces s) in
    ap₂ (λ (byte : ℕ → ℕ → Option ℕ) (of : ℕ → List Run). shown_of segments byte of) (fun_ext bytes) (fun_ext runs)
