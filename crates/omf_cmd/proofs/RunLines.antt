-- How the lines of a run are cut, and where runs stand.
use Rattle.std.proofs.Common.{◌≡◌, ℕ, ◌+◌, ◌-◌, ◌*◌, ◌/◌, ◌<◌, List, [], ◌∷◌, ◌++◌, length, take, drop, min, zero, suc, ◌⊎◌, inl, inr, refl, sym, ap, ap₂, subst, ◌∙◌, arith, append_assoc, zero-add, add-zero, Some}
use Rattle.std.specs.Prelude.{flat_map, Option, slice_get}
use Rattle.std.specs.Option.{option_to_list}
use Rattle.std.specs.List.{range_with_len}
use Rattle.std.proofs.Math.Seq.{drop-nil}
use Rattle.std.proofs.Math.Nat.{eq-or-lt_of_le}
use Rattle.std.proofs.lemmas.List.{append-nil, drop_min, length-take, length-drop, take_min}
use Rattle.omf_image.specs.Inner.Joined.{runs_of}
use Rattle.omf_image.specs.Overlay.{Laid, byte_at, AreBytesOver, AreRuns, IsRunShown}
use Rattle.omf_image.specs.declared.run.Run.{Run}
use Rattle.omf_image.proofs.RunLaws.{joined_are_runs, runs_unique}
use Rattle.omf_image.proofs.ShownLaws.{run_next}
use Rattle.std.proofs.Math.Path.{fun_ext}
use Rattle.omf_cmd.specs.Inner.Names.{bytes_line, byte_text}
use Rattle.omf_cmd.specs.Relocated.{image_text, run_lines}
use Rattle.omf_cmd.specs.Inner.RunLines.{line_text, lines_of}

-- ---- ranges

-- every number one higher
pub range_shifted : (f : ℕ → List ℕ) (a n : ℕ) → flat_map f (range_with_len (a + 1) n) ≡ flat_map (λ k. f (k + 1)) (range_with_len a n)
range_shifted f a zero = refl
range_shifted f a (suc n) = ap (λ (t : List ℕ). f (a + 1) ++ t) (range_shifted f (a + 1) n)

-- what is the same of each number
pub range_same : (f g : ℕ → List ℕ) (a n : ℕ) → ((k : ℕ) → k < n → f (a + k) ≡ g (a + k)) → flat_map f (range_with_len a n) ≡ flat_map g (range_with_len a n)
range_same f g a zero h = refl
range_same f g a (suc n) h =
    let first : f a ≡ g a = subst (λ (x : ℕ). f x ≡ g x) (add-zero a) (h 0 (omega arith)) in
    let next : (k : ℕ) → k < n → f (a + 1 + k) ≡ g (a + 1 + k) = λ k lt. let e : a + suc k ≡ a + 1 + k = omega arith in subst (λ (x : ℕ). f x ≡ g x) e (h (suc k) (omega arith)) in
    ap₂ (λ (s t : List ℕ). s ++ t) first (range_same f g (a + 1) n next)

-- ---- lists

get_drop : (m i : ℕ) (bs : List ℕ) → slice_get (drop m bs) i ≡ slice_get bs (m + i)
get_drop zero i bs = ap (slice_get bs) (sym (zero-add i))
get_drop (suc m) i [] = refl
get_drop (suc m) i (b ∷ bs) =
    let e : suc (m + i) ≡ suc m + i = omega arith in
    get_drop m i bs ∙ ap (slice_get (b ∷ bs)) e

get_take : (n i : ℕ) (bs : List ℕ) → i < n → slice_get (take n bs) i ≡ slice_get bs i
get_take zero i bs h = absurd (omega arith)
get_take (suc n) i [] h = refl
get_take (suc n) zero (b ∷ bs) h = refl
get_take (suc n) (suc i) (b ∷ bs) h = get_take n i bs (omega arith)

drop_drop : (n m : ℕ) (bs : List ℕ) → drop m (drop n bs) ≡ drop (n + m) bs
drop_drop zero m bs = ap (λ (k : ℕ). drop k bs) (sym (zero-add m))
drop_drop (suc n) m [] = drop-nil m ∙ sym (drop-nil (suc n + m))
drop_drop (suc n) m (b ∷ bs) =
    let e : suc (n + m) ≡ suc n + m = omega arith in
    drop_drop n m bs ∙ ap (λ (k : ℕ). drop k (b ∷ bs)) e

-- ---- lines

-- no bytes give no line
pub no_lines : (place : ℕ → List ℕ) (first : ℕ) (bytes : List ℕ) → length bytes ≡ 0 → lines_of place first bytes ≡ []
no_lines place first bytes e =
    let none : (length bytes + 15) / 16 ≡ 0 = omega arith in
    rw none refl

abbrev nth_line : (ℕ → List ℕ) → ℕ → List ℕ → ℕ → List ℕ
nth_line place first bytes k = line_text place (first + 16 * k) (take 16 (drop (16 * k) bytes))

later_line : (place : ℕ → List ℕ) (first : ℕ) (bytes : List ℕ) (k : ℕ) → nth_line place first bytes (k + 1) ≡ nth_line place (first + 16) (drop 16 bytes) k
later_line place first bytes k =
    let stands : first + 16 * (k + 1) ≡ first + 16 + 16 * k = omega arith in
    let at : 16 * (k + 1) ≡ 16 + 16 * k = omega arith in
    ap₂ (λ (x : ℕ) (bs : List ℕ). line_text place x (take 16 bs)) stands (ap (λ (n : ℕ). drop n bytes) at ∙ sym (drop_drop 16 (16 * k) bytes))

-- the first line, and then those of what is left
pub next_line : (place : ℕ → List ℕ) (first : ℕ) (bytes : List ℕ) → 0 < length bytes → lines_of place first bytes ≡ line_text place first (take 16 bytes) ++ lines_of place (first + 16) (drop 16 bytes)
next_line place first bytes some =
    let left = length-drop 16 bytes in
    let count : (length bytes + 15) / 16 ≡ suc ((length (drop 16 bytes) + 15) / 16) = omega arith in
    let n : ℕ = (length (drop 16 bytes) + 15) / 16 in
    let front : nth_line place first bytes 0 ≡ line_text place first (take 16 bytes) = ap (λ (x : ℕ). line_text place x (take 16 bytes)) (add-zero first) in
    let others : flat_map (nth_line place first bytes) (range_with_len (0 + 1) n) ≡ lines_of place (first + 16) (drop 16 bytes) =
    range_shifted (nth_line place first bytes) 0 n
    ∙ range_same (λ k. nth_line place first bytes (k + 1)) (nth_line place (first + 16) (drop 16 bytes)) 0 n (λ k _. later_line place first bytes (0 + k)) in
    ap (λ (m : ℕ). flat_map (nth_line place first bytes) (range_with_len 0 m)) count ∙ ap₂ (λ (s t : List ℕ). s ++ t) front others

-- without bytes it does not matter where the lines would begin
same_lines : (place : ℕ → List ℕ) (first offset : ℕ) (bytes : List ℕ) → (first ≡ offset) ⊎ (length bytes ≡ 0) → lines_of place first bytes ≡ lines_of place offset bytes
same_lines place first offset bytes (inl e) = ap (λ (x : ℕ). lines_of place x bytes) e
same_lines place first offset bytes (inr none) = no_lines place first bytes none ∙ sym (no_lines place offset bytes none)

full_or_last : (n size left : ℕ) → n ≡ min 16 size → left ≡ size - 16 → (offset : ℕ) → (n ≡ 16) ⊎ (n < 16) → (offset + n ≡ offset + 16) ⊎ (left ≡ 0)
full_or_last n size left is rest offset (inl full) = inl (ap (λ (k : ℕ). offset + k) full)
full_or_last n size left is rest offset (inr last) = inr (omega arith)

-- a line was printed, and the lines of what is left are still to come
pub line_printed : (place : ℕ → List ℕ) (offset n : ℕ) (rest front back old mid whole : List ℕ) → 0 < length rest → n ≡ min (length rest) 16 → front ≡ take n rest → back ≡ drop n rest
    → mid ≡ old ++ line_text place offset front → old ++ lines_of place offset rest ≡ whole → mid ++ lines_of place (offset + length front) back ≡ whole
line_printed place offset n rest front back old mid whole some size fronts backs printed before =
    let least : n ≡ min 16 (length rest) = omega arith in
    let front_is : front ≡ take 16 rest = fronts ∙ ap (λ (k : ℕ). take k rest) least ∙ take_min 16 rest in
    let back_is : back ≡ drop 16 rest = backs ∙ ap (λ (k : ℕ). drop k rest) least ∙ drop_min 16 rest in
    let long : length front ≡ min 16 (length rest) = ap length front_is ∙ length-take 16 rest in
    let left : length back ≡ length rest - 16 = ap length back_is ∙ length-drop 16 rest in
    let at : (length front ≡ 16) ⊎ (length front < 16) = eq-or-lt_of_le (omega arith) in
    let others : lines_of place (offset + length front) back ≡ lines_of place (offset + 16) (drop 16 rest) =
    same_lines place (offset + length front) (offset + 16) back (full_or_last (length front) (length rest) (length back) long left offset at) ∙ ap (lines_of place (offset + 16)) back_is in
    ap₂ (λ (s t : List ℕ). s ++ t) (printed ∙ ap (λ (t : List ℕ). old ++ line_text place offset t) front_is) others
    ∙ append_assoc old (line_text place offset (take 16 rest)) (lines_of place (offset + 16) (drop 16 rest))
    ∙ ap (λ (t : List ℕ). old ++ t) (sym (next_line place offset rest some)) ∙ before

-- the text of the bytes over an interval
bytes_shown : (byte : ℕ → Option ℕ) (first : ℕ) (bytes : List ℕ) → ((i : ℕ) → i < length bytes → byte (first + i) ≡ slice_get bytes i)
    → flat_map (λ x. flat_map byte_text (option_to_list (byte x))) (range_with_len first (length bytes)) ≡ flat_map byte_text bytes
bytes_shown byte first [] each = refl
bytes_shown byte first (b ∷ bytes) each =
    let is : byte first ≡ Some b = subst (λ (x : ℕ). byte x ≡ Some b) (add-zero first) (each 0 (omega arith)) in
    let next : (i : ℕ) → i < length bytes → byte (first + 1 + i) ≡ slice_get bytes i = λ i lt. let e : first + suc i ≡ first + 1 + i = omega arith in subst (λ (x : ℕ). byte x ≡ slice_get bytes i) e (each (suc i) (omega arith)) in
    ap (λ (o : Option ℕ). flat_map byte_text (option_to_list o) ++ flat_map (λ x. flat_map byte_text (option_to_list (byte x))) (range_with_len (first + 1) (length bytes))) is
    ∙ ap (λ (t : List ℕ). flat_map byte_text (b ∷ []) ++ t) (bytes_shown byte (first + 1) bytes next)
    ∙ ap (λ (t : List ℕ). t ++ flat_map byte_text bytes) (append-nil (byte_text b))

line_is : (place : ℕ → List ℕ) (byte : ℕ → Option ℕ) (first : ℕ) (bytes : List ℕ) → AreBytesOver byte (record { first = first; len = length bytes }) bytes
    → (k : ℕ) → bytes_line place byte (first + 16 * k) (min 16 (length bytes - 16 * k)) ≡ nth_line place first bytes k
line_is place byte first bytes over k =
    let shown : List ℕ = take 16 (drop (16 * k) bytes) in
    let left : length (drop (16 * k) bytes) ≡ length bytes - 16 * k = length-drop (16 * k) bytes in
    let size : length shown ≡ min 16 (length bytes - 16 * k) = length-take 16 (drop (16 * k) bytes) ∙ ap (min 16) left in
    let each : (i : ℕ) → i < length shown → byte (first + 16 * k + i) ≡ slice_get shown i = λ i lt.
    let stands : first + (16 * k + i) ≡ first + 16 * k + i = omega arith in
    let inside : 16 * k + i < length bytes = omega arith in
    ap byte (sym stands) ∙ over.each (16 * k + i) inside ∙ sym (get_drop (16 * k) i bytes) ∙ sym (get_take 16 i (drop (16 * k) bytes) (omega arith)) in
    ap (λ (n : ℕ). bytes_line place byte (first + 16 * k) n) (sym size)
    ∙ ap (λ (t : List ℕ). place (first + 16 * k) ++ t ++ 10 ∷ []) (bytes_shown byte (first + 16 * k) shown each)

-- the lines of a run are those of its bytes
pub run_lines_are : (place : ℕ → List ℕ) (byte : ℕ → Option ℕ) (first : ℕ) (bytes : List ℕ) → AreBytesOver byte (record { first = first; len = length bytes }) bytes
    → run_lines place byte (record { first = first; len = length bytes }) ≡ lines_of place first bytes
run_lines_are place byte first bytes over =
    range_same (λ k. bytes_line place byte (first + 16 * k) (min 16 (length bytes - 16 * k))) (nth_line place first bytes) 0 ((length bytes + 15) / 16) (λ k _. line_is place byte first bytes over (0 + k))

-- ---- runs

-- a run, and those after it
pub run_and_others : (laid : List Laid) (place : ℕ → List ℕ) (segment k first : ℕ) (bytes old : List ℕ) → IsRunShown (byte_at laid segment) k (Some (first, bytes))
    → (old ++ lines_of place first bytes) ++ flat_map (run_lines place (byte_at laid segment)) (drop (k + 1) (runs_of laid segment)) ≡ old ++ flat_map (run_lines place (byte_at laid segment)) (drop k (runs_of laid segment))
run_and_others laid place segment k first bytes old run =
    let shown : Run → List ℕ = run_lines place (byte_at laid segment) in
    let others : List ℕ = flat_map shown (drop (k + 1) (runs_of laid segment)) in
    append_assoc old (lines_of place first bytes) others ∙ ap (λ (t : List ℕ). old ++ (t ++ others)) (sym (run_lines_are place (byte_at laid segment) first bytes run.1))
    ∙ ap (λ (t : List Run). old ++ flat_map shown t) (sym (run_next laid segment k first bytes run))

-- a segment, and those after it
pub segment_and_others : (shown : ℕ → List ℕ) (before segments : ℕ) (old : List ℕ) → before < segments
    → (old ++ shown (before + 1)) ++ flat_map shown (range_with_len (before + 1 + 1) (segments - (before + 1))) ≡ old ++ flat_map shown (range_with_len (before + 1) (segments - before))
segment_and_others shown before segments old within =
    let left : segments - before ≡ suc (segments - (before + 1)) = omega arith in
    append_assoc old (shown (before + 1)) (flat_map shown (range_with_len (before + 1 + 1) (segments - (before + 1))))
    ∙ ap (λ (n : ℕ). old ++ flat_map shown (range_with_len (before + 1) n)) (sym left)

-- Images of the same bytes have the same text.
pub same_text : (pieces laid : List Laid) (segments : ℕ) (start : Option (ℕ × ℕ)) → ((s x : ℕ) → byte_at laid s x ≡ byte_at pieces s x)
    → image_text segments (byte_at laid) (runs_of laid) start ≡ image_text segments (byte_at pieces) (runs_of pieces) start
same_text pieces laid segments start same =
    let bytes : (s : ℕ) → byte_at laid s ≡ byte_at pieces s = λ s. fun_ext (λ x. same s x) in
    let runs : (s : ℕ) → runs_of laid s ≡ runs_of pieces s = λ s. runs_unique (byte_at pieces s) (runs_of laid s) (runs_of pieces s)
    (subst (λ (byte : ℕ → Option ℕ). AreRuns byte (runs_of laid s)) (bytes s) (joined_are_runs laid s)) (joined_are_runs pieces s) in
    ap₂ (λ (byte : ℕ → ℕ → Option ℕ) (of : ℕ → List Run). image_text segments byte of start) (fun_ext bytes) (fun_ext runs)
