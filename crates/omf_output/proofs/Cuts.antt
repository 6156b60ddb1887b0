-- Pieces of a run, one after another.
use Rattle.std.proofs.Common.{◌≡◌, ℕ, zero, suc, ◌+◌, ◌/◌, ◌%◌, ◌<◌, List, [], ◌∷◌, ◌++◌, length, take, drop, refl, ap, ap₂, sym, ◌∙◌, arith}
use Rattle.std.proofs.lemmas.List.{length-drop}
use Rattle.omf_output.specs.Rom.Cut.{room, first_pieces, pieces}

none_first : (n address : ℕ) → first_pieces n address [] ≡ []
none_first zero address = refl
none_first (suc n) address = refl

-- no bytes have no pieces
pub no_pieces : (address : ℕ) (bytes : List ℕ) → length bytes ≡ 0 → pieces address bytes ≡ []
no_pieces address [] e = none_first _ address
no_pieces address (b ∷ bytes) e = absurd (omega arith)

-- a piece, and those of what is left
pub next_piece : (address : ℕ) (bytes : List ℕ) → 0 < length bytes
    → pieces address bytes ≡ (address, take (room address) bytes) ∷ pieces (address + room address) (drop (room address) bytes)
next_piece address [] h = absurd (omega arith)
next_piece address (b ∷ bytes) h =
    let left = length-drop (room address) (b ∷ bytes) in
    let count : (address % 16 + length (b ∷ bytes) + 15) / 16 ≡ suc (((address + room address) % 16 + length (drop (room address) (b ∷ bytes)) + 15) / 16) = omega (arith, left) in
    ap (λ (n : ℕ). first_pieces n address (b ∷ bytes)) count

-- a piece was written, and those of what is left are still to come
pub went_on : (before after whole : List (ℕ × List ℕ) → List ℕ) (address : ℕ) (rest piece others : List ℕ) → 0 < length rest → piece ≡ take (room address) rest → others ≡ drop (room address) rest
    → ((later : List (ℕ × List ℕ)) → after later ≡ before ((address, piece) ∷ later)) → ((later : List (ℕ × List ℕ)) → before (pieces address rest ++ later) ≡ whole later)
    → (later : List (ℕ × List ℕ)) → after (pieces (address + room address) others ++ later) ≡ whole later
went_on before after whole address rest piece others some fronts backs written held later =
    let next : (address, piece) ∷ pieces (address + room address) others ≡ pieces address rest =
    ap₂ (λ (p o : List ℕ). (address, p) ∷ pieces (address + room address) o) fronts backs ∙ sym (next_piece address rest some) in
    written (pieces (address + room address) others ++ later) ∙ ap (λ (ps : List (ℕ × List ℕ)). before (ps ++ later)) next ∙ held later

-- nothing is left
pub all_written : (before whole : List (ℕ × List ℕ) → List ℕ) (address : ℕ) (rest : List ℕ) → length rest ≡ 0
    → ((later : List (ℕ × List ℕ)) → before (pieces address rest ++ later) ≡ whole later) → (later : List (ℕ × List ℕ)) → before later ≡ whole later
all_written before whole address rest none held later = ap (λ (ps : List (ℕ × List ℕ)). before (ps ++ later)) (sym (no_pieces address rest none)) ∙ held later
