-- What pieces are: their bytes, and where they lie.
use Rattle.std.proofs.Common.{◌≡◌, ℕ, zero, suc, ◌+◌, ◌/◌, ◌%◌, ◌<◌, ◌≤◌, List, [], ◌∷◌, ◌++◌, length, take, drop, refl, ap, ap₂, ◌∙◌, arith, add-zero}
use Rattle.std.specs.Prelude.{flat_map}
use Rattle.std.proofs.lemmas.Grind.{flat_map-append}
use Rattle.std.proofs.lemmas.List.{length-drop, length-take}
use Rattle.omf_output.specs.declared.rom.run.Run.{Run}
use Rattle.omf_output.specs.Rom.Cut.{room, first_pieces, pieces, pieces_of}
use Rattle.omf_frame.specs.Bytes.{AreBytes}
use Rattle.omf_output.specs.Rom.Runs.{placed, memory, AreBelow, HaveBytes}

-- a piece within the 16 addresses of a block, below an end
pub record IsPiece (end : ℕ) (p : ℕ × List ℕ) : Type 0 where
  pub within : p.0 % 16 + length p.1 ≤ 16
  pub below : p.0 + length p.1 ≤ end
  pub some : 0 < length p.1
  pub bytes : AreBytes p.1

-- each element, one after another
abbrev pub Every : ((ℕ × List ℕ) → Type 0) → List (ℕ × List ℕ) → Type 0
Every P [] = Unit {0}
Every P (x ∷ xs) = P x × Every P xs

-- the bytes of pieces
abbrev pub said : List (ℕ × List ℕ) → List (ℕ × ℕ)
said ps = flat_map (λ p. placed p.0 p.1) ps

placed_split : (k a : ℕ) (bs : List ℕ) → placed a (take k bs) ++ placed (a + k) (drop k bs) ≡ placed a bs
placed_split zero a bs = ap (λ (x : ℕ). placed x bs) (add-zero a)
placed_split (suc k) a [] = refl
placed_split (suc k) a (b ∷ bs) =
    let e : a + suc k ≡ a + 1 + k = omega arith in
    ap (λ (x : ℕ). (a, b) ∷ (placed (a + 1) (take k bs) ++ placed x (drop k bs))) e ∙ ap (λ (t : List (ℕ × ℕ)). (a, b) ∷ t) (placed_split k (a + 1) bs)

first_said : (n a : ℕ) (bs : List ℕ) → (a % 16 + length bs + 15) / 16 ≤ n → said (first_pieces n a bs) ≡ placed a bs
first_said zero a [] h = refl
first_said zero a (b ∷ bs) h = absurd (omega arith)
first_said (suc n) a [] h = refl
first_said (suc n) a (b ∷ bs) h =
    let left = length-drop (room a) (b ∷ bs) in
    let fits : ((a + room a) % 16 + length (drop (room a) (b ∷ bs)) + 15) / 16 ≤ n = omega (arith, left) in
    ap (λ (t : List (ℕ × ℕ)). placed a (take (room a) (b ∷ bs)) ++ t) (first_said n (a + room a) (drop (room a) (b ∷ bs)) fits) ∙ placed_split (room a) a (b ∷ bs)

-- the pieces of a run have its bytes
pieces_said : (a : ℕ) (bs : List ℕ) → said (pieces a bs) ≡ placed a bs
pieces_said a bs = first_said ((a % 16 + length bs + 15) / 16) a bs (omega arith)

-- and those of runs theirs
pub all_said : (runs : List Run) → said (pieces_of runs) ≡ memory runs
all_said [] = refl
all_said (r ∷ runs) =
    flat_map-append (λ (p : ℕ × List ℕ). placed p.0 p.1) (pieces r.address r.bytes.now) (pieces_of runs)
    ∙ ap₂ (λ (s t : List (ℕ × ℕ)). s ++ t) (pieces_said r.address r.bytes.now) (all_said runs)

taken : (k : ℕ) (bs : List ℕ) → AreBytes bs → AreBytes (take k bs)
taken zero bs h i = omega arith
taken (suc k) [] h i = omega arith
taken (suc k) (b ∷ bs) h zero = h 0
taken (suc k) (b ∷ bs) h (suc i) = taken k bs (λ j. h (suc j)) i

dropped : (k : ℕ) (bs : List ℕ) → AreBytes bs → AreBytes (drop k bs)
dropped zero bs h = h
dropped (suc k) [] h = h
dropped (suc k) (b ∷ bs) h = dropped k bs (λ j. h (suc j))

first_sound : (n a end : ℕ) (bs : List ℕ) → AreBytes bs → (0 < length bs → a + length bs ≤ end) → Every (IsPiece end) (first_pieces n a bs)
first_sound zero a end bs are h = tt
first_sound (suc n) a end [] are h = tt
first_sound (suc n) a end (b ∷ bs) are h =
    let size = length-take (room a) (b ∷ bs) in
    let left = length-drop (room a) (b ∷ bs) in
    let high : a + length (b ∷ bs) ≤ end = h (omega arith) in
    let piece : IsPiece end (a, take (room a) (b ∷ bs)) = record { within = omega (arith, size); below = omega (arith, size, high); some = omega (arith, size); bytes = taken (room a) (b ∷ bs) are } in
    (piece, first_sound n (a + room a) end (drop (room a) (b ∷ bs)) (dropped (room a) (b ∷ bs) are) (λ some. omega (arith, left, high)))

all_joined : (P : (ℕ × List ℕ) → Type 0) (xs ys : List (ℕ × List ℕ)) → Every P xs → Every P ys → Every P (xs ++ ys)
all_joined P [] ys h k = k
all_joined P (x ∷ xs) ys h k = (h.0, all_joined P xs ys h.1 k)

-- the pieces of runs below an end are sound
pub all_sound : (end : ℕ) (runs : List Run) → AreBelow end runs → HaveBytes runs → Every (IsPiece end) (pieces_of runs)
all_sound end [] h are = tt
all_sound end (r ∷ runs) h are =
    all_joined (IsPiece end) (pieces r.address r.bytes.now) (pieces_of runs) (first_sound _ r.address end r.bytes.now (are 0 r (omega arith)) (λ _. h 0 r (omega arith))) (all_sound end runs (λ k d lt. h (suc k) d (omega arith)) (λ k d lt. are (suc k) d (omega arith)))
