-- Paths with endings, and names of libraries.
use Rattle.std.proofs.Common.{◌≡◌, ◌<◌, ◌+◌, ◌-◌, ◌∙◌, ℕ, List, [], ◌∷◌, ◌++◌, length, get_or, take, drop, map, true, refl, suc, zero, ap, sym, codes, arith, Bor}
use Rattle.std.specs.Char.{to_ascii_lowercase}
use Rattle.std.specs.Str.{bytes_eq}
use Rattle.std.proofs.Math.Seq.{take-append_seam, drop-append_seam}
use Rattle.std.proofs.lemmas.List.{length-append, length-map, map-append}
use Rattle.std.proofs.lemmas.Slice.Eq.{bytes_eq-Decides}
use Rattle.omf_host.specs.Endings.{folded, is_with}

-- the path with the ending of a number is one with an ending from that number on
pub found_with : (front name : List ℕ) (endings : List (Bor (List ℕ))) (i : ℕ) (d : Bor (List ℕ)) (path : List ℕ) → i < length endings → path ≡ front ++ name ++ (get_or endings i d).now → is_with front name (map (λ e. e.now) (drop i endings)) path ≡ true
found_with front name [] i d path low same = absurd (omega arith)
found_with front name (e ∷ es) zero d path low same =
    let equal : bytes_eq path (front ++ name ++ e.now) ≡ true = (bytes_eq-Decides path (front ++ name ++ e.now)).1 same in
    rw equal refl
found_with front name (e ∷ es) (suc i) d path low same = found_with front name es i d path (omega arith) same

-- the parts of a name are without case what it is
pub parts_folded : (file front ending : List ℕ) → file ≡ front ++ ending → folded file ≡ folded front ++ folded ending
parts_folded file front ending same = ap folded same ∙ map-append to_ascii_lowercase front ending

-- a name that ends with four bytes has as many before them as the other one
pub fronts_long : (file front name four : List ℕ) → length four ≡ 4 → length front ≡ length file - 4 → folded file ≡ folded name ++ four → length (folded front) ≡ length (folded name)
fronts_long file front name four is_four long h =
    let whole : length (folded file) ≡ length file = length-map file to_ascii_lowercase in
    let own : length (folded front) ≡ length front = length-map front to_ascii_lowercase in
    let sum : length (folded file) ≡ length (folded name) + length four = ap length h ∙ length-append (folded name) four in
    omega arith

pub front_is : (file front ending name four : List ℕ) → file ≡ front ++ ending → length four ≡ 4 → length front ≡ length file - 4 → folded file ≡ folded name ++ four → folded front ≡ folded name
front_is file front ending name four same is_four long h =
    let n : length (folded front) ≡ length (folded name) = fronts_long file front name four is_four long h in
    let whole : folded front ++ folded ending ≡ folded name ++ four = sym (parts_folded file front ending same) ∙ h in
    sym (take-append_seam (folded front) (folded ending)) ∙ ap (λ (xs : List ℕ). take (length (folded front)) xs) whole ∙ ap (λ (k : ℕ). take k (folded name ++ four)) n ∙ take-append_seam (folded name) four

pub ending_is : (file front ending name four : List ℕ) → file ≡ front ++ ending → length four ≡ 4 → length front ≡ length file - 4 → folded file ≡ folded name ++ four → folded ending ≡ four
ending_is file front ending name four same is_four long h =
    let n : length (folded front) ≡ length (folded name) = fronts_long file front name four is_four long h in
    let whole : folded front ++ folded ending ≡ folded name ++ four = sym (parts_folded file front ending same) ∙ h in
    sym (drop-append_seam (folded front) (folded ending)) ∙ ap (λ (xs : List ℕ). drop (length (folded front)) xs) whole ∙ ap (λ (k : ℕ). drop k (folded name ++ four)) n ∙ drop-append_seam (folded name) four
