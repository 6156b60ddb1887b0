-- Numbers that are added in bytes: twice at one place, and at places apart.
use Rattle.std.proofs.Common.{◌≡◌, ◌⊎◌, ℕ, ◌+◌, ◌<◌, ◌≤◌, List, [], ◌++◌, length, take, drop, sym, ◌∙◌, ap, ap₂, subst, arith}
use Rattle.std.specs.Prelude.{◌%◌, ◌^◌}
use Rattle.std.proofs.lemmas.List.{append_assoc, take_at, drop_at, drop-drop}
use Rattle.byteorder.specs.Endian.{little_number, little_bytes}
use Rattle.byteorder.specs.Numbers.{length-bytes_low_first, little_from-append, little_number-reads_back}
use Rattle.omf_image.specs.Inner.Names.{sum_bytes}
use Rattle.omf_image.specs.Parts.{add_part}
use Rattle.omf_output.proofs.ChangeLaws.{IsChange, changes-apart, front_of, number_of, back_of, split, length-front, length-number, length-change}

length-sum : (n : ℕ) (x : List ℕ) (v : ℕ) → length (sum_bytes n x v) ≡ n
length-sum n x v = length-bytes_low_first 0 n _

-- The bytes of the number alone give way.
add-at : (a x c : List ℕ) (pos n v : ℕ) → length a ≡ pos → length x ≡ n
    → add_part (a ++ (x ++ c)) pos n v ≡ a ++ (sum_bytes n x v ++ c)
add-at a x c pos n v e f =
    let l = a ++ (x ++ c) in
    let front : take pos l ≡ a = take_at a (x ++ c) pos e in
    let behind : drop pos l ≡ x ++ c = drop_at a (x ++ c) pos e in
    let back : drop (pos + n) l ≡ c = sym (drop-drop n pos l) ∙ ap (drop n) behind ∙ drop_at x c n f in
    let number : sum_bytes n (drop pos l) v ≡ sum_bytes n x v =
    ap (λ y. sum_bytes n y v) behind ∙ ap (λ y. little_bytes n ((y + v) % 256 ^ n)) (little_from-append n x c (omega (arith, f))) in
    ap₂ (λ y z. y ++ z) (ap₂ (λ y z. y ++ z) front number) back ∙ append_assoc a (sum_bytes n x v) c

pub adding : (pos n v : ℕ) → IsChange (λ l. add_part l pos n v) (λ x. sum_bytes n x v) pos n
adding pos n v = record { at = λ a x c e f. add-at a x c pos n v e f; long = λ x e. length-sum n x v }

-- A part that is inside keeps the length.
pub length-add : (bytes : List ℕ) (pos n v : ℕ) → pos + n ≤ length bytes → length (add_part bytes pos n v) ≡ length bytes
length-add bytes pos n v h = length-change (λ l. add_part l pos n v) (λ x. sum_bytes n x v) pos n (adding pos n v) bytes h

-- A word that is added to twice.
twice-word : (x : List ℕ) (v k : ℕ) → sum_bytes 2 (sum_bytes 2 x v) k ≡ sum_bytes 2 x (v + k)
twice-word x v k =
    let m = (little_number 2 x + v) % 65536 in
    let low : m < 65536 = omega arith in
    let back : little_number 2 (sum_bytes 2 x v) ≡ m = little_number-reads_back 2 m [] low in
    let same : (m + k) % 65536 ≡ (little_number 2 x + (v + k)) % 65536 = omega arith in
    ap (λ y. little_bytes 2 ((y + k) % 65536)) back ∙ ap (little_bytes 2) same

pub add-twice : (bytes : List ℕ) (pos v k : ℕ) → pos + 2 ≤ length bytes
    → add_part bytes pos 2 (v + k) ≡ add_part (add_part bytes pos 2 v) pos 2 k
add-twice bytes pos v k h =
    let a = front_of bytes pos in
    let x = number_of bytes pos 2 in
    let c = back_of bytes pos 2 in
    let la : length a ≡ pos = length-front bytes pos 2 h in
    let lx : length x ≡ 2 = length-number bytes pos 2 h in
    subst (λ l. add_part l pos 2 (v + k) ≡ add_part (add_part l pos 2 v) pos 2 k) (sym (split bytes pos 2))
    (add-at a x c pos 2 (v + k) la lx
    ∙ ap (λ y. a ++ (y ++ c)) (sym (twice-word x v k))
    ∙ sym (ap (λ l. add_part l pos 2 k) (add-at a x c pos 2 v la lx) ∙ add-at a (sum_bytes 2 x v) c pos 2 k la (length-sum 2 x v)))

-- Numbers at places apart are added in either order.
pub add-apart : (bytes : List ℕ) (pos other p q v w : ℕ) → pos + p ≤ length bytes → other + q ≤ length bytes
    → (pos + p ≤ other) ⊎ (other + q ≤ pos) → add_part (add_part bytes pos p v) other q w ≡ add_part (add_part bytes other q w) pos p v
add-apart bytes pos other p q v w g h away =
    changes-apart (λ l. add_part l pos p v) (λ x. sum_bytes p x v) (λ l. add_part l other q w) (λ x. sum_bytes q x w)
    pos p other q (adding pos p v) (adding other q w) bytes g h away
