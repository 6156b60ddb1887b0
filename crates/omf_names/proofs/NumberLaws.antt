-- The number of a name, byte by byte.
use Rattle.std.proofs.Common.{◌≡◌, ◌≤◌, ◌<◌, ◌+◌, ℕ, suc, List, drop, length, get_or, refl, sym, ap, ◌∙◌, arith}
use Rattle.std.proofs.Math.ListN.{drop_of_length-le}
use Rattle.std.proofs.Math.Seq.{drop-cons}
use Rattle.omf_names.specs.Names.{name_number, next_number, number_from}

pub begins : (xs : List ℕ) → number_from 0 (drop 0 xs) ≡ name_number xs
unfolding name_number
begins xs = refl

pub goes_on : (xs : List ℕ) (i n : ℕ) → i < length xs → number_from (next_number n (get_or xs i 0)) (drop (i + 1) xs) ≡ number_from n (drop i xs)
unfolding number_from
goes_on xs i n h =
    let next : i + 1 ≡ suc i = omega arith in
    ap (λ k. number_from (next_number n (get_or xs i 0)) (drop k xs)) next ∙ ap (number_from n) (sym (drop-cons xs i 0 h))

pub ends : (xs : List ℕ) (i n : ℕ) → length xs ≤ i → number_from n (drop i xs) ≡ n
unfolding number_from
ends xs i n h = ap (number_from n) (drop_of_length-le xs h)
