-- Names of different lengths are not one.
use Rattle.std.proofs.Common.{◌≡◌, ◌≢◌, ℕ, suc, Bool, false, List, [], ◌∷◌, length, refl, ap, ◌∙◌}
use Rattle.std.specs.Prelude.{◌&&◌, ◌==◌}
use Rattle.std.proofs.Math.Bool.{and-false}
use Rattle.omf_library.specs.Dictionary.{folded, is_same_name}

pub other_length : (sensitive : Bool) (xs ys : List ℕ) → length xs ≢ length ys → is_same_name sensitive xs ys ≡ false
other_length sensitive [] [] h = absurd (h refl)
other_length sensitive [] (d ∷ ds) h = refl
other_length sensitive (c ∷ cs) [] h = refl
other_length sensitive (c ∷ cs) (d ∷ ds) h =
    let rest = other_length sensitive cs ds (λ e. h (ap suc e)) in
    ap (λ b. (folded sensitive c == folded sensitive d) && b) rest ∙ and-false (folded sensitive c == folded sensitive d)
