-- Records that this profile reads name no frame by its number.
use Rattle.std.proofs.Common.{◌≡◌, ◌∙◌, suc, Bool, true, false, cond, List, [], ◌∷◌, ◌++◌, refl, ap, arith}
use Rattle.std.specs.Prelude.{All, flat_map, ◌&&◌, not}
use Rattle.omf_frame.specs.Framing.{Raw}
use Rattle.omf_explicit.specs.Explicit.{is_read, numbers, numbers_in, numbers_of, parts_read}

quiet : (a b c : Bool) → c ≡ true → (a && (b && not c)) ≡ false
quiet true true true e = refl
quiet true true false e = absurd cc
quiet true false c e = refl
quiet false b c e = refl

reads_none : (r : Raw) → is_read r ≡ true → numbers_of r ≡ []
reads_none r e = ap (λ b. flat_map (λ p. numbers_in p.item) (cond b (parts_read r) [])) (quiet _ _ (is_read r) e)

pub read_none : (rs : List Raw) → All (λ r. is_read r ≡ true) rs → numbers rs ≡ []
read_none [] all = refl
read_none (r ∷ rs) all =
    let first : is_read r ≡ true = all 0 r (omega arith) in
    let others = read_none rs (λ k d low. all (suc k) d (omega arith)) in
    ap (λ ns. ns ++ numbers rs) (reads_none r first) ∙ others
