-- Worked examples: their verdict is right.
use Rattle.std.proofs.Common.{◌≡◌, ℕ, zero, suc, Bool, true, false, List, [], ◌∷◌, refl, arith}
use Rattle.std.specs.Prelude.{◌&&◌, nat_lt}
use Rattle.std.proofs.lemmas.Bool.{ltb-true}
use Rattle.omf_frame.specs.Bytes.{AreBytes}
use Rattle.omf_image.specs.Limits.{profile_limits}
use Rattle.omf_check.specs.Laws.{SaysSound}
use Rattle.omf_check.specs.Refusal.{AreSoundSoFar}
use Rattle.omf_check.specs.Rows.{any, verdict_of}
use Rattle.omf_check.proofs.SoundBytes.{sound_verdict}

abbrev pub are_bytes : List ℕ → Bool
are_bytes [] = true
are_bytes (b ∷ bytes) = nat_lt b 256 && are_bytes bytes

both : (x y : Bool) → x && y ≡ true → (x ≡ true) × (y ≡ true)
both true y h = (refl, h)
both false y h = absurd cc

small : (bytes : List ℕ) → are_bytes bytes ≡ true → AreBytes bytes
small [] h i = omega arith
small (b ∷ bytes) h zero = ltb-true b 256 (both (nat_lt b 256) (are_bytes bytes) h).0
small (b ∷ bytes) h (suc i) = small bytes (both (nat_lt b 256) (are_bytes bytes) h).1 i

pub sound : (bytes : List ℕ) → are_bytes bytes ≡ true → SaysSound bytes (verdict_of bytes) → AreSoundSoFar any profile_limits bytes
sound bytes b s = (sound_verdict any profile_limits bytes (small bytes b)).1 s

pub not_sound : (bytes : List ℕ) → are_bytes bytes ≡ true → (SaysSound bytes (verdict_of bytes) → ⊥) → AreSoundSoFar any profile_limits bytes → ⊥
not_sound bytes b n h = n ((sound_verdict any profile_limits bytes (small bytes b)).0 h)
