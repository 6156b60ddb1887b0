-- Laws of the definitions, each the contract of a function of the same name.
use Rattle.std.specs.Prelude.{◌≡◌, List, All, false, true}
use Rattle.omf_frame.specs.Framing.{Raw}
use Rattle.omf_explicit.specs.Explicit.{is_read}
use Rattle.omf_aligned.specs.Aligned.{gets_pages}

-- Records that this profile reads have no segment with A = 6 or 7.
abbrev pub ReadStay : Type 0
ReadStay = (rs : List Raw) → All (λ r. is_read r ≡ true) rs → gets_pages rs ≡ false
