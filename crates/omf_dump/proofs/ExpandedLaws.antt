-- The length of blocks, if they are not too long.
use Rattle.std.proofs.Common.{◌≡◌, ◌≤◌, ℕ, List, [], Bool, true, false, length, cond, refl, sym, ap, ◌∙◌}
use Rattle.std.specs.Prelude.{nat_le, Result}
use Rattle.std.proofs.lemmas.Bool.{le-leb}
use Rattle.omf_frame.specs.Fault.{Fault}
use Rattle.omf_frame.specs.Types.{width_bytes}
use Rattle.omf_frame.specs.declared.kinds.Width.{Width}
use Rattle.omf_image.specs.Inner.Expanding.{expanded_length}
use Rattle.omf_image.specs.Limits.{profile_limits}
use Rattle.omf_dump.specs.Contents.{expanded_if, length_if}
use Rattle.omf_dump.specs.Fields.{Field}

by_true : (b : Bool) (x y : List Field) → b ≡ true → cond b x y ≡ x
by_true true x y e = refl
by_true false x y e = absurd cc

by_false : (b : Bool) (x y : List Field) → b ≡ false → cond b x y ≡ y
by_false true x y e = absurd cc
by_false false x y e = refl

pub short_blocks : (width : Width) (blocks : List ℕ) (r : Result ℕ Fault) → length blocks ≤ 65534 → r ≡ expanded_length (width_bytes width) profile_limits blocks → length_if width r ≡ expanded_if width blocks
short_blocks width blocks r short is = ap (length_if width) is ∙ sym (by_true (nat_le (length blocks) 65534) _ [] (le-leb (length blocks) 65534 short))
