-- The modules of a program without what nothing refers to of the segments that may be left out (this profile's rule).
use Rattle.std.specs.Prelude.{◌≡◌, Bool, true, false, List}
use Rattle.omf_check.specs.Module.{Module, typed_modules}
use Rattle.omf_trimming.specs.Reaching.{AreWithoutUnreached, has_optional}
use Rattle.omf_trimming.specs.declared.optional.LeftOut.{LeftOut}
use Rattle.omf_trimming.specs.declared.without.LeftPublics.{LeftPublics}

-- Modules stay as they are where no segment of theirs may be left out.
abbrev pub AreTrimmedIf : Bool → LeftPublics → LeftOut → List Module → List Module → Type 0
AreTrimmedIf false publics o ms out = out ≡ ms
AreTrimmedIf true publics o ms out = AreWithoutUnreached publics o ms out

abbrev pub AreTrimmed : LeftPublics → LeftOut → List Module → List Module → Type 0
AreTrimmed publics o ms out = AreTrimmedIf (has_optional o (typed_modules ms)) publics o ms out
