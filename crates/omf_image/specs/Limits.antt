-- The limits of this profile on repeated blocks.
use Rattle.omf_image.specs.declared.limits.Limits.{Limits}

abbrev pub profile_limits : Limits
profile_limits = record { nesting = 64; expanded = 268435456 }
