-- What is found is allowed (this profile's rule).
use Rattle.std.specs.Prelude.{Bool}
use Rattle.omf_warnings.specs.declared.allowed.Allowed.{Allowed}
use Rattle.omf_warnings.specs.declared.finding.Finding.{Finding as Found}
use Rattle.omf_warnings.specs.declared.finding.Finding.TheVariants.{Overlap, Align, Group, Frames, Selector, Near}

-- What is found is of a kind that is allowed.
abbrev pub is_allowed : Allowed → Found → Bool
is_allowed a (Overlap first second) = a.overlap
is_allowed a (Align o address n) = a.align
is_allowed a (Group far) = a.group
is_allowed a (Frames first other) = a.frame
is_allowed a (Selector framed) = a.frame
is_allowed a (Near stray) = a.near
