use Rattle.std.proofs.Common.{◌≡◌, ◌++◌, drop}
use Rattle.std.specs.Prelude.{map}
use Rattle.omf_layout.specs.Several.Placing.{at_frame}
use Rattle.omf_layout.proofs.several.groups.frame_starts.Given as goal

-- the starts so far, and those of the places that are left
abbrev pub invariant-loop-place : goal.invariant-loop-place
invariant-loop-place l = l.starts.items ++ map at_frame (drop l.place-index l.places) ≡ map at_frame l.places
