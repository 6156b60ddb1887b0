use Rattle.std.proofs.Common.{◌≡◌, drop}
use Rattle.std.specs.Prelude.{find, map, option_map}
use Rattle.omf_layout.specs.Several.Portions.{with_names}
use Rattle.omf_combining.specs.Classes.{begins}
use Rattle.omf_combining.proofs.classes.first_in.Given as goal

-- none so far, so the first of those that are left
abbrev pub invariant-loop-segment : goal.invariant-loop-segment
invariant-loop-segment l = find (begins l.class) (map with_names (drop l.segment-index l.segments)) ≡ find (begins l.class) (map with_names l.segments)
