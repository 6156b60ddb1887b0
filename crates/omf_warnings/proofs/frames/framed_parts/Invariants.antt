use Rattle.std.proofs.Common.{◌≡◌, ◌++◌, drop}
use Rattle.std.specs.Prelude.{filter_map}
use Rattle.omf_warnings.specs.Frames.{framed_at}
use Rattle.omf_warnings.proofs.frames.framed_parts.Given as goal

-- the segments so far, and those that are left
abbrev pub invariant-loop-portion : goal.invariant-loop-portion
invariant-loop-portion l = l.parts.items ++ filter_map (framed_at l.placements) (drop l.portion-index l.portions) ≡ filter_map (framed_at l.placements) l.portions
