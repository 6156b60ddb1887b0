use Rattle.std.proofs.Common.{◌≡◌, ◌+◌, ◌++◌, false, drop}
use Rattle.omf_check.specs.Module.{records_in}
use Rattle.omf_check.specs.WellFormed.{recs}
use Rattle.omf_placement.proofs.ResolvingLaws.{frames_in, lines_in}
use Rattle.omf_placement.proofs.text.group_frames.Given as goal

-- the frames so far and the remaining ones are all, unless memory ran out; no line so far is at fault
abbrev pub invariant-loop-i : goal.invariant-loop-i
invariant-loop-i l = let m = recs (records_in l.«module».bytes) in record {
  found : l.is_short ≡ false → l.frames.items ++ frames_in m l.segments (l.i + 1) (drop l.i l.groups) ≡ frames_in m l.segments 1 l.groups;
  sound : lines_in m l.segments (l.i + 1) (drop l.i l.groups) ≡ lines_in m l.segments 1 l.groups;
}
