use Rattle.std.proofs.Common.{◌≡◌, drop}
use Rattle.std.specs.List.{last_or}
use Rattle.omf_frame.specs.Bytes.{last}
use Rattle.omf_combining.proofs.stack.last_of.Given as goal

-- the last of those that are left, or else the last so far, is that of all
abbrev pub invariant-loop-part : goal.invariant-loop-part
invariant-loop-part l = last_or l.last (drop l.part-index l.parts) ≡ last l.parts
