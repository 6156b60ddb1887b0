use Rattle.std.proofs.Common.{◌≡◌, drop}
use Rattle.std.specs.Prelude.{filter_map, slice_get}
use Rattle.omf_output.specs.Exe.Com.{part_fault}
use Rattle.omf_output.proofs.exe.com_parts.first_part.Given as goal

-- the first fault of the modules to come is the first of all
abbrev pub invariant-loop-member : goal.invariant-loop-member
invariant-loop-member l = slice_get (filter_map part_fault (drop l.member-index l.members)) 0 ≡ slice_get (filter_map part_fault l.members) 0
