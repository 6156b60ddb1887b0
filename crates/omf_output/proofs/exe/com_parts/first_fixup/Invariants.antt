use Rattle.std.proofs.Common.{◌≡◌}
use Rattle.std.specs.Prelude.{filter_map, slice_get}
use Rattle.omf_output.specs.Exe.Com.{first_fixup, piece_fault}
use Rattle.omf_output.specs.Exe.Linked.{placed}
use Rattle.omf_output.proofs.exe.com_parts.first_fixup.Given as goal

-- the first fault of the pieces to come is the first of all
abbrev pub invariant-loop-located : goal.invariant-loop-located
invariant-loop-located l = slice_get (filter_map (piece_fault l.member) l.located-iterator) 0 ≡ first_fixup l.member (placed l.member)
