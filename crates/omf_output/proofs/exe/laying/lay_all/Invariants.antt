use Rattle.std.proofs.Common.{◌≡◌, drop}
use Rattle.std.specs.Prelude.{fold}
use Rattle.omf_output.specs.Exe.Members.{all_moving}
use Rattle.omf_output.specs.Exe.Memory.{all_chunks, put}
use Rattle.omf_output.proofs.exe.laying.lay_all.Given as goal

-- the chunks of the modules to come, laid over what is there, give those of all
abbrev pub invariant-loop-member : goal.invariant-loop-member
invariant-loop-member l = fold (put 0) l.image (all_chunks (all_moving (drop l.member-index l.members))) ≡ fold (put 0) l.fn.image (all_chunks (all_moving l.members))
