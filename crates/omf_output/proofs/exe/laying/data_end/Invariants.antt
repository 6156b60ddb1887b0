use Rattle.std.proofs.Common.{◌≡◌, drop, max, take}
use Rattle.std.specs.Prelude.{All, fold, map}
use Rattle.omf_output.specs.Exe.Based.{Holds}
use Rattle.omf_output.specs.Exe.Members.{all_moving}
use Rattle.omf_output.specs.Exe.Memory.{all_chunks, chunk_end}
use Rattle.omf_output.proofs.exe.laying.data_end.Given as goal

-- the end so far with those of the modules to come is that of all
abbrev pub invariant-loop-member : goal.invariant-loop-member
invariant-loop-member l = record {
  same : fold max l.end (map chunk_end (all_chunks (all_moving (drop l.member-index l.members)))) ≡ fold max 0 (map chunk_end (all_chunks (all_moving l.members)));
  hold : All Holds (take l.member-index l.members);
}
