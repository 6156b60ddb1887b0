use Rattle.std.proofs.Common.{◌≡◌, ℕ, List, [], drop}
use Rattle.omf_output.specs.Exe.Linked.{words_from}
use Rattle.omf_output.specs.Exe.Members.{all_moving}
use Rattle.omf_output.specs.Exe.Overlaps.{AddInTurn}
use Rattle.omf_output.proofs.exe.link.words_of.Given as goal

-- the words so far and the modules to come give the words of all
abbrev pub invariant-loop-member : goal.invariant-loop-member
invariant-loop-member l = record {
  found : words_from (drop l.member-index l.members) l.words ≡ words_from l.members [];
  adds : (out : List ℕ) → AddInTurn (all_moving (drop l.member-index l.members)) l.words out → AddInTurn (all_moving l.members) [] out;
}
