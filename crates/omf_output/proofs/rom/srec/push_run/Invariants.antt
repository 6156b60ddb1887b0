use Rattle.std.proofs.Common.{◌≡◌, ◌+◌, ◌^◌, ◌<◌, ◌≤◌, ◌++◌, ℕ, List, length}
use Rattle.omf_output.specs.Rom.Cut.{pieces}
use Rattle.omf_output.specs.Rom.Motorola.{limit, s_lines}
use Rattle.omf_output.proofs.rom.srec.push_run.Given as goal

-- the pieces of what is left are still to be written
abbrev pub invariant-loop-rest : goal.invariant-loop-rest
invariant-loop-rest l = record {
  low : l.address ≤ 2 ^ 33;
  below : 0 < length l.rest → l.address + length l.rest ≤ limit l.width;
  lines : (later : List (ℕ × List ℕ)) → l.out.items ++ s_lines l.width (pieces l.address l.rest ++ later)
      ≡ l.initial.out.items ++ s_lines l.width (pieces l.run.address l.run.bytes.now ++ later);
}

abbrev pub decreases-loop-rest : goal.decreases-loop-rest
decreases-loop-rest l = length l.rest
