use Rattle.std.proofs.Common.{◌≡◌, ◌++◌, drop}
use Rattle.omf_output.specs.Rom.Binary.{Ascend, binary}
use Rattle.omf_output.proofs.rom.binary.write_binary.Given as goal

-- the runs that are left ascend from where the bytes so far end, and are still to be written
abbrev pub invariant-loop-run : goal.invariant-loop-run
invariant-loop-run l = record {
  ascend : Ascend l.from l.end (drop l.run-index l.runs);
  written : l.out.items ++ binary l.from l.end l.fill (drop l.run-index l.runs) ≡ l.initial.out.items ++ binary l.base l.end l.fill l.runs;
}
