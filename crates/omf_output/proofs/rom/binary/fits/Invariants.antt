use Rattle.std.proofs.Common.{drop}
use Rattle.omf_output.specs.Rom.Binary.{Ascend}
use Rattle.omf_output.proofs.rom.binary.fits.Given as goal

-- all runs ascend exactly if those that are left do
abbrev pub invariant-loop-run : goal.invariant-loop-run
invariant-loop-run l = record {
  on : Ascend l.base l.end l.runs → Ascend l.from l.end (drop l.run-index l.runs);
  back : Ascend l.from l.end (drop l.run-index l.runs) → Ascend l.base l.end l.runs;
}
