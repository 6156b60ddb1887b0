use Rattle.std.proofs.Common.{◌≡◌, drop}
use Rattle.omf_output.specs.Inner.Outside.{first_outside}
use Rattle.omf_output.proofs.rom.memory.first_outside.Given as goal

-- the runs so far have none
abbrev pub invariant-loop-run : goal.invariant-loop-run
invariant-loop-run l = first_outside l.from l.end l.runs ≡ first_outside l.from l.end (drop l.run-index l.runs)
