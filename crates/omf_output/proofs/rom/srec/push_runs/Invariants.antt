use Rattle.std.proofs.Common.{◌≡◌, ◌++◌, drop}
use Rattle.omf_output.specs.Rom.Cut.{pieces_of}
use Rattle.omf_output.specs.Rom.Motorola.{s_lines}
use Rattle.omf_output.proofs.rom.srec.push_runs.Given as goal

-- the pieces of the runs that are left are still to be written
abbrev pub invariant-loop-run : goal.invariant-loop-run
invariant-loop-run l = l.out.items ++ s_lines l.width (pieces_of (drop l.run-index l.runs)) ≡ l.initial.out.items ++ s_lines l.width (pieces_of l.runs)
