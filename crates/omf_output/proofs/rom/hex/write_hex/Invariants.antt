use Rattle.std.proofs.Common.{◌≡◌, ◌++◌, drop}
use Rattle.omf_output.specs.Rom.Cut.{pieces_of}
use Rattle.omf_output.specs.Rom.IntelHex.{hex_lines}
use Rattle.omf_output.proofs.rom.hex.write_hex.Given as goal

-- the pieces of the runs that are left are still to be written
abbrev pub invariant-loop-run : goal.invariant-loop-run
invariant-loop-run l = l.out.items ++ hex_lines l.base l.upper (pieces_of (drop l.run-index l.runs)) ≡ l.initial.out.items ++ hex_lines l.base 0 (pieces_of l.runs)
