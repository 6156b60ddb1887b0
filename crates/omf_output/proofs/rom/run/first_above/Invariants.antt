use Rattle.std.proofs.Common.{ℕ, ◌+◌, ◌<◌, ◌≤◌, get_or, length}
use Rattle.omf_output.specs.declared.rom.run.Run.{Run}
use Rattle.omf_output.proofs.rom.run.first_above.Given as goal

-- the runs so far end in time
abbrev pub invariant-loop-i : goal.invariant-loop-i
invariant-loop-i l = (k : ℕ) (d : Run) → k < l.i → (get_or l.runs k d).address + length (get_or l.runs k d).bytes.now ≤ l.end
