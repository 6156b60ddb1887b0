use Rattle.std.proofs.Common.{◌≡◌, ◌+◌, ◌++◌, length}
use Rattle.omf_dump.specs.Render.{rows}
use Rattle.omf_dump.proofs.item.put_rows.Given as goal

-- what is written, and the lines of what is left, are all lines
abbrev pub invariant-loop-rest : goal.invariant-loop-rest
invariant-loop-rest l = record {
  written : l.text.items ++ rows l.offset l.rest ≡ l.fn.text.items ++ rows l.first l.bytes;
  ends : l.offset + length l.rest ≡ l.first + length l.bytes;
}

abbrev pub decreases-loop-rest : goal.decreases-loop-rest
decreases-loop-rest l = length l.rest
