use Rattle.std.proofs.Common.{◌≡◌, ◌++◌, drop}
use Rattle.omf_lines.specs.Near.{bare}
use Rattle.omf_lines.proofs.near.bare.Given as goal

-- what counts of the bytes so far, and of those that are left
abbrev pub invariant-loop-byte : goal.invariant-loop-byte
invariant-loop-byte l = l.bare.items ++ bare (drop l.byte-index l.name) ≡ bare l.name
