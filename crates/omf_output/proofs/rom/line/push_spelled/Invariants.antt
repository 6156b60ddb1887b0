use Rattle.std.proofs.Common.{◌≡◌, ◌++◌, take}
use Rattle.omf_output.specs.Rom.Spelled.{spelled}
use Rattle.omf_output.proofs.rom.line.push_spelled.Given as goal

-- the bytes so far are written
abbrev pub invariant-loop-byte : goal.invariant-loop-byte
invariant-loop-byte l = l.out.items ≡ l.initial.out.items ++ spelled (take l.byte-index l.bytes)
