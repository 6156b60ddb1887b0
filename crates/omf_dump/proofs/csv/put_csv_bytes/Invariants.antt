use Rattle.std.proofs.Common.{◌≡◌, ◌++◌, take}
use Rattle.std.specs.Prelude.{flat_map}
use Rattle.omf_dump.specs.Csv.{csv_byte}
use Rattle.omf_dump.proofs.csv.put_csv_bytes.Given as goal

-- the bytes so far
abbrev pub invariant-loop-byte : goal.invariant-loop-byte
invariant-loop-byte l = l.text.items ≡ l.fn.text.items ++ flat_map csv_byte (take l.byte-index l.bytes)
