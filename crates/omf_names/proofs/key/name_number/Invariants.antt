use Rattle.std.proofs.Common.{◌≡◌, drop}
use Rattle.omf_names.specs.Names.{name_number, number_from}
use Rattle.omf_names.proofs.key.name_number.Given as goal

abbrev pub invariant-loop-byte : goal.invariant-loop-byte
invariant-loop-byte l = number_from l.number (drop l.byte-index l.name) ≡ name_number l.name
