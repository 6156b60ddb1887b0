use Rattle.std.proofs.Common.{◌≡◌, ◌++◌, ◌∷◌, take}
use Rattle.std.specs.Prelude.{flat_map}
use Rattle.omf_placement.specs.Quoted.{escaped}
use Rattle.omf_cmd.proofs.printing.print_quoted.Given as goal

-- the quote and the bytes so far
abbrev pub invariant-loop-byte : goal.invariant-loop-byte
invariant-loop-byte l = l.text.items ≡ l.fn.text.items ++ 32 ∷ 34 ∷ flat_map escaped (take l.byte-index l.name)
