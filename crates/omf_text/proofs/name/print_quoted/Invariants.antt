use Rattle.std.proofs.Common.{◌≡◌, ◌++◌, ◌∷◌, take}
use Rattle.std.specs.Prelude.{string_bytes, flat_map}
use Rattle.omf_placement.specs.Quoted.{escaped}
use Rattle.omf_text.proofs.name.print_quoted.Given as goal

-- the quote and the bytes so far
abbrev pub invariant-loop-byte : goal.invariant-loop-byte
invariant-loop-byte l = string_bytes l.text ≡ string_bytes l.fn.text ++ 34 ∷ flat_map escaped (take l.byte-index l.name)
