use Rattle.std.proofs.Common.{◌≡◌, ◌++◌, ◌∷◌, [], take}
use Rattle.std.specs.Prelude.{flat_map}
use Rattle.omf_placement.specs.Quoted.{hex}
use Rattle.omf_dump.proofs.value.put_before_spaces.Given as goal

-- the bytes so far
abbrev pub invariant-loop-byte : goal.invariant-loop-byte
invariant-loop-byte l = l.text.items ≡ l.fn.text.items ++ flat_map (λ c. hex 2 c ++ 32 ∷ []) (take l.byte-index l.bytes)
