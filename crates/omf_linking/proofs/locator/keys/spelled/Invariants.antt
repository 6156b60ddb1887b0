use Rattle.std.proofs.Common.{◌≡◌, take}
use Rattle.std.specs.Prelude.{flat_map}
use Rattle.omf_placement.specs.Quoted.{escaped}
use Rattle.omf_linking.proofs.locator.keys.spelled.Given as goal

-- the bytes so far, as they are written
abbrev pub invariant-loop-byte : goal.invariant-loop-byte
invariant-loop-byte l = l.text.items ≡ flat_map escaped (take l.byte-index l.name)
