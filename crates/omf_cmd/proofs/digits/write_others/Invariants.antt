use Rattle.std.proofs.Common.{◌≡◌, ◌*◌, ◌++◌, take, drop}
use Rattle.std.specs.Prelude.{flat_map}
use Rattle.omf_cmd.specs.Inner.Names.{byte_text}
use Rattle.omf_cmd.proofs.digits.write_others.Given as goal

-- the bytes so far are written, and the others are still to come
abbrev pub invariant-loop-i : goal.invariant-loop-i
invariant-loop-i l = take (3 * l.i) l.text ++ flat_map byte_text (drop l.i l.bytes) ≡ flat_map byte_text l.bytes
