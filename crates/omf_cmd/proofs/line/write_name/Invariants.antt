use Rattle.std.proofs.Common.{◌≡◌, flat_map, drop}
use Rattle.omf_placement.specs.Quoted.{escaped}
use Rattle.omf_cmd.proofs.Written.{IsUpTo}
use Rattle.omf_cmd.proofs.line.write_name.Given as goal

-- the bytes from this one on are still to be written
abbrev pub invariant-loop-byte : goal.invariant-loop-byte
invariant-loop-byte g l = IsUpTo (g.K.Sink.seen l.initial.writer) (g.K.Sink.seen l.writer) (flat_map escaped l.name) (flat_map escaped (drop l.byte-index l.name))
