use Rattle.std.proofs.Common.{◌≡◌, ◌++◌, drop}
use Rattle.std.specs.Prelude.{flat_map, map}
use Rattle.omf_frame.specs.Framing.{raw_bytes}
use Rattle.omf_explicit.specs.Explicit.{segment}
use Rattle.omf_explicit.proofs.writing.put_segments.Given as goal

-- the segments so far, and those to come
abbrev pub invariant-loop-number : goal.invariant-loop-number
invariant-loop-number l = l.out.items ++ flat_map raw_bytes (map segment (drop l.number-index l.numbers))
    ≡ l.fn.out.items ++ flat_map raw_bytes (map segment l.numbers)
