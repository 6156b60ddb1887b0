use Rattle.std.proofs.Common.{take}
use Rattle.std.specs.Prelude.{All}
use Rattle.omf_linking.specs.Space.Segments.{IsWithin}
use Rattle.omf_linking.specs.Inner.Searching.{listed}
use Rattle.omf_linking.proofs.search.first_beyond.Given as goal

-- the bytes of the segments so far have addresses
abbrev pub invariant-loop-n : goal.invariant-loop-n
invariant-loop-n l = All IsWithin (take l.n (listed l.segments))
