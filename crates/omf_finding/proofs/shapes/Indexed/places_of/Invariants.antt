use Rattle.std.proofs.Common.{◌+◌}
use Rattle.omf_finding.specs.Inner.Shaping.{is_at}
use Rattle.omf_finding.proofs.WindowLaws.{AreSoFar, trying}
use Rattle.omf_finding.proofs.shapes.Indexed.places_of.Given as goal

-- the places so far
abbrev pub invariant-loop-k : goal.invariant-loop-k
invariant-loop-k l =
    let program = l.self.program.now in
    AreSoFar (trying (is_at program.bytes.items program.base l.intervals) program.base l.rare.offset l.self.windows.sorted.items l.rare.key) l.first (l.first + l.k) l.places.items
