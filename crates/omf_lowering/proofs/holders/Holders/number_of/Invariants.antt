use Rattle.std.proofs.Common.{◌≡◌, ◌+◌, ◌*◌, List}
use Rattle.omf_lowering.specs.Inner.Holders.{AreHeld, has_place, keyed, last_number}
use Rattle.omf_lowering.specs.declared.values.Piece.{Piece}
use Rattle.omf_lowering.proofs.holders.Holders.number_of.Given as goal

-- the number of the last data with one of the places so far
abbrev pub invariant-loop-more : goal.invariant-loop-more
invariant-loop-more l = (pieces : List Piece) → AreHeld (keyed l.self.numbers) pieces → l.number ≡ last_number (has_place l.segment (2 * l.offset + 1) (2 * l.offset + 1 + l.more)) pieces
