-- How far data reach in each segment, and which of them a table holds.
use Rattle.std.specs.Prelude.{◌≡◌, ◌≤◌, ℕ, ◌+◌, ◌==◌, List, fold, if◌then◌else◌, length, max, min, slice_index_or, take}
use Rattle.std.specs.BTreeMap.{BTreeMap}
use Rattle.omf_lowering.specs.Inner.Holders.{AreHeld, keyed}
use Rattle.omf_lowering.specs.declared.values.Piece.{Piece}

-- The end of data in their segment, up to 2^32 - 1.
abbrev pub end_of : Piece → ℕ
end_of p = min (p.offset + p.size) 4294967295

-- The largest end in a segment, with these data too.
abbrev pub further : ℕ → ℕ → Piece → ℕ
further segment largest p = if p.segment == segment then max largest (end_of p) else largest

-- A table has the largest end of these data for each segment.
pub record AreEnds (ends : List ℕ) (pieces : List Piece) : Type 0 where
  pub each : (segment : ℕ) → slice_index_or ends segment 0 ≡ fold (further segment) 0 pieces

-- And another the last ones of the first `held` at each place.
pub record AreLaid (ends : List ℕ) (numbers : BTreeMap ℕ ℕ) (held : ℕ) (pieces : List Piece) : Type 0 where
  pub reach : AreEnds ends pieces
  pub few : held ≤ length pieces
  pub holders : AreHeld (keyed numbers) (take held pieces)
