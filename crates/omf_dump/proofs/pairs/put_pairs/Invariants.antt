use Rattle.std.proofs.Common.{◌≡◌, ◌+◌, ◌++◌, length}
use Rattle.std.specs.Prelude.{false, true}
use Rattle.omf_dump.specs.Comments.{pair_items}
use Rattle.omf_dump.specs.Render.{items_text}
use Rattle.omf_dump.proofs.pairs.put_pairs.Given as goal

-- what is written, and the items of the bytes that are left, are all items
abbrev pub invariant-loop-index : goal.invariant-loop-index
invariant-loop-index l = record {
  written : l.text.items ++ items_text l.format l.is_first (pair_items l.tables l.within l.is_default l.rest) ≡ l.fn.text.items ++ items_text l.format true (pair_items l.tables 5 false l.fn.bytes);
  ends : l.within + length l.rest ≡ 5 + length l.fn.bytes;
}

abbrev pub decreases-loop-index : goal.decreases-loop-index
decreases-loop-index l = length l.rest
