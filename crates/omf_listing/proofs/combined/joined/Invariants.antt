use Rattle.std.proofs.Common.{◌≡◌}
use Rattle.std.specs.Prelude.{None, fold}
use Rattle.std.specs.Vec.Iter.{into_iter_items}
use Rattle.omf_listing.specs.Combined.{with_part}
use Rattle.omf_listing.proofs.combined.joined.Given as goal

-- the segment so far, with the parts that are left, is that of all
abbrev pub invariant-loop-part : goal.invariant-loop-part
invariant-loop-part l = fold with_part l.segment (into_iter_items l.part-iterator) ≡ fold with_part None l.fn.parts.items
