use Rattle.std.proofs.Common.{◌≡◌, ◌++◌, drop}
use Rattle.std.specs.Prelude.{filter_map}
use Rattle.omf_check.specs.Module.{typed_modules}
use Rattle.omf_listing.specs.Combined.{part_at}
use Rattle.omf_listing.proofs.combined.add_parts.Given as goal

-- the parts so far, and those of the segments that are left
abbrev pub invariant-loop-portion : goal.invariant-loop-portion
invariant-loop-portion l =
    let at = part_at (typed_modules l.modules) l.placements in
    l.parts.items ++ filter_map at (drop l.portion-index l.portions) ≡ l.fn.parts.items ++ filter_map at l.portions
