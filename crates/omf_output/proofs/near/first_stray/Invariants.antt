use Rattle.std.proofs.Common.{◌≡◌}
use Rattle.std.specs.Prelude.{find, option_map}
use Rattle.omf_check.specs.Listed.{placed_from}
use Rattle.omf_check.specs.Module.{records_in}
use Rattle.omf_check.specs.WellFormed.{recs}
use Rattle.omf_placement.specs.Derive.{PlacedModule}
use Rattle.omf_reloc.specs.Inner.Pieces.{placed_pieces}
use Rattle.omf_output.specs.Near.{first_stray, has_stray}
use Rattle.omf_output.proofs.near.first_stray.Given as goal

-- the first of the pieces to come is the first of all
abbrev pub invariant-loop-located : goal.invariant-loop-located
invariant-loop-located l =
    let bytes = l.part.owners.now.bytes in
    let m : PlacedModule = (recs (records_in bytes), l.part.placement.now) in
    option_map (λ x. x.place) (find (has_stray l.part.all.now m) l.located-iterator) ≡ first_stray l.part.all.now m (placed_pieces (placed_from 0 0 (records_in bytes)))
