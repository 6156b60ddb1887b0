use Rattle.std.proofs.Common.{◌≡◌}
use Rattle.std.specs.Prelude.{find, not, option_map}
use Rattle.omf_check.specs.Listed.{placed_from}
use Rattle.omf_check.specs.Module.{records_in}
use Rattle.omf_reloc.specs.Inner.Pieces.{placed_pieces}
use Rattle.omf_output.specs.Exe.Movable.{first_unmoved, located_moves}
use Rattle.omf_output.proofs.exe.moving.first_unmoved.Given as goal

-- the first of the pieces to come is the first of all
abbrev pub invariant-loop-located : goal.invariant-loop-located
invariant-loop-located l =
    option_map (λ x. x.place) (find (λ x. not (located_moves l.movers x)) l.located-iterator) ≡ first_unmoved l.movers (placed_pieces (placed_from 0 0 (records_in l.module.bytes)))
