use Rattle.std.proofs.Common.{refl}
use Rattle.omf_find.specs.Parts.{left_of, placed_of}
use Rattle.omf_find.proofs.parts.Parts.add_found.Goals as goal

pub returns : goal.returns
returns c =
    let o = c.in_ok-placement.placement in
    (placed_of c.args.number o, left_of c.args.number o, (o, c.in_ok-placement.ensures, refl, refl), (c.in_ok-add.ensures.placed, c.in_ok-add.ensures.left_out))
