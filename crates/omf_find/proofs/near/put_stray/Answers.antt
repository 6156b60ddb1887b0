use Rattle.std.proofs.Common.{refl}
use Rattle.std.specs.Prelude.{option_map}
use Rattle.omf_find.specs.NearLines.{reference_line}
use Rattle.omf_find.proofs.near.put_stray.Goals as goal

pub returns : goal.returns
returns c =
    let b = c.before_in-before.result in
    (reference_line c.args.format (option_map (λ m. m.now) c.args.«module») c.args.near.now c.args.stray.now b, (b, c.before_in-before.ensures, refl), c.in_ok-put_reference_line.ensures)
