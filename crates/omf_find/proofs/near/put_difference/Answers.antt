use Rattle.std.proofs.Common.{refl}
use Rattle.omf_find.specs.NearLines.{byte_line}
use Rattle.omf_find.proofs.near.put_difference.Goals as goal

pub returns : goal.returns
returns c =
    let b = c.before_in-before.result in
    (byte_line c.args.format c.args.near.now c.args.difference.now b, (b, c.before_in-before.ensures, refl), c.in_ok-put_byte_line.ensures)
