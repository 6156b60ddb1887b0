use Rattle.std.proofs.Common.{◌<◌, length, arith, rules}
use Rattle.std.proofs.lemmas.Bool.{leb-true}
use Rattle.omf_image.proofs.SortedLaws.{run_from}
use Rattle.omf_image.proofs.image.end_from.Goals as goal

pub returns-in-Some : goal.returns-in-Some
returns-in-Some c =
    let some : c.args.count < length c.args.runs.now = search rules in
    λ t. run_from c.args.at c.args.count c.args.runs.now c.requires c.in-Some.run'.now some (search rules) (omega (arith, leb-true c.args.at c.high.result t, c.high.ensures))
