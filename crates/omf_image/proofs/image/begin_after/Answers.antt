use Rattle.std.proofs.Common.{◌<◌, length, arith, rules}
use Rattle.std.proofs.lemmas.Bool.{ltb-true, ltb-false}
use Rattle.omf_image.proofs.SortedLaws.{run_after, run_by}
use Rattle.omf_image.proofs.image.begin_after.Goals as goal

pub returns-in-Some-clause-after : goal.returns-in-Some-clause-after
returns-in-Some-clause-after c =
    let some : c.args.count < length c.args.runs.now = search rules in
    λ t. run_after c.args.at c.args.count c.args.runs.now c.requires c.in-Some.run'.now some (search rules) (omega (arith, ltb-true c.args.at c.low.result t, c.low.ensures))

pub returns-in-Some-clause-by : goal.returns-in-Some-clause-by
returns-in-Some-clause-by c =
    let some : c.args.count < length c.args.runs.now = search rules in
    λ t. (some, run_by c.args.at c.args.count c.args.runs.now c.requires c.in-Some.run'.now some (search rules) (omega (arith, ltb-false c.args.at c.low.result t, c.low.ensures)))
