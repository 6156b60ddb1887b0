use Rattle.std.proofs.Common.{◌≡◌, ◌<◌, ◌-◌, ◌+◌, length, take, subst, arith, rules}
use Rattle.std.proofs.lemmas.Bool.{ltb-true}
use Rattle.omf_image.specs.Inner.Sorted.{laid_runs, EndBefore}
use Rattle.omf_image.proofs.SortedLaws.{not_none, run_before}
use Rattle.omf_image.proofs.image.end_before.Goals as goal

pub returns-in-Some : goal.returns-in-Some
returns-in-Some c =
    let some : c.args.count - 1 < length c.args.runs.now = search rules in
    let whole : c.args.count - 1 + 1 ≡ c.args.count = not_none c.args.count c.if-count-eq0.false in
    λ t. (
      omega (arith, some, whole),
      subst (λ n. EndBefore c.args.at (take n (laid_runs c.args.runs.now))) whole
          (run_before c.args.at (c.args.count - 1) c.args.runs.now c.requires c.in-Some.run'.now some (search rules) (omega (arith, ltb-true c.high.result c.args.at t, c.high.ensures))),
    )
