use Rattle.std.proofs.Common.{◌≤◌, ◌<◌, sym, ap, ◌∙◌, length, rules, Some, None, cond}
use Rattle.std.specs.Option.{option_copied, option_map}
use Rattle.std.proofs.lemmas.Bool.{eq-eqb}
use Rattle.omf_image.specs.Inner.Sorted.{laid_run}
use Rattle.omf_image.proofs.SortedLaws.{run_found, run_missed, differs}
use Rattle.omf_image.proofs.image.find_run.Goals as goal

pub returns-in_err-run : goal.returns-in_err-run
returns-in_err-run c =
    let none : length c.split_at.result.1.now ≤ c.args.k = search rules in
    ap (λ r. option_map laid_run (option_copied r)) c.from_residual.ensures
    ∙ run_missed c.ending_near-start.result c.args.segment c.args.k c.args.runs.now c.split_at.result.1.now c.split_at.ensures.back c.requires
    (search rules) (search rules) none

pub returns-then-run-segment : goal.returns-then-run-segment
returns-then-run-segment c =
    let some : c.args.k < length c.split_at.result.1.now = search rules in
    ap (λ b. cond b (Some (laid_run c.in_ok-run.run'.now)) None) (sym (eq-eqb c.in_ok-run.run'.now.segment c.args.segment c.if-run-segment.true))
    ∙ run_found c.ending_near-start.result c.args.segment c.args.k c.args.runs.now c.split_at.result.1.now c.split_at.ensures.back c.requires
    (search rules) (search rules) c.in_ok-run.run'.now some (search rules)

pub returns-else-run-segment : goal.returns-else-run-segment
returns-else-run-segment c =
    let some : c.args.k < length c.split_at.result.1.now = search rules in
    ap (λ b. cond b (Some (laid_run c.in_ok-run.run'.now)) None) (sym (differs c.in_ok-run.run'.now.segment c.args.segment c.if-run-segment.false))
    ∙ run_found c.ending_near-start.result c.args.segment c.args.k c.args.runs.now c.split_at.result.1.now c.split_at.ensures.back c.requires
    (search rules) (search rules) c.in_ok-run.run'.now some (search rules)
