use Rattle.std.proofs.Common.{◌∙◌, sym, ap, subst}
use Rattle.std.proofs.lemmas.List.{drop-map}
use Rattle.omf_image.specs.Inner.Sorted.{laid_run, laid_runs, AreSorted}
use Rattle.omf_image.proofs.SortedLaws.{sorted_drop}
use Rattle.omf_image.proofs.OverLaws.{laying}
use Rattle.omf_image.proofs.image.touched.Goals as goal

pub beginning_by-count-requires : goal.beginning_by-count-requires
beginning_by-count-requires c =
    let cs = c.args.runs.now in
    let start = c.ending_near-start.result in
    subst (λ xs. AreSorted 0 xs) (drop-map laid_run start cs ∙ sym (ap laid_runs c.split_at.ensures.back)) (sorted_drop 0 start (laid_runs cs) c.requires.sorted)

pub returns-clause-touched : goal.returns-clause-touched
returns-clause-touched c =
    laying c.args.runs.now c.split_at.result.1.now c.ending_near-start.result c.beginning_by-count.result c.low.result c.high.result (laid_run c.args.piece.now)
    c.split_at.ensures.back c.low.ensures c.high.ensures c.requires.sorted c.requires.some c.requires.fits c.ending_near-start.ensures.before c.ending_near-start.ensures.others
    c.beginning_by-count.ensures.before c.beginning_by-count.ensures.others
