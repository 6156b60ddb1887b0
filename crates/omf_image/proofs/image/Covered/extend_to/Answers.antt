use Rattle.std.proofs.Common.{◌≡◌, ◌<◌, ◌-◌, ◌∙◌, suc, Some, sym, ap, subst, length, arith}
use Rattle.std.specs.Prelude.{OnOk, slice_get}
use Rattle.std.specs.Option.{option_map}
use Rattle.std.proofs.lemmas.List.{length-map}
use Rattle.std.proofs.lemmas.Option.{slice_get-map, slice_get_within}
use Rattle.omf_image.specs.Inner.Sorted.{laid_run, laid_runs, low}
use Rattle.omf_image.proofs.OverLaws.{all_last, on_err}
use Rattle.omf_image.proofs.image.Covered.extend_to.Goals as goal

pub returns-in-Some-clause-laid : goal.returns-in-Some-clause-laid
returns-in-Some-clause-laid c =
    let runs = c.args.runs.now in
    let p = laid_run c.args.self.now in
    let k = length runs - 1 in
    let got : slice_get runs k ≡ Some c.in-Some.run'.now = sym c.in-Some.ensures.value in
    let inside : k < length runs = slice_get_within runs k c.in-Some.run'.now got in
    let size : length (laid_runs runs) ≡ suc k = length-map runs laid_run ∙ omega (arith, inside) in
    subst (λ q. OnOk c.extend_over.result (laid_run c.extend_over.new.self ≡ q))
    (sym (all_last (low p) k p (laid_runs runs) (laid_run c.in-Some.run'.now) (omega arith) c.requires.sorted c.requires.touching (slice_get-map laid_run runs k ∙ ap (option_map laid_run) got) size))
    c.extend_over.ensures

pub returns-in-Some-clause-full : goal.returns-in-Some-clause-full
returns-in-Some-clause-full c =
    let runs = c.args.runs.now in
    let inside : length runs - 1 < length runs = slice_get_within runs (length runs - 1) c.in-Some.run'.now (sym c.in-Some.ensures.value) in
    on_err c.extend_over.result (omega (arith, inside))
