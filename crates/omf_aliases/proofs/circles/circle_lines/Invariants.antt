use Rattle.std.proofs.Common.{drop, map}
use Rattle.omf_check.specs.Module.{typed_modules}
use Rattle.omf_placement.proofs.Filling.{IsFilled}
use Rattle.omf_aliases.specs.Aliases.{all_pairs}
use Rattle.omf_aliases.specs.Inner.Circles.{HasShown}
use Rattle.omf_aliases.proofs.circles.circle_lines.Given as goal

-- the circles of the modules so far are shown
abbrev pub invariant-loop-module : goal.invariant-loop-module
invariant-loop-module l =
    IsFilled (HasShown (typed_modules l.modules)) l.initial.circles l.circles (map (λ p. p.alias) (all_pairs (typed_modules (drop l.module-index l.modules)))) (map (λ p. p.alias) (all_pairs (typed_modules l.modules)))
