use Rattle.std.proofs.Common.{List, drop, map}
use Rattle.omf_records.specs.Values.{Rec}
use Rattle.omf_aliases.specs.Inner.Aliases.{AreAliases}
use Rattle.omf_aliases.specs.Inner.Circles.{HasShown}
use Rattle.omf_placement.proofs.Filling.{IsFilled}
use Rattle.omf_aliases.proofs.circles.Circles.put_pairs.Given as goal

-- the circles of the aliases so far are shown
abbrev pub invariant-loop-pair : goal.invariant-loop-pair
invariant-loop-pair l = (ms : List (List Rec)) → AreAliases l.aliases ms → IsFilled (HasShown ms) l.fn.self l.self (map (λ p. p.alias) (drop l.pair-index l.pairs)) (map (λ p. p.alias) l.pairs)
