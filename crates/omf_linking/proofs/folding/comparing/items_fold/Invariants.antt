use Rattle.std.proofs.Common.{◌≡◌, map}
use Rattle.omf_linking.specs.Folded.{at_place}
use Rattle.omf_linking.proofs.folding.comparing.items_fold.Given as goal

-- the items fold if those that are left do
abbrev pub invariant-loop-at : goal.invariant-loop-at
invariant-loop-at g l = l.others ≡ map (at_place g.T.Named.folded) l.at-iterator → l.fn.lower ≡ map (at_place g.T.Named.folded) l.fn.items
