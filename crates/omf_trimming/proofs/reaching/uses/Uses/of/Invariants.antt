use Rattle.std.proofs.Common.{◌≡◌, map}
use Rattle.omf_check.specs.Module.{recs_of}
use Rattle.omf_trimming.specs.Inner.Uses.{filled, module_uses, uses_from}
use Rattle.omf_trimming.proofs.reaching.uses.Uses.of.Given as goal

-- with the references of the pieces to come, all are there
abbrev pub invariant-loop-piece : goal.invariant-loop-piece
invariant-loop-piece l = filled l.uses (uses_from l.last (map (λ p. p.1) l.piece-iterator)) ≡ module_uses (recs_of l.«module».bytes)
