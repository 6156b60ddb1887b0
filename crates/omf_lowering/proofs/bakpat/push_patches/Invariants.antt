use Rattle.omf_lowering.specs.Patches.{patch_at}
use Rattle.omf_lowering.proofs.Steps.{Pushed}
use Rattle.omf_lowering.proofs.bakpat.push_patches.Given as goal

-- the values of the backpatches so far are appended
abbrev pub invariant-loop-item : goal.invariant-loop-item
invariant-loop-item l = Pushed (patch_at l.pieces l.given.segment.item l.given.part) (λ p. p) l.fn.patches.items l.patches.items l.given.items.items l.item-index
