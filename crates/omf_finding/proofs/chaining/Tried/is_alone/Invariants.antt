use Rattle.std.proofs.Common.{ℕ, ◌<◌, Some}
use Rattle.std.specs.Prelude.{◌≡◌, slice_get}
use Rattle.omf_finding.specs.Inner.Surely.{IsSureShape}
use Rattle.omf_finding.specs.declared.shapes.Shape.{Shape}
use Rattle.omf_finding.proofs.chaining.Tried.is_alone.Given as goal

-- none so far is sure
abbrev pub invariant-loop-shape : goal.invariant-loop-shape
invariant-loop-shape l = (k : ℕ) (s : Shape) → k < l.shape-index → slice_get l.shapes k ≡ Some s → IsSureShape l.self l.number l.module l.found s → ⊥
