use Rattle.std.proofs.Common.{◌≡◌, take, true}
use Rattle.omf_finding.specs.Inner.Surely.{is_whole}
use Rattle.omf_finding.proofs.shapes.is_whole.Given as goal

-- none so far is nowhere
abbrev pub invariant-loop-shape : goal.invariant-loop-shape
invariant-loop-shape l = is_whole (take l.shape-index l.shapes) ≡ true
