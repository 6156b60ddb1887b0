use Rattle.std.proofs.Common.{take}
use Rattle.omf_image.specs.Overlay.{AreLaidOver}
use Rattle.omf_linking.specs.Inner.Laying.{laid_pieces}
use Rattle.omf_linking.proofs.space.memory.lay_all.Given as goal

-- the stretches so far were laid
abbrev pub invariant-loop-stretch : goal.invariant-loop-stretch
invariant-loop-stretch l = AreLaidOver l.initial.image (laid_pieces (take l.stretch-index l.stretches)) l.image
