use Rattle.std.proofs.Common.{take}
use Rattle.std.specs.Prelude.{option_map}
use Rattle.omf_find.specs.NearLines.{IsByteLine}
use Rattle.omf_find.proofs.TextLaws.{AddsTexts}
use Rattle.omf_find.proofs.near.put_differences.Given as goal

-- the lines so far
abbrev pub invariant-loop-difference : goal.invariant-loop-difference
invariant-loop-difference l = AddsTexts (IsByteLine l.format (option_map (λ m. m.now) l.«module») l.near) (take l.difference-index l.differences) l.fn.text.items l.text.items
