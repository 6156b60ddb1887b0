use Rattle.std.proofs.Common.{take}
use Rattle.std.specs.Prelude.{option_map}
use Rattle.omf_find.specs.NearLines.{IsReferenceLine}
use Rattle.omf_find.proofs.TextLaws.{AddsTexts}
use Rattle.omf_find.proofs.near.put_strays.Given as goal

-- the lines so far
abbrev pub invariant-loop-stray : goal.invariant-loop-stray
invariant-loop-stray l = AddsTexts (IsReferenceLine l.format (option_map (λ m. m.now) l.«module») l.near) (take l.stray-index l.strays) l.fn.text.items l.text.items
