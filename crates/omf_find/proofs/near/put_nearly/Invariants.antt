use Rattle.std.proofs.Common.{take}
use Rattle.std.specs.Prelude.{map, string_bytes}
use Rattle.omf_find.specs.NearLines.{IsNearText}
use Rattle.omf_find.proofs.TextLaws.{AddsTexts}
use Rattle.omf_find.proofs.near.put_nearly.Given as goal

-- the lines so far
abbrev pub invariant-loop-one : goal.invariant-loop-one
invariant-loop-one l = AddsTexts (IsNearText l.format (map string_bytes l.source.files.now) l.source.gathered.now) (take l.one-index l.nearly) l.fn.text.items l.text.items
