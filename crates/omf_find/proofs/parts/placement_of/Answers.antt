use Rattle.std.proofs.Common.{◌∙◌, length, refl, sym}
use Rattle.omf_find.proofs.PartLaws.{placed_or_none, placed_there, some_absent}
use Rattle.omf_find.proofs.parts.placement_of.Goals as goal

pub returns-in_ok-placement : goal.returns-in_ok-placement
returns-in_ok-placement c =
    placed_there c.args.seen.program.now c.args.seen.«module».now c.args.seen.found.now c.in_ok-placement.placement c.requires c.in_ok-placement.ensures

pub returns-else-is_empty : goal.returns-else-is_empty
returns-else-is_empty c =
    let f = c.args.seen.found.now in
    placed_or_none c.args.seen.program.now c.args.seen.«module».now f c.placement_with_absent.result
    (some_absent f.absent (length f.absent) refl (sym c.is_empty.ensures ∙ c.if-is_empty.false)) c.placement_with_absent.ensures
