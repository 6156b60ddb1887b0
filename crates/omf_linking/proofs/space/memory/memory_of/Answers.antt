use Rattle.std.proofs.Common.{◌∙◌, sym}
use Rattle.omf_linking.proofs.SpaceLaws.LowestLaws.{gone}
use Rattle.omf_linking.proofs.SpaceLaws.MemoryLaws.{is_memory}
use Rattle.omf_linking.proofs.space.memory.memory_of.Goals as goal

pub returns : goal.returns
returns c =
    let ss = c.args.stretches.now in
    let o = c.first_overlap-overlap.result in
    is_memory ss o c.in_ok-laid.field-0 (gone o (sym c.is_some.ensures ∙ c.if-is_some.false)) (c.first_overlap-overlap.ensures ss c.requires c.in-Ok.ensures) c.in_ok-laid.ensures
