use Rattle.std.proofs.Common.{◌∙◌, false, length, ap}
use Rattle.std.proofs.lemmas.List.{length-replicate}
use Rattle.omf_finding.proofs.ChainLaws.{joined-none}
use Rattle.omf_finding.proofs.chaining.Tried.walk.Goals as goal

pub join_all_sure-requires-clause-joined : goal.join_all_sure-requires-clause-joined
join_all_sure-requires-clause-joined c =
    let t = c.args.self in (
      joined-none t.program.now t.least t.modules.now t.drafts.now _ c.in_ok-joined.joined.marks.items c.in_ok-joined.ensures,
      ap length c.in_ok-joined.ensures ∙ length-replicate (length t.modules.now) false,
    )
