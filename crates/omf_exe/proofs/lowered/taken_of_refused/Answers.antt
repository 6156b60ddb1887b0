use Rattle.std.proofs.Common.{inr, subst}
use Rattle.omf_aliases.specs.Aliases.{any_profile}
use Rattle.omf_lowered.specs.Checked.{IsUnlowered, IsUnloweredBy}
use Rattle.omf_exe.proofs.lowered.taken_of_refused.Goals as goal

pub returns-in-Err-Refused : goal.returns-in-Err-Refused
returns-in-Err-Refused c =
    let there = subst (IsUnloweredBy any_profile c.bytes_from.result.now) c.in-Err-Refused.field-0-is c.in-Err-Refused.ensures.fault in
    let refused = subst (λ bs. IsUnlowered any_profile bs c.in-Err-Refused.reason c.in-Err-Refused.place) c.bytes_from.ensures there in
    inr (c.in-Err-Refused.reason, c.in-Err-Refused.place, refused, c.with_fault.ensures)
