use Rattle.std.proofs.Common.{◌∙◌, ap, subst}
use Rattle.std.specs.Prelude.{Some, Ok}
use Rattle.omf_aliases.specs.Aliases.{any_profile}
use Rattle.omf_check.specs.Checking.{Decides}
use Rattle.omf_lowered.proofs.CheckedLaws.{fault_is}
use Rattle.omf_exe.proofs.lowered.lowering_of.Goals as goal

pub returns-in-Ok-check-clause-some : goal.returns-in-Ok-check-clause-some
returns-in-Ok-check-clause-some c =
    let bytes = c.in-Ok.lower.bytes.items in
    let given = ap (λ d. d.bytes) c.new.ensures ∙ ap Some c.deref.ensures.value in
    record {
      lowered = bytes;
      rest = c.in-Ok.lower.rest.now;
      lowering = c.in-Ok.ensures.ok;
      accepted = subst (λ p. Decides p bytes (Ok c.in-Ok-check.module)) c.any_profile.ensures (c.in-Ok-check.ensures.verdict bytes given);
    }

pub returns-in-Err-clause-fault : goal.returns-in-Err-clause-fault
returns-in-Err-clause-fault c = fault_is any_profile c.args.bytes.now c.in-Err.fault c.in-Err.ensures.err
