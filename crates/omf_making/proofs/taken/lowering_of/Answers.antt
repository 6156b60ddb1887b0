use Rattle.std.proofs.Common.{◌∙◌, ap, refl}
use Rattle.std.specs.Prelude.{Some}
use Rattle.omf_lowered.proofs.CheckedLaws.{fault_is}
use Rattle.omf_making.proofs.TakenLaws.{lowered_size}
use Rattle.omf_making.proofs.taken.lowering_of.Goals as goal

pub returns-in-Ok-check_with-clause-some : goal.returns-in-Ok-check_with-clause-some
returns-in-Ok-check_with-clause-some c =
    let bytes = c.in-Ok.lower.bytes.items in
    let rest = c.in-Ok.lower.rest.now in
    let given = ap (λ d. d.bytes) c.new.ensures ∙ ap Some c.deref.ensures.value in
    record {
      lowered = bytes;
      rest = rest;
      lowering = c.in-Ok.ensures.ok;
      accepted = c.in-Ok-check_with.ensures.verdict bytes given;
      sized = lowered_size c.args.bytes.now bytes rest c.length_before-length.result c.in-Ok.ensures.ok c.length_before-length.ensures;
      marked = refl;
    }

pub returns-in-Err-clause-fault : goal.returns-in-Err-clause-fault
returns-in-Err-clause-fault c = fault_is c.args.profile c.args.bytes.now c.in-Err.fault c.in-Err.ensures.err
