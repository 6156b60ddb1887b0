use Rattle.std.proofs.Common.{◌++◌, ◌∙◌, ap, arith}
use Rattle.omf_lowered.proofs.ModuleLaws.{rest_is_left}
use Rattle.omf_lowered.proofs.file.append_module.Goals as goal

pub returns-in-Ok-extend_from_slice-clause-ok : goal.returns-in-Ok-extend_from_slice-clause-ok
returns-in-Ok-extend_from_slice-clause-ok c =
    let bytes = c.args.bytes.now in
    let own = c.in-Ok.module.bytes.items in
    let after = c.in-Ok.module.rest.now in
    record {
      own = own;
      after = after;
      lowered = c.in-Ok.ensures.ok;
      is_left = c.unpadded.ensures.rest;
      longer = c.in-Ok-extend_from_slice.ensures.items ∙ ap (λ x. c.args.out.now.items ++ x) c.deref.ensures.value;
      shorter = omega (arith, c.unpadded.ensures.within, rest_is_left bytes own after c.in-Ok.ensures.ok);
    }
