use Rattle.omf_making.proofs.MadeLaws.{made_is, on_true}
use Rattle.omf_making.proofs.making.is_made.Goals as goal

pub returns : goal.returns
returns c =
    let found = c.in_ok-found.found in
    let d = c.in-Some.dictionary in
    on_true c.are_sound.result _ _ c.are_sound.ensures (λ only. made_is c.args.profile c.args.is_case_sensitive c.args.parts.now c.args.bytes.now found.members.items c.as_slice.result.now found.end c.in_ok-header.header d.bytes.now d.is_case_sensitive
    c.in_ok-found.ensures c.in_ok-header.ensures.1 c.in-Some.ensures.1 c.in-Some.ensures.2 c.as_slice.ensures.value c.if-not-is_laid.ensures c.if-not-is_least.ensures c.if-not-are_parts.ensures only)
