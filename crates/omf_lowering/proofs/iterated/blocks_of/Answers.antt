use Rattle.std.proofs.Common.{◌+◌, ◌^◌, ◌∙◌, ap, refl, subst, sym}
use Rattle.std.specs.Prelude.{IsOk, nat_le}
use Rattle.omf_lowering.proofs.IteratedLaws.{blocks_far, blocks_none, blocks_some, fits_by}
use Rattle.omf_lowering.proofs.iterated.blocks_of.Goals as goal

pub returns-in-Ok-clause-value : goal.returns-in-Ok-clause-value
returns-in-Ok-clause-value c =
    blocks_some c.args.segment c.args.offset c.args.blocks c.profile.result c.in-Ok.size c.in-Ok.ensures.length c.profile.ensures (ap (λ o. nat_le (o.item + c.in-Ok.size) (2 ^ 32)) (sym c.offset.view_is) ∙ sym c.ends_low.ensures ∙ c.if-ends_low.true)

pub returns-in-Ok-clause-within : goal.returns-in-Ok-clause-within
returns-in-Ok-clause-within c = record {
  short = c.requires;
  fits = subst (λ r. IsOk r) (fits_by c.args.segment c.args.offset c.args.blocks c.profile.result c.in-Ok.size c.in-Ok.ensures.length c.profile.ensures) refl;
}

pub returns-in-Ok-2-clause-value : goal.returns-in-Ok-2-clause-value
returns-in-Ok-2-clause-value c =
    blocks_far c.args.segment c.args.offset c.args.blocks c.profile.result c.in-Ok.size c.in-Ok.ensures.length c.profile.ensures (ap (λ o. nat_le (o.item + c.in-Ok.size) (2 ^ 32)) (sym c.offset.view_is) ∙ sym c.ends_low.ensures ∙ c.if-ends_low.false)

pub returns-in-Err-clause-value : goal.returns-in-Err-clause-value
returns-in-Err-clause-value c = blocks_none c.args.segment c.args.offset c.args.blocks c.profile.result c.in-Err.field-0 c.in-Err.ensures.length c.profile.ensures
