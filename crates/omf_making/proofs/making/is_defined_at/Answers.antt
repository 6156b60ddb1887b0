use Rattle.std.proofs.Common.{drop, subst}
use Rattle.omf_making.specs.Made.{IsDefinedAt, opened_seen}
use Rattle.omf_making.proofs.MadeLaws.{defined_more, on_true}
use Rattle.omf_making.proofs.making.is_defined_at.Goals as goal

pub returns : goal.returns
returns c =
    let o = opened_seen c.args.opened in
    let ms = c.args.opened.members.now in
    let ps = c.args.opened.parts.now in
    let n = c.number_at-at.result in
    on_true c.is_defined_first.result _ _ c.is_defined_first.ensures (λ h. defined_more o n ms ps c.args.name.now c.args.page
    (subst (λ xs. IsDefinedAt o xs (drop n ps) c.args.name.now c.args.page) c.split_at.ensures.back
    (subst (λ xs. IsDefinedAt o c.split_at.result.1.now xs c.args.name.now c.args.page) c.split_at-2.ensures.back h)))
