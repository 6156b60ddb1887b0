use Rattle.std.proofs.Common.{◌∙◌, ap, sym, ℕ}
use Rattle.omf_check.specs.Module.{records_in}
use Rattle.omf_check.specs.WellFormed.{recs}
use Rattle.omf_placement.specs.Derive.{PlacedModule}
use Rattle.omf_records.specs.Values.{At}
use Rattle.omf_warnings.specs.Wide.{wide, wide_in_members}
use Rattle.omf_warnings.proofs.WideLaws.{first_found, first_later, first_none}
use Rattle.omf_warnings.proofs.wide.in_members.Goals as goal

pub loop-member-init : goal.loop-member-init
loop-member-init c =
    let p = c.args.part.now in
    let m : PlacedModule = (recs (records_in p.«module».now.bytes), p.placement.now) in
    ap (wide_in_members p.number m c.args.group) c.into_iter-member-iterator.ensures.into_iter_gives

pub returns-in-Some-wide : goal.returns-in-Some-wide
returns-in-Some-wide c =
    let p = c.args.part.now in
    let m : PlacedModule = (recs (records_in p.«module».now.bytes), p.placement.now) in
    let segment = c.segment_of.ensures ∙ ap (λ x. x.item.item) c.member.view_is in
    first_found (λ (x : At (At ℕ)). wide p.number m c.args.group x.item.item) c.loop-member.member-iterator c.in-Some.member c.next.new.self c.in-Some-wide.found _ c.in-Some.ensures.steps
    (sym (c.wide.ensures ∙ ap (wide p.number m c.args.group) segment) ∙ c.in-Some-wide.is) c.loop-member.invariant

pub loop-member-preserved : goal.loop-member-preserved
loop-member-preserved c =
    let p = c.args.part.now in
    let m : PlacedModule = (recs (records_in p.«module».now.bytes), p.placement.now) in
    let segment = c.segment_of.ensures ∙ ap (λ x. x.item.item) c.member.view_is in
    first_later (λ (x : At (At ℕ)). wide p.number m c.args.group x.item.item) c.loop-member.member-iterator c.in-Some.member c.next.new.self _ c.in-Some.ensures.steps
    (sym (c.wide.ensures ∙ ap (wide p.number m c.args.group) segment) ∙ c.in_default.is) c.loop-member.invariant

pub returns : goal.returns
returns c =
    let p = c.args.part.now in
    let m : PlacedModule = (recs (records_in p.«module».now.bytes), p.placement.now) in
    first_none (λ (x : At (At ℕ)). wide p.number m c.args.group x.item.item) c.loop-member.member-iterator _ c.in-None.ensures.steps.0 c.loop-member.invariant
