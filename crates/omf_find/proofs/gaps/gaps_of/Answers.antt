use Rattle.std.proofs.Common.{◌^◌, ◌<◌, List, sym, subst, arith}
use Rattle.std.proofs.lemmas.List.{get_or_default}
use Rattle.omf_find.specs.declared.gaps.Gap.{Gap}
use Rattle.omf_find.proofs.GapLaws.{SoFar, gaps-first, gaps-last, gaps-more}
use Rattle.omf_find.proofs.gaps.gaps_of.Goals as goal

pub loop-row-init : goal.loop-row-init
loop-row-init c = λ order. subst (λ (gs : List Gap). SoFar c.args.first c.args.end c.args.rows.now 0 c.args.first gs) (sym c.new-gaps.ensures.items) (gaps-first c.args.first c.args.end c.args.rows.now)

pub loop-row-preserved : goal.loop-row-preserved
loop-row-preserved c =
    let rows = c.args.rows.now in
    let i = c.loop-row.row-index in
    let low = c.loop-row-test.true in
    let old = c.loop-row.gaps.items in
    let new = c.push_gap.new.gaps.items in
    let short : c.args.end < 2 ^ 64 = omega (arith, c.ranges.end.fits) in
    λ order.
    gaps-more c.args.first c.args.end rows short i c.loop-row.next old new (c.loop-row.invariant order) _ (get_or_default rows i _ _ low) low c.from-address.result c.saturating_add.result c.max-next.result c.min.result c.from-address.ensures
    c.saturating_add.ensures c.max-next.ensures c.min.ensures c.in_ok-push_gap.ensures order

pub returns : goal.returns
returns c =
    let short : c.args.end < 2 ^ 64 = omega (arith, c.ranges.end.fits) in
    λ order. gaps-last c.args.first c.args.end c.args.rows.now short c.loop-row.row-index c.loop-row.next c.loop-row.gaps.items _ (c.loop-row.invariant order) c.loop-row-test.false c.in_ok-push_gap-2.ensures
