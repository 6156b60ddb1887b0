use Rattle.std.proofs.Common.{ap, ◌∙◌, arith}
use Rattle.omf_check.specs.Module.{records_in}
use Rattle.omf_check.specs.Tables.{groups}
use Rattle.omf_check.specs.WellFormed.{recs}
use Rattle.std.proofs.Common.{◌+◌, length}
use Rattle.omf_layout.specs.Layout.{group_frame}
use Rattle.omf_layout.proofs.TableLaws.{one-more}
use Rattle.omf_layout.proofs.laying.lay_groups.Goals as goal

pub loop-k-preserved : goal.loop-k-preserved
loop-k-preserved c =
    let m = recs (records_in c.args.«module».now.bytes) in
    let k = c.loop-k.k in
    let inv = c.loop-k.invariant in
    let pushed = c.in_ok-push_group.ensures.ok in
    record {
      start = omega (arith, inv.start);
      within = omega (arith, c.loop-k-test.true, c.groups-k-end.ensures.count);
      end = inv.end;
      given = one-more (group_frame c.args.frames m c.args.placement.now.segments) c.loop-k.placement.groups c.push_group.new.self.groups _ c.group_frame-frame.result k (length (groups m) + 1)
          (omega (arith, c.loop-k-test.true, c.groups-k-end.ensures.count))
          (c.group_frame-frame.ensures ∙ ap (λ xs. group_frame c.args.frames m xs k) inv.segments) (ap (λ p. p.groups) pushed) inv.given;
      segments = ap (λ p. p.segments) pushed ∙ inv.segments;
      externals = ap (λ p. p.externals) pushed ∙ inv.externals;
    }
