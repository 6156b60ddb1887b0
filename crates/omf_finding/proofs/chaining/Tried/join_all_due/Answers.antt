use Rattle.std.proofs.Common.{◌<◌, ◌∙◌, List, Bool, subst, sym}
use Rattle.std.proofs.lemmas.Bool.{true≢false}
use Rattle.omf_finding.specs.Inner.Closing.{left_of}
use Rattle.omf_finding.proofs.CloseLaws.{fewer-then, idle-next}
use Rattle.omf_finding.proofs.chaining.Tried.join_all_due.Goals.{then-branch, else-branch}
use Rattle.omf_finding.proofs.chaining.Tried.join_all_due.Goals as goal

pub loop-number-preserved : goal.loop-number-preserved
loop-number-preserved c =
    let t = c.args.self in
    let inv = c.loop-number.invariant in
    let start = c.args.joined.now.marks.items in
    let now = c.loop-number.joined.marks.items in
    let new = c.join_due.new.joined.marks.items in
    let one = c.in_ok-join_due.ensures in
    elim c.if-branch.branch [
      | then-branch w ↦ record {
        joined = one.joined;
        asked = one.asked;
        end = inv.end;
        same = λ e. absurd (true≢false (sym w.some-is ∙ e));
        idle = λ e. absurd (true≢false (sym w.some-is ∙ e));
        fewer = λ e. fewer-then start now new c.loop-number.some inv.same inv.fewer (one.fewer w.if-branch.true);
      }
      | else-branch w ↦ record {
        joined = one.joined;
        asked = one.asked;
        end = inv.end;
        same = λ e. one.same w.if-branch.false ∙ inv.same (sym w.some-is ∙ e);
        idle = λ e. idle-next t start now c.args.names.now.spots c.loop-number.number (inv.same (sym w.some-is ∙ e)) (inv.idle (sym w.some-is ∙ e)) (one.idle w.if-branch.false);
        fewer = λ e. subst (λ (ms : List Bool). left_of ms < left_of start) (sym (one.same w.if-branch.false)) (inv.fewer (sym w.some-is ∙ e));
      }
    ]
