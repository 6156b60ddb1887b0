use Rattle.std.proofs.Common.{◌+◌, ◌∙◌, ◌++◌, ◌∷◌, [], ap, arith}
use Rattle.std.specs.List.{enumerate_from}
use Rattle.omf_check.specs.Module.{records_in}
use Rattle.omf_check.specs.WellFormed.{recs}
use Rattle.omf_placement.proofs.NamedLaws.{named-count}
use Rattle.omf_placement.specs.Derive.{named_externals}
use Rattle.omf_externals.specs.Unresolved.{given_marks, is_given}
use Rattle.omf_placement.proofs.StepLaws.{no_more_mapped, none_left, one_mapped}
use Rattle.omf_externals.proofs.SettledLaws.{next_of}
use Rattle.omf_externals.proofs.settled.given_marks.Goals as goal

pub loop-before-init : goal.loop-before-init
loop-before-init c = record { end = c.externals-before-end.ensures.count; marks = ap (λ xs. xs ++ given_marks c.args.by_hand.now (c.args.number, recs (records_in c.args.«module».now.bytes))) c.new-marks.ensures.items }

pub loop-before-preserved : goal.loop-before-preserved
loop-before-preserved c =
    let xs = named_externals (recs (records_in c.args.«module».now.bytes)) in
    let i = c.loop-before.before in
    let next = next_of xs i (omega (arith, c.loop-before-test.true, c.loop-before.invariant.end, named-count (recs (records_in c.args.«module».now.bytes)))) in
    record {
      end = c.loop-before.invariant.end;
      marks = one_mapped (λ e. is_given c.args.by_hand.now c.args.number e.0) c.loop-before.marks.items c.push.new.self.items (i + 1, next.0) _ _ _ (c.in_ok-push.ensures.items ∙ ap (λ b. c.loop-before.marks.items ++ b ∷ []) c.is_given.ensures)
          (ap (enumerate_from (i + 1)) next.1) c.loop-before.invariant.marks;
    }

pub returns : goal.returns
returns c =
    let m = recs (records_in c.args.«module».now.bytes) in
    let i = c.loop-before.before in
    no_more_mapped (λ e. is_given c.args.by_hand.now c.args.number e.0) c.loop-before.marks.items _ _
    (ap (enumerate_from (i + 1)) (none_left (named_externals m) i (omega (arith, c.loop-before-test.false, c.loop-before.invariant.end, named-count m)))) c.loop-before.invariant.marks
