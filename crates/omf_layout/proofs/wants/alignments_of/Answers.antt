use Rattle.std.proofs.Common.{◌≡◌, ◌+◌, ◌++◌, ◌∷◌, [], ◌∙◌, ap, sym, arith, length, map}
use Rattle.std.specs.List.{enumerate_from}
use Rattle.omf_check.specs.Module.{records_in}
use Rattle.omf_check.specs.Tables.{attributes}
use Rattle.omf_check.specs.WellFormed.{recs}
use Rattle.omf_layout.specs.Wants.{alignment_in, alignments}
use Rattle.omf_layout.proofs.Gathered.{more-given, all-given}
use Rattle.std.proofs.lemmas.List.{drop_all}
use Rattle.std.proofs.lemmas.List.FromFn.{length-enumerate_from}
use Rattle.omf_placement.proofs.ListLaws.{next-at, entry-at}
use Rattle.omf_layout.proofs.TableLaws.{length-alignments}
use Rattle.omf_layout.proofs.SeveralLaws.FoundLaws.{numbered-at}
use Rattle.omf_placement.proofs.AttributeLaws.{attribute-there, length-attributes}
use Rattle.omf_layout.proofs.wants.alignments_of.Goals as goal

pub unreachable-requires : goal.unreachable-requires
unreachable-requires c =
    let m = recs (records_in c.args.«module».now.bytes) in
    attribute-there m (c.loop-before.before + 1) (omega arith) (omega (arith, c.loop-before-test.true, c.loop-before.invariant.end)) (sym c.attribute.ensures ∙ c.in_default.is)

pub loop-before-preserved : goal.loop-before-preserved
loop-before-preserved c =
    let m = recs (records_in c.args.«module».now.bytes) in
    let j = c.loop-before.before in
    let xs = c.loop-before.alignments.items in
    let a = c.in-Some.attribute in
    let number : j + 1 ≡ 1 + j = omega arith in
    let next = next-at (enumerate_from 1 (attributes m)) j (1 + j, a) (numbered-at 1 (attributes m) j a (sym (entry-at (attributes m) j) ∙ sym c.attribute.ensures ∙ c.in-Some.is)) in
    let same = c.alignment_in.ensures m c.in_ok-raised.ensures ∙ ap (λ i. alignment_in m i a) number in
    record {
      added = more-given xs c.push.new.self.items (alignment_in m (1 + j) a ∷ []) _ _ _
          (c.in_ok-push.ensures.items ∙ ap (λ x. xs ++ x ∷ []) same) (ap (map (λ x. alignment_in m x.0 x.1)) next) c.loop-before.invariant.added;
      end = c.loop-before.invariant.end;
    }

pub returns-clause-all : goal.returns-clause-all
returns-clause-all c =
    let m = recs (records_in c.args.«module».now.bytes) in
    all-given _ _ _
    (ap (map (λ x. alignment_in m x.0 x.1)) (drop_all c.loop-before.before (enumerate_from 1 (attributes m)) (omega (arith, c.loop-before-test.false, c.segments-before-end.ensures.count, length-enumerate_from 1 (attributes m), length-attributes m)))) c.loop-before.invariant.added

pub returns-clause-each : goal.returns-clause-each
returns-clause-each c =
    let m = recs (records_in c.args.«module».now.bytes) in
    ap length (all-given c.loop-before.alignments.items _ (alignments m)
    (ap (map (λ x. alignment_in m x.0 x.1)) (drop_all c.loop-before.before (enumerate_from 1 (attributes m)) (omega (arith, c.loop-before-test.false, c.segments-before-end.ensures.count, length-enumerate_from 1 (attributes m), length-attributes m)))) c.loop-before.invariant.added)
    ∙ length-alignments m
