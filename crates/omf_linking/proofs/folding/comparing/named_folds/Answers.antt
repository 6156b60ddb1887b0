use Rattle.std.proofs.Common.{rules, subst}
use Rattle.omf_linking.specs.Inner.Folding.{AreItemsOf}
use Rattle.omf_records.specs.Inner.Seen.{contents_seen}
use Rattle.omf_records.specs.Values.{Contents}
use Rattle.omf_linking.proofs.FoldLaws.{contents-same}
use Rattle.omf_linking.proofs.folding.comparing.named_folds.Goals as goal

pub returns : goal.returns
returns c f =
    let raw = c.args.raw in
    let lower = c.args.lower in
    record {
      same = search rules;
      contents = λ x y e g. c.named_fold.ensures f x y
          (subst (λ (z : Contents). AreItemsOf z c.named_items-items.result) (contents-same raw.kind raw.body.now (contents_seen c.view_known.result) x c.view_known.ensures.read e) c.named_items-items.ensures)
          (subst (λ (z : Contents). AreItemsOf z c.named_items.result) (contents-same lower.kind lower.body.now (contents_seen c.view_known-2.result) y c.view_known-2.ensures.read g) c.named_items.ensures);
    }
