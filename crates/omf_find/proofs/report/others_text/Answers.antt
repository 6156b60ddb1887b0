use Rattle.omf_find.proofs.TextLaws.{in-two}
use Rattle.omf_find.proofs.report.others_text.Goals as goal

pub returns : goal.returns
returns c =
    let near = c.in_ok-put_nearly.ensures in
    record {
      before = _;
      near = near.0;
      are_near = near.1;
      after = c.deref-2.result.now;
      text_is = in-two _ near.0 c.deref-2.result.now _ _ near.2 c.in_ok-extend_from_slice.ensures.items;
    }
