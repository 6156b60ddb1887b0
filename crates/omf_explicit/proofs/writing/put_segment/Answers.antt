use Rattle.std.proofs.Common.{◌≡◌, ◌∙◌, ◌++◌, subst}
use Rattle.std.specs.Prelude.{OnOk}
use Rattle.omf_frame.specs.Framing.{raw_bytes, raw_of}
use Rattle.omf_explicit.proofs.PlainLaws.{segment_made}
use Rattle.omf_explicit.proofs.writing.put_segment.Goals as goal

pub returns : goal.returns
returns c =
    let made = segment_made c.args.number _ _ _ _ _ _ _ _ c.new-body.ensures.items c.in_ok-push.ensures.items c.in_ok-put.ensures.ok c.in_ok-push-2.ensures.items c.in_ok-put-2.ensures.ok
    c.in_ok-put-3.ensures.ok c.in_ok-put-4.ensures.ok c.in_ok-put-5.ensures.ok in
    subst (λ l. OnOk c.put_record.result (c.put_record.new.out.items ≡ c.args.out.now.items ++ raw_bytes (raw_of 0x98 l))) (c.deref.ensures.value ∙ made) c.put_record.ensures
