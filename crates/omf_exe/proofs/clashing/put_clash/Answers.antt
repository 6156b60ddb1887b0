use Rattle.std.proofs.Common.{map, subst}
use Rattle.std.specs.Prelude.{string_bytes}
use Rattle.omf_frame.specs.Bytes.{AddsText}
use Rattle.omf_trimming.specs.Clashes.{ClashItem}
use Rattle.omf_exe.specs.Clashing.{comdat_text, kept_text}
use Rattle.omf_output.proofs.Written.{both_written}
use Rattle.omf_exe.proofs.clashing.put_clash.Goals as goal

pub returns : goal.returns
returns c =
    let mid = string_bytes c.put_comdat.new.text in
    let new = string_bytes c.put_kept.new.text in
    let kept = subst (λ (i : ClashItem). AddsText c.put_kept.result mid new (kept_text i.selection)) c.clash.view_is c.put_kept.ensures in
    both_written c.put_kept.result (string_bytes c.args.text.now) mid new (comdat_text (map string_bytes c.args.labels.now) c.args.clash.now) (kept_text c.args.clash.now.selection) c.in_ok-put_comdat.ensures kept
