use Rattle.std.proofs.Common.{◌-◌, arith, drop, length}
use Rattle.std.proofs.lemmas.List.{length-drop, take_all}
use Rattle.omf_dump.proofs.DeltaLaws.{deltas_written}
use Rattle.omf_dump.proofs.comment.put_deltas.Goals as goal

pub returns-in_ok-signed-in-len2-up : goal.returns-in_ok-signed-in-len2-up
returns-in_ok-signed-in-len2-up c =
    let bytes = c.args.bytes.now in
    let rest = take_all (length bytes - 2) (drop 2 bytes) (omega (arith, length-drop 2 bytes)) in
    deltas_written c.put_line_delta.result c.args.text.now.items c.signed.new.text.items c.put_line_delta.new.text.items c.args.format bytes _ c.delta_of.result c.in-len2-up.len_at_least c.delta_of.ensures
    rest c.in_ok-signed-in-len2-up.ensures c.put_line_delta.ensures
