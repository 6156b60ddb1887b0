use Rattle.std.proofs.Common.{[], ◌∷◌}
use Rattle.std.proofs.lemmas.Result.{err_from_is_err_and}
use Rattle.omf_frame.specs.Framing.{checksum_of}
use Rattle.omf_frame.specs.Device.{head}
use Rattle.omf_frame.proofs.Pushed.{first_failed, second_failed, third_done}
use Rattle.omf_frame.proofs.write.write_record.Goals as goal

pub returns-in_err-push_all-clause-bytes : goal.returns-in_err-push_all-clause-bytes
returns-in_err-push_all-clause-bytes g c =
    let p = err_from_is_err_and c.from_residual.result c.from_residual.ensures.1 in
    let b = c.args.body.now in
    let seen = g.S.Sink.seen in
    rw p.1 (first_failed (seen c.args.writer.now).bytes (seen c.push_all.new.writer).bytes p.0 c.head_of-head.result (head c.args.kind b) b (checksum_of c.args.kind b ∷ []) c.head_of-head.ensures c.in_err-push_all.ensures.bytes)

pub returns-in_err-push_all-2-clause-bytes : goal.returns-in_err-push_all-2-clause-bytes
returns-in_err-push_all-2-clause-bytes g c =
    let p = err_from_is_err_and c.from_residual-in_err-push_all-2.result c.from_residual-in_err-push_all-2.ensures.1 in
    let b = c.args.body.now in
    let seen = g.S.Sink.seen in
    rw p.1 (second_failed (seen c.args.writer.now).bytes (seen c.push_all.new.writer).bytes (seen c.push_all-2.new.writer).bytes p.0 c.head_of-head.result (head c.args.kind b) b (checksum_of c.args.kind b ∷ []) c.head_of-head.ensures c.in_ok-push_all.ensures.bytes c.in_err-push_all-2.ensures.bytes)

pub returns-clause-bytes : goal.returns-clause-bytes
returns-clause-bytes g c =
    let b = c.args.body.now in
    let seen = g.S.Sink.seen in
    third_done (seen c.args.writer.now).bytes (seen c.push_all.new.writer).bytes (seen c.push_all-2.new.writer).bytes (seen c.push_all-3.new.writer).bytes c.push_all-3.result c.head_of-head.result (head c.args.kind b) b c.checksum.result (checksum_of c.args.kind b) c.head_of-head.ensures c.checksum.ensures.same c.in_ok-push_all.ensures.bytes c.in_ok-push_all-2.ensures.bytes c.push_all-3.ensures.bytes
