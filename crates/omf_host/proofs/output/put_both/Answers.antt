use Rattle.std.proofs.Common.{rules}
use Rattle.omf_host.proofs.InParts.{both_put, in_first}
use Rattle.omf_host.proofs.output.put_both.Goals as goal

pub returns-in-Ok : goal.returns-in-Ok
returns-in-Ok g c =
    let seen = g.K.Sink.seen in
    both_put (seen c.args.writer.now) (seen c.push_all.new.writer) (seen c.put.new.writer) c.in-Ok.ensures.grows c.in-Ok.ensures.tried c.args.first.now c.args.second.now c.put.result c.in-Ok.ensures.bytes c.put.ensures

pub returns-in-Err : goal.returns-in-Err
returns-in-Err g c =
    let seen = g.K.Sink.seen in
    in_first (seen c.args.writer.now) (seen c.push_all.new.writer) c.args.first.now c.args.second.now (search rules) c.in-Err.ensures.bytes
