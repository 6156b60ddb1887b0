use Rattle.std.proofs.Common.{ℕ, List, subst}
use Rattle.omf_frame.specs.Device.{Writes}
use Rattle.omf_dump.proofs.StreamLaws.{then_sent}
use Rattle.omf_dump.proofs.walk.dump.Goals as goal

pub returns-clause-text : goal.returns-clause-text
returns-clause-text g c = λ records are.
    let last = subst (λ (t : List ℕ). Writes (g.K.Sink.seen c.show_records.new.writer).bytes (g.K.Sink.seen c.send.new.writer).bytes c.send.result t) c.deref.ensures.value c.send.ensures in
    then_sent (g.K.Sink.seen c.args.writer.now).bytes (g.K.Sink.seen c.show_records.new.writer).bytes (g.K.Sink.seen c.send.new.writer).bytes _ c.show_records.new.text.items c.send.result (c.in_ok-show_records.ensures.text records are) last
