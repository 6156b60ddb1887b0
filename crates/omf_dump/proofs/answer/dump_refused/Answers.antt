use Rattle.std.proofs.Common.{List, ℕ, subst, arith}
use Rattle.omf_frame.specs.Device.{Writes}
use Rattle.omf_check.specs.WellFormed.{recs}
use Rattle.omf_dump.specs.Refused.{refusal_text}
use Rattle.omf_dump.proofs.AnswerLaws.{refused_records, starts_within}
use Rattle.omf_dump.proofs.StreamLaws.{first_failed, then_more}
use Rattle.std.proofs.lemmas.Result.{err_from_is_err_and}
use Rattle.omf_dump.proofs.answer.dump_refused.Goals as goal

pub split_at-requires : goal.split_at-requires
split_at-requires g c = starts_within c.requires.0 c.args.input.now c.args.fault.0 c.args.fault.1 c.requires.1

pub dump-requires : goal.dump-requires
dump-requires g c = record {
  records = (c.requires.1.before, refused_records c.requires.0 c.args.input.now c.split_at.result.0.now c.args.fault.0 c.args.fault.1 c.requires.1 (λ i. omega (arith, c.type_inv.input i)) c.split_at.ensures.front (omega arith));
  start = c.nothing_known-known.ensures;
}

pub returns-in_err-dump : goal.returns-in_err-dump
returns-in_err-dump g c = λ profile r.
    let p = err_from_is_err_and c.from_residual.result c.from_residual.ensures.1 in
    let are = refused_records profile c.args.input.now c.split_at.result.0.now c.args.fault.0 c.args.fault.1 r (λ i. omega (arith, c.type_inv.input i)) c.split_at.ensures.front (omega arith) in
    rw p.1 (first_failed (g.K.Sink.seen c.args.writer.now).bytes (g.K.Sink.seen c.dump.new.writer).bytes _ _ (c.in_err-dump.ensures.text r.before are))

pub returns : goal.returns
returns g c = λ profile r.
    let are = refused_records profile c.args.input.now c.split_at.result.0.now c.args.fault.0 c.args.fault.1 r (λ i. omega (arith, c.type_inv.input i)) c.split_at.ensures.front (omega arith) in
    let last = subst (λ (t : List ℕ). Writes (g.K.Sink.seen c.dump.new.writer).bytes (g.K.Sink.seen c.dump_fault.new.writer).bytes c.dump_fault.result (refusal_text c.args.style (recs r.before) c.args.fault.1 c.args.fault.0 t)) c.split_at.ensures.back
    (c.dump_fault.ensures (recs r.before) (c.in_ok-dump.ensures.holds r.before are)) in
    then_more (g.K.Sink.seen c.args.writer.now).bytes (g.K.Sink.seen c.dump.new.writer).bytes (g.K.Sink.seen c.dump_fault.new.writer).bytes _ _ c.dump_fault.result (c.in_ok-dump.ensures.text r.before are) last
