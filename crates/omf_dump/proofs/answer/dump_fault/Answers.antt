use Rattle.std.proofs.Common.{◌≡◌, ℕ, List, [], ◌∷◌, ◌++◌, ap, subst, ◌∙◌}
use Rattle.std.proofs.lemmas.Result.{err_from_is_err_and}
use Rattle.omf_frame.specs.Device.{Writes}
use Rattle.omf_dump.specs.Inner.Walking.{Holds, IsSent}
use Rattle.omf_dump.specs.Known.{tables}
use Rattle.omf_dump.specs.Later.{later_text}
use Rattle.omf_dump.specs.Refused.{fault_record, faulty_lost, faulty_record, own_lost}
use Rattle.omf_dump.specs.declared.lost.Lost.{Lost}
use Rattle.omf_records.specs.Values.{Rec}
use Rattle.omf_dump.proofs.StreamLaws.{IsPart, none_sent, then_sent}
use Rattle.omf_dump.proofs.UnjudgedLaws.{lost_then}
use Rattle.omf_dump.proofs.answer.dump_fault.Goals as goal

pub returns-in_err-put_later : goal.returns-in_err-put_later
returns-in_err-put_later g c = λ before h.
    let fault = c.args.fault in
    let rest : List ℕ = fault.rest.now in
    let lost : Lost = own_lost fault.reason rest in
    let kept : List Rec = before ++ faulty_record (tables before) lost rest ∷ [] in
    let gone : Lost = faulty_lost (tables before) lost rest in
    let made : c.show_fault.new.text.items ≡ fault_record c.args.style before lost fault.place fault.reason rest =
    c.in-Ok.ensures.text before h ∙ ap (λ (t : List ℕ). t ++ fault_record c.args.style before c.own_lost.result fault.place fault.reason rest) c.new-text.ensures.items
    ∙ ap (λ (l : Lost). fault_record c.args.style before l fault.place fault.reason rest) c.own_lost.ensures in
    let held = subst (λ (l : Lost). Holds c.show_fault.new.state.known (before ++ faulty_record (tables before) l rest ∷ [])) c.own_lost.ensures (c.in-Ok.ensures.holds before h) in
    let is_gone : c.show_fault.new.state.lost ≡ gone = lost_then c.args.known before c.own_lost.result lost c.show_fault.new.state.lost rest h c.own_lost.ensures c.in-Ok.ensures.lost in
    let p = err_from_is_err_and c.from_residual.result c.from_residual.ensures.1 in
    rw p.1 (subst (λ (t : List ℕ). IsPart (g.K.Sink.seen c.args.writer.now).bytes (g.K.Sink.seen c.put_later.new.writer).bytes (t ++ later_text c.args.style kept gone fault.place.number fault.place.start rest)) made
    (subst (λ (l : Lost). IsPart (g.K.Sink.seen c.args.writer.now).bytes (g.K.Sink.seen c.put_later.new.writer).bytes (c.show_fault.new.text.items ++ later_text c.args.style kept l fault.place.number fault.place.start rest)) is_gone (c.in_err-put_later.ensures kept held)))

pub returns-in_default : goal.returns-in_default
returns-in_default g c = λ before h. none_sent (g.K.Sink.seen c.args.writer.now).bytes _

pub returns : goal.returns
returns g c = λ before h.
    let fault = c.args.fault in
    let rest : List ℕ = fault.rest.now in
    let lost : Lost = own_lost fault.reason rest in
    let kept : List Rec = before ++ faulty_record (tables before) lost rest ∷ [] in
    let gone : Lost = faulty_lost (tables before) lost rest in
    let made : c.show_fault.new.text.items ≡ fault_record c.args.style before lost fault.place fault.reason rest =
    c.in-Ok.ensures.text before h ∙ ap (λ (t : List ℕ). t ++ fault_record c.args.style before c.own_lost.result fault.place fault.reason rest) c.new-text.ensures.items
    ∙ ap (λ (l : Lost). fault_record c.args.style before l fault.place fault.reason rest) c.own_lost.ensures in
    let held = subst (λ (l : Lost). Holds c.show_fault.new.state.known (before ++ faulty_record (tables before) l rest ∷ [])) c.own_lost.ensures (c.in-Ok.ensures.holds before h) in
    let is_gone : c.show_fault.new.state.lost ≡ gone = lost_then c.args.known before c.own_lost.result lost c.show_fault.new.state.lost rest h c.own_lost.ensures c.in-Ok.ensures.lost in
    let last = subst (λ (t : List ℕ). Writes (g.K.Sink.seen c.put_later.new.writer).bytes (g.K.Sink.seen c.send.new.writer).bytes c.send.result t) c.deref.ensures.value c.send.ensures in
    let sent = subst (λ (t : List ℕ). IsSent (g.K.Sink.seen c.args.writer.now).bytes (g.K.Sink.seen c.put_later.new.writer).bytes (t ++ later_text c.args.style kept gone fault.place.number fault.place.start rest) c.put_later.new.text.items) made
    (subst (λ (l : Lost). IsSent (g.K.Sink.seen c.args.writer.now).bytes (g.K.Sink.seen c.put_later.new.writer).bytes (c.show_fault.new.text.items ++ later_text c.args.style kept l fault.place.number fault.place.start rest) c.put_later.new.text.items) is_gone (c.in_ok-put_later.ensures kept held)) in
    then_sent (g.K.Sink.seen c.args.writer.now).bytes (g.K.Sink.seen c.put_later.new.writer).bytes (g.K.Sink.seen c.send.new.writer).bytes _ c.put_later.new.text.items c.send.result sent last
