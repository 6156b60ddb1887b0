use Rattle.std.proofs.Common.{◌≡◌, ℕ, ◌+◌, List, ◌++◌, drop, true, false, ap, subst, ◌∙◌}
use Rattle.omf_dump.specs.Inner.Walking.{Passes}
use Rattle.omf_dump.specs.Later.{goes_on}
use Rattle.omf_dump.proofs.LaterLaws.{none_follows, nothing_sent}
use Rattle.omf_dump.proofs.UnjudgedLaws.{followed}
use Rattle.omf_dump.proofs.later.put_later.Goals as goal

pub returns-then-not-goes_on : goal.returns-then-not-goes_on
returns-then-not-goes_on g c = λ before h.
    let place = c.args.fault.place in
    let bytes : List ℕ = c.args.fault.rest.now in
    let no : goes_on place.number bytes ≡ false = cc in
    nothing_sent (g.K.Sink.seen c.args.writer.now).bytes c.args.text.now.items _ (none_follows c.args.style before c.args.state.now.lost place.number place.start bytes no)

pub returns : goal.returns
returns g c = λ before h.
    let place = c.args.fault.place in
    let bytes : List ℕ = c.args.fault.rest.now in
    let goes : goes_on place.number bytes ≡ true = cc in
    let size = c.stated_length-size.ensures.value in
    let is = followed c.args.style before c.args.state.now.lost place.number place.start _ _ bytes c.split_at.result.1.now goes (ap (λ (n : ℕ). n + 1) c.from.ensures) (ap (λ (n : ℕ). place.start + (3 + n)) size) (c.split_at.ensures.back ∙ ap (λ (n : ℕ). drop (3 + n) bytes) size) in
    subst (λ (t : List ℕ). Passes (g.K.Sink.seen c.args.writer.now).bytes (g.K.Sink.seen c.put_from.new.writer).bytes c.put_from.result (c.args.text.now.items ++ t) c.put_from.new.text.items) is (c.put_from.ensures before h)
