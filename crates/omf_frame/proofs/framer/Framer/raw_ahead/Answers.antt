use Rattle.std.proofs.Common.{◌≡◌, ap, length, arith}
use Rattle.omf_frame.specs.Framer.{Buffer}
use Rattle.omf_frame.specs.contracts.framer.Framer.{the_view}
use Rattle.omf_frame.proofs.Ahead.{on_some, on_both, no_bytes, takes_ahead, between_at}
use Rattle.omf_frame.proofs.framer.Framer.raw_ahead.Goals as goal

pub returns-clause-between : goal.returns-clause-between
returns-clause-between c =
    let a = c.self.inside in
    let none : length a.bytes.items ≡ 0 = omega (arith, c.if-len-ne0.false, c.len.ensures, a.bytes.ok.0) in
    on_some c.whole_front.result (between_at (the_view a).held c.args.self.now.held (ap (λ (b : Buffer). b.held) c.self.view_is) c.in_default.is c.if-self-eq0.false c.if-self.false none)

pub returns-clause-fed : goal.returns-clause-fed
returns-clause-fed c =
    let a = c.self.inside in
    let none : length a.bytes.items ≡ 0 = omega (arith, c.if-len-ne0.false, c.len.ensures, a.bytes.ok.0) in
    rw (← c.self.view_is) (on_both c.whole_front.result c.whole_front.ensures.present c.whole_front.ensures.standing c.whole_front.ensures.whole
    (λ p q r. takes_ahead a.bytes.items a.number a.start a.ended a.fault c.args.ahead.now (no_bytes a.bytes.items none) c.if-self.false c.in_default.is p q r))
