use Rattle.std.proofs.Common.{◌≡◌, ◌∙◌, ℕ, ap, sym, false, length, arith}
use Rattle.std.specs.Prelude.{◌==◌}
use Rattle.omf_frame.specs.declared.fault.Reason.TheVariants.{NoEnd, Cut}
use Rattle.omf_frame.specs.Fault.{Fault}
use Rattle.omf_frame.specs.Framing.{is_whole}
use Rattle.omf_frame.specs.Framer.{Buffer}
use Rattle.omf_frame.specs.contracts.framer.Framer.{the_view}
use Rattle.omf_frame.proofs.Records.{cut_at, empty_at, stops_with}
use Rattle.omf_frame.proofs.framer.Framer.stop.Goals as goal
use Rattle.omf_frame.proofs.framer.Framer.stop.Goals.{then-within-eq0, else-within-eq0}

pub returns : goal.returns
returns c =
    let held = (the_view c.self.inside).held in
    let end : ℕ = c.len-within.result in
    let within : end ≡ length held.bytes = omega (arith, c.len-within.ensures, c.self.inside.bytes.ok.0) in
    let part : is_whole held.bytes ≡ false = rw c.deref.ensures.value at (sym c.is_whole.ensures ∙ c.if-is_whole.false) in
    let stops = λ (fault : Fault). stops_with held c.args.self.now.held c.if-within-eq0.reason fault (ap (λ (b : Buffer). b.held) c.self.view_is) in
    elim c.if-within-eq0.branch [
      | then-within-eq0 w ↦ stops (record { within = end; reason = NoEnd }) w.reason-is c.in_default.is c.if-self.false
          (empty_at (held.number == 0) held.bytes end within w.if-within-eq0.true)
      | else-within-eq0 w ↦ stops (record { within = end; reason = Cut }) w.reason-is c.in_default.is c.if-self.false
          (cut_at (held.number == 0) held.bytes end within (omega (arith, w.if-within-eq0.false)) part c.self.invariant.sound)
    ]
