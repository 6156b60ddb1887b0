use Rattle.std.proofs.Common.{refl, sym, subst, inr}
use Rattle.omf_check.specs.Inner.Parts.{IsChecked}
use Rattle.omf_check.proofs.SessionLaws.{stop_fault, stop_ok, checked_of, framing_not_read}
use Rattle.omf_check.proofs.session.finished.Goals as goal

pub returns-in-Err : goal.returns-in-Err
returns-in-Err c =
    let h = stop_fault c.args.profile c.args.framer.now.held c.args.bytes.items c.args.tables c.requires c.in-Err.fault (sym c.in-Err.ensures) in
    rw c.framing_fault.ensures (framing_not_read c.in-Err.fault, inr (refl, h.0, h.1))

pub new-requires : goal.new-requires
new-requires c =
    subst (λ n. IsChecked c.args.profile c.args.bytes.items c.args.tables n) (sym c.number-count.ensures)
    (checked_of c.args.profile c.args.framer.now.held c.args.bytes.items c.args.tables c.requires (stop_ok c.args.profile c.args.framer.now.held c.args.bytes.items c.args.tables c.requires (sym c.in_default.ensures)))

pub returns : goal.returns
returns c = (
  refl,
  stop_ok c.args.profile c.args.framer.now.held c.args.bytes.items c.args.tables c.requires (sym c.in_default.ensures),
  c.new.ensures,
)
