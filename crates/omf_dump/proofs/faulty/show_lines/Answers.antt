use Rattle.std.proofs.Common.{◌≡◌, ℕ, List, ◌++◌, subst}
use Rattle.std.specs.Prelude.{OnOk}
use Rattle.omf_dump.specs.Later.{unjudged_text}
use Rattle.omf_dump.specs.Refused.{refused_record}
use Rattle.omf_dump.specs.declared.format.Format.TheVariants as format
use Rattle.omf_dump.proofs.UnjudgedLaws.{on_any, two_written}
use Rattle.omf_dump.proofs.faulty.show_lines.Goals as goal

pub returns-clause-text : goal.returns-clause-text
returns-clause-text c = λ before h.
    let fault = c.args.fault in
    let why : List ℕ = refused_record format.Text fault.place fault.reason fault.rest.now in
    subst (λ (n : ℕ). OnOk c.show_refusal.result (c.show_refusal.new.text.items ≡ c.args.text.now.items ++ (unjudged_text c.args.style before c.args.state.now.lost n fault.place.start fault.rest.now ++ why))) c.from.ensures
    (two_written c.show_refusal.result _ _ _ _ why (c.in_ok-put_unjudged.ensures.text before h) c.show_refusal.ensures)

pub returns-clause-lost : goal.returns-clause-lost
returns-clause-lost c = on_any c.show_refusal.result c.in_ok-put_unjudged.ensures.lost

pub returns-clause-holds : goal.returns-clause-holds
returns-clause-holds c = λ before h. on_any c.show_refusal.result (c.in_ok-put_unjudged.ensures.holds before h)
