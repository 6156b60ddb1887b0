use Rattle.std.proofs.Common.{◌≡◌, ℕ, List, [], ◌∷◌, ◌++◌, true, false, subst, ◌∙◌}
use Rattle.std.specs.Prelude.{OnOk}
use Rattle.omf_records.specs.Values.{Rec}
use Rattle.omf_dump.specs.Inner.Walking.{Holds}
use Rattle.omf_dump.specs.Known.{tables}
use Rattle.omf_dump.specs.Later.{lost_by}
use Rattle.omf_dump.specs.Refused.{has_fields}
use Rattle.omf_dump.proofs.UnjudgedLaws.{fault_known, fault_unknown, held_unread, kept_known, kept_unknown, lost_known, lost_unknown, on_any, on_ok}
use Rattle.omf_dump.proofs.faulty.show_fault.Goals as goal

pub returns-then-not-has_fields-clause-text : goal.returns-then-not-has_fields-clause-text
returns-then-not-has_fields-clause-text c = λ before h.
    let fault = c.args.fault in
    let no : has_fields fault.rest.now ≡ false = cc in
    subst (λ (t : List ℕ). OnOk c.show_unknown.result (c.show_unknown.new.text.items ≡ c.args.text.now.items ++ t)) (fault_unknown c.args.style before c.args.state.now.lost fault.place fault.reason fault.rest.now no) c.show_unknown.ensures

pub returns-then-not-has_fields-clause-holds : goal.returns-then-not-has_fields-clause-holds
returns-then-not-has_fields-clause-holds c = λ before h.
    let fault = c.args.fault in
    let no : has_fields fault.rest.now ≡ false = cc in
    on_any c.show_unknown.result (subst (λ (r : Rec). Holds c.args.state.now.known (before ++ r ∷ [])) (kept_unknown (tables before) c.args.state.now.lost fault.rest.now no) (held_unread c.args.state.now.known before fault.rest.now h))

pub returns-then-not-has_fields-clause-lost : goal.returns-then-not-has_fields-clause-lost
returns-then-not-has_fields-clause-lost c =
    let fault = c.args.fault in
    let no : has_fields fault.rest.now ≡ false = cc in
    on_any c.show_unknown.result (lost_unknown c.args.state.now.known.tables c.args.state.now.lost fault.rest.now no)

pub returns-clause-text : goal.returns-clause-text
returns-clause-text c = λ before h.
    let fault = c.args.fault in
    let yes_known : has_fields fault.rest.now ≡ true = cc in
    subst (λ (t : List ℕ). OnOk c.show_both.result (c.show_both.new.text.items ≡ c.args.text.now.items ++ t)) (fault_known c.args.style before c.args.state.now.lost fault.place fault.reason fault.rest.now yes_known) (c.show_both.ensures.text before h)

pub returns-clause-holds : goal.returns-clause-holds
returns-clause-holds c = λ before h.
    let fault = c.args.fault in
    let yes_known : has_fields fault.rest.now ≡ true = cc in
    subst (λ (r : Rec). OnOk c.show_both.result (Holds c.show_both.new.state.known (before ++ r ∷ []))) (kept_known (tables before) c.args.state.now.lost fault.rest.now yes_known) (c.show_both.ensures.holds before h)

pub returns-clause-lost : goal.returns-clause-lost
returns-clause-lost c =
    let fault = c.args.fault in
    let yes_known : has_fields fault.rest.now ≡ true = cc in
    on_ok c.show_both.result (λ (q : c.show_both.new.state.lost ≡ lost_by c.args.state.now.known.tables c.args.state.now.lost fault.rest.now). q ∙ lost_known c.args.state.now.known.tables c.args.state.now.lost fault.rest.now yes_known) c.show_both.ensures.lost
