use Rattle.std.proofs.Common.{◌≡◌, ℕ, List, ◌++◌, subst}
use Rattle.std.specs.Prelude.{OnOk}
use Rattle.omf_dump.proofs.UnjudgedLaws.{held_after, on_ok, shown_after_these}
use Rattle.omf_dump.proofs.later.put_unjudged_body.Goals as goal

pub returns-clause-text : goal.returns-clause-text
returns-clause-text c = λ before h.
    let is = shown_after_these c.args.style c.args.state.now.known before c.args.state.now.lost c.front_kind.result c.front_contents.result.now c.args.bytes.now c.front_kind.ensures c.front_contents.ensures.value h in
    subst (λ (t : List ℕ). OnOk c.show_unjudged.result (c.show_unjudged.new.text.items ≡ c.args.text.now.items ++ t)) is c.show_unjudged.ensures.text

pub returns-clause-holds : goal.returns-clause-holds
returns-clause-holds c = λ before h.
    on_ok c.show_unjudged.result (held_after c.args.state.now.known c.show_unjudged.new.state.known before c.args.state.now.lost c.front_kind.result c.front_contents.result.now c.args.bytes.now c.front_kind.ensures c.front_contents.ensures.value h) c.show_unjudged.ensures.keeps
