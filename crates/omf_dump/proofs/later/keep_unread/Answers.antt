use Rattle.std.proofs.Common.{◌≡◌, ℕ, List, [], false, sym, ap, ap₂, subst, ◌∙◌}
use Rattle.std.specs.Prelude.{Option, is_some, unwrap_or}
use Rattle.omf_frame.specs.declared.kinds.RecordType.{RecordType}
use Rattle.omf_frame.specs.declared.kinds.Width.{Width}
use Rattle.omf_records.specs.Values.{Carried, Contents}
use Rattle.omf_dump.specs.Inner.Showing.{Keeps}
use Rattle.omf_dump.specs.Later.{given, given_if, stand_in}
use Rattle.omf_dump.proofs.GivesLaws.{none_kept}
use Rattle.omf_dump.proofs.later.keep_unread.Goals as goal

pub returns-clause-keeps : goal.returns-clause-keeps
returns-clause-keeps c =
    let old = c.args.state.now.known in
    let lost = c.args.state.now.lost in
    let body : List ℕ = c.args.body.now in
    let all : Option Contents = given old.tables lost c.args.kind body in
    let is : given_if old.tables.names lost c.of-2.result body c.of.result ≡ all = ap₂ (λ (t : Option RecordType) (w : Width). given_if old.tables.names lost w body t) c.of.ensures c.of-2.ensures in
    none_kept old c.give_if.new.state.known c.forget.new.state.known all (stand_in c.args.kind body) (ap is_some (sym is) ∙ sym c.in_ok-is_given.ensures.given ∙ c.if-is_given.false)
    (subst (λ (g : Option Contents). Keeps old (unwrap_or g (Carried [])) c.give_if.new.state.known) is c.in_ok-is_given.ensures.keeps) c.forget.ensures.keeps
