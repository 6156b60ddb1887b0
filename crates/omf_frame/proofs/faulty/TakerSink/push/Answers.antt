use Rattle.std.proofs.Common.{ap, sym, ◌∙◌}
use Rattle.omf_frame.specs.Inner.Faulty.{Taking, after_push}
use Rattle.omf_frame.specs.contracts.faulty.Taker.{the_view}
use Rattle.omf_frame.proofs.FaultyLaws.{failed_by_turn}
use Rattle.omf_frame.proofs.faulty.TakerSink.push.Goals as goal

pub returns-in-Some-clause-after : goal.returns-in-Some-clause-after
returns-in-Some-clause-after c =
    failed_by_turn (the_view c.self.inside) c.args.bytes.now _ _ _ _ _ (sym c.in-Some.is ∙ c.failure_due.ensures.answer) c.failure_due.ensures.due c.failure_due.ensures.failing c.fails.ensures.failures c.fails.ensures.breaks
    ∙ ap (λ (t : Taking). after_push t c.args.bytes.now) c.self.view_is
