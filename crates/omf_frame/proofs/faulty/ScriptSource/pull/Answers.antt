use Rattle.std.proofs.Common.{ℕ, ap, sym, ◌∙◌, length, arith}
use Rattle.omf_frame.specs.Inner.Faulty.{Scripted, after_pull}
use Rattle.omf_frame.proofs.FaultyLaws.{gives_front, front_and_rest, some_given, pull_failed_by_turn}
use Rattle.omf_frame.proofs.faulty.ScriptSource.pull.Goals as goal

pub returns-then-not-is_empty-clause-bytes : goal.returns-then-not-is_empty-clause-bytes
returns-then-not-is_empty-clause-bytes c = rw (← c.self.view_is) (gives_front _ _ _ _ _ (front_and_rest _ _ _ _ _ c.copy_front-count.ensures.copied c.split_at.ensures.back c.copy_front-count.ensures.count) (some_given _ _ _ _ c.is_empty.ensures c.if-not-is_empty.true (omega arith) c.copy_front-count.ensures.count))

pub returns-in-Some-clause-after : goal.returns-in-Some-clause-after
returns-in-Some-clause-after c =
    let i = c.self.inside in
    let old : Scripted = record { bytes = i.bytes.now; after = i.then; piece = i.piece; interruptions = i.interruptions; due = i.due; fails_in = i.fails_in; failures = i.tally.failures; breaks = i.tally.breaks } in
    let room : ℕ = length c.args.buf.now in
    pull_failed_by_turn old room _ _ _ _ _ (sym c.in-Some.is ∙ c.failure_due.ensures.answer) c.failure_due.ensures.due c.failure_due.ensures.failing c.fails.ensures.failures c.fails.ensures.breaks
    ∙ ap (λ (s : Scripted). after_pull s room) c.self.view_is
