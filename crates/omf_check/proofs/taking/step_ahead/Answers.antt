use Rattle.std.proofs.Common.{sym, subst, arith, take}
use Rattle.std.specs.Io.KnownBytes.{Consumes}
use Rattle.omf_check.specs.Inner.Ahead.{StopsAhead}
use Rattle.omf_check.specs.Inner.Passing.{IsStopped}
use Rattle.omf_check.proofs.AheadLaws.{none_ahead, start_fits, number_fits, accepted, refused}
use Rattle.omf_check.proofs.taking.step_ahead.Goals as goal

pub returns-in_default-clause-moves : goal.returns-in_default-clause-moves
returns-in_default-clause-moves g c = λ taken p. none_ahead c.args.profile c.args.framer.now.held taken c.args.tables.now p (g.S.Source.seen c.args.reader.now).bytes (g.K.Keeper.kept c.args.keeper.now)

pub pass-size-requires-clause-number : goal.pass-size-requires-clause-number
pass-size-requires-clause-number g c = number_fits c.args.profile c.args.framer.now.held c.requires.0 c.args.tables.now c.requires.1 c.ahead-ahead.result.now c.in-Some.ensures.between c.in-Some.ensures.fed c.in-Some.ensures.present

pub accept-accepted-requires-clause-start : goal.accept-accepted-requires-clause-start
accept-accepted-requires-clause-start g c =
    start_fits c.args.profile c.args.framer.now.held c.requires.0 c.args.tables.now c.requires.1 c.ahead-ahead.result.now c.in-Some.ensures.between c.in-Some.ensures.fed c.in-Some.ensures.present c.in-Some.raw.start c.in-Some.ensures.start

pub returns-in-Ok-clause-moves : goal.returns-in-Ok-clause-moves
returns-in-Ok-clause-moves g c = λ taken p.
    accepted c.args.profile c.args.framer.now.held taken c.args.tables.now p c.ahead-ahead.result.now c.in-Some.ensures.between c.in-Some.ensures.fed c.in-Some.ensures.present
    c.in-Some.raw.kind c.in-Some.raw.number c.in-Some.raw.start c.in-Some.raw.body.now (λ i. let fits = c.ahead-ahead.items_fit i in omega (arith, fits)) c.in-Some.ensures.sound c.in-Some.ensures.record c.in-Some.ensures.spelled c.in-Some.ensures.kind c.in-Some.ensures.body c.in-Some.ensures.number c.in-Some.ensures.start
    c.pass-size.new.self.held c.accept-accepted.new.tables c.pass-size.result (g.S.Source.seen c.args.reader.now).bytes (g.S.Source.seen c.consume.new.self).bytes (g.K.Keeper.kept c.args.keeper.now) (g.K.Keeper.kept c.accept-accepted.new.keeper)
    c.pass-size.ensures.size (subst (λ x. Consumes (g.S.Source.seen c.args.reader.now).bytes (g.S.Source.seen c.consume.new.self).bytes (take c.pass-size.result x)) (sym c.ahead-ahead.ensures.all) c.consume.ensures.bytes)
    c.in-Ok.ensures.grown c.pass-size.ensures.passed c.in-Ok.ensures.sound c.in-Ok.ensures.tables c.in-Ok.ensures.bounded

pub returns-in-Err-clause-cause : goal.returns-in-Err-clause-cause
returns-in-Err-clause-cause g c = λ taken p.
    subst (λ x. StopsAhead c.args.profile c.args.framer.now.held taken x (g.S.Source.seen c.args.reader.now).bytes (g.S.Source.seen c.consume.new.self).bytes c.stopped.result) c.ahead-ahead.ensures.all (
    refused c.args.profile c.args.framer.now.held taken c.args.tables.now p c.ahead-ahead.result.now c.in-Some.ensures.between c.in-Some.ensures.fed c.in-Some.ensures.present
    c.in-Some.raw.kind c.in-Some.raw.number c.in-Some.raw.start c.in-Some.raw.body.now (λ i. let fits = c.ahead-ahead.items_fit i in omega (arith, fits)) c.in-Some.ensures.sound c.in-Some.ensures.record c.in-Some.ensures.spelled c.in-Some.ensures.kind c.in-Some.ensures.body c.in-Some.ensures.number c.in-Some.ensures.start
    c.stopped.result c.pass-size.result (g.S.Source.seen c.args.reader.now).bytes (g.S.Source.seen c.consume.new.self).bytes
    c.ahead-ahead.ensures.front c.pass-size.ensures.size (subst (λ x. Consumes (g.S.Source.seen c.args.reader.now).bytes (g.S.Source.seen c.consume.new.self).bytes (take c.pass-size.result x)) (sym c.ahead-ahead.ensures.all) c.consume.ensures.bytes)
    c.in-Some.ensures.taken
    (subst (λ found. IsStopped found c.in-Some.raw.number c.in-Some.raw.start c.stopped.result) c.in-Err.ensures.cause c.stopped.ensures))
