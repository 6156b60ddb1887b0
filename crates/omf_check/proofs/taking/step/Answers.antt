use Rattle.std.proofs.Common.{sym, subst, refl, arith, take, ◌++◌}
use Rattle.std.proofs.lemmas.Result.{err_from_is_err_and}
use Rattle.omf_check.specs.Inner.Passing.{Fails, IsStopped}
use Rattle.omf_check.proofs.Advancing.{framer_fails, take_fails, start_low, number_low, part_lacks, none_passed, record_passed}
use Rattle.omf_check.proofs.taking.step.Goals as goal

pub returns-in-Err-clause-cause : goal.returns-in-Err-clause-cause
returns-in-Err-clause-cause g c =
    λ taken p. subst (Fails c.args.profile c.args.framer.now.held taken c.args.piece.now) (sym c.framing_fault.ensures)
    (framer_fails c.args.profile c.args.framer.now.held taken c.args.tables.now p c.args.piece.now c.in-Err.fault c.feed.new.self.held c.in-Err.ensures.err)

pub accept-requires-clause-start : goal.accept-requires-clause-start
accept-requires-clause-start g c =
    start_low c.args.profile c.args.framer.now.held c.requires.0 c.args.tables.now c.requires.1 c.args.piece.now c.in-Ok.fed.taken c.in-Ok.fed.whole c.feed.new.self.held c.in-Ok.ensures.ok
    c.in-Some.raw.start c.in-Some.ensures.start

pub returns-in-Err-accept-clause-cause : goal.returns-in-Err-accept-clause-cause
returns-in-Err-accept-clause-cause g c =
    λ taken p.
    take_fails c.args.profile c.args.framer.now.held taken c.args.tables.now p c.args.piece.now c.in-Ok.fed.taken c.in-Ok.fed.whole c.feed.new.self.held c.in-Ok.ensures.ok
    c.stopped.result c.in-Some.raw.kind c.in-Some.raw.number c.in-Some.raw.start c.in-Some.raw.body.now
    (sym c.in-Some.ensures.stands) c.in-Some.ensures.sound c.in-Some.ensures.record c.in-Some.ensures.spelled c.in-Some.ensures.kind c.in-Some.ensures.body c.in-Some.ensures.number c.in-Some.ensures.start
    (λ i. omega (arith, c.type_inv.piece i))
    (subst (λ found. IsStopped found c.in-Some.raw.number c.in-Some.raw.start c.stopped.result) c.in-Err-accept.ensures.cause c.stopped.ensures)

pub next-requires-clause-number : goal.next-requires-clause-number
next-requires-clause-number g c =
    number_low c.args.profile c.args.framer.now.held c.requires.0 c.args.tables.now c.requires.1 c.args.piece.now c.in-Ok.fed.taken c.in-Ok.fed.whole c.feed.new.self.held c.in-Ok.ensures.ok

pub returns-in_ok-keep-in-None-clause-passing : goal.returns-in_ok-keep-in-None-clause-passing
returns-in_ok-keep-in-None-clause-passing g c =
    λ taken p. none_passed c.args.profile c.args.framer.now.held taken c.args.tables.now p c.args.piece.now c.in-Ok.fed.taken c.in-Ok.fed.whole c.feed.new.self.held c.in-Ok.ensures.ok
    (taken ++ take c.in-Ok.fed.taken c.args.piece.now) refl (λ i. omega (arith, c.type_inv.piece i)) c.in-Ok.ensures.small (sym c.in-None.ensures.stands)

pub returns-in_default-clause-passing : goal.returns-in_default-clause-passing
returns-in_default-clause-passing g c =
    λ taken p. record_passed c.args.profile c.args.framer.now.held taken c.args.tables.now p c.args.piece.now c.in-Ok.fed.taken c.in-Ok.fed.whole c.feed.new.self.held c.in-Ok.ensures.ok
    (taken ++ take c.in-Ok.fed.taken c.args.piece.now) c.next.new.self.held c.accept.new.tables c.in-Some.raw.kind c.in-Some.raw.start c.in-Some.raw.body.now
    refl (λ i. omega (arith, c.type_inv.piece i)) (sym c.in-Some.ensures.stands) c.next.ensures.held
    c.in-Some.ensures.sound c.in-Some.ensures.record c.in-Some.ensures.spelled c.in-Some.ensures.kind c.in-Some.ensures.body c.in-Some.ensures.start
    c.in_default.ensures.sound c.in_default.ensures.tables c.in_default.ensures.bounded

pub returns-in_err-keep-in-None-clause-cause : goal.returns-in_err-keep-in-None-clause-cause
returns-in_err-keep-in-None-clause-cause g c =
    λ taken p. let e = err_from_is_err_and c.from_residual.result c.from_residual.ensures.1 in
    rw (e.1, e.2) (
    part_lacks c.args.profile c.args.framer.now.held taken c.args.tables.now p c.args.piece.now c.in-Ok.fed.taken c.in-Ok.fed.whole c.feed.new.self.held c.in-Ok.ensures.ok
    c.in_err-keep-in-None.ensures.needed (sym c.in-None.ensures.stands))
