use Rattle.std.proofs.Common.{◌∙◌, ◌++◌, ◌+◌, refl, arith}
use Rattle.std.proofs.lemmas.Result.{err_from_is_err_and}
use Rattle.omf_check.proofs.AheadLaws.{none_ahead, joined, joined_none, stopped_later, size_low}
use Rattle.omf_check.proofs.taking.pass_ahead.Goals as goal

pub loop-count-init : goal.loop-count-init
loop-count-init g c = record {
  passed = record {
    moved = λ taken p. none_ahead c.args.profile c.args.framer.now.held taken c.args.tables.now p (g.S.Source.seen c.args.reader.now).bytes (g.K.Keeper.kept c.args.keeper.now);
    failures = refl;
    breaks = refl;
  };
  room = omega arith;
}

pub step_ahead-requires : goal.step_ahead-requires
step_ahead-requires g c = let m = (c.loop-count.invariant.passed.moved c.requires.0 c.requires.1) in (c.requires.0 ++ m.passed, m.passing)

pub returns-in_err-count-clause-cause : goal.returns-in_err-count-clause-cause
returns-in_err-count-clause-cause g c = λ taken p.
    let m = (c.loop-count.invariant.passed.moved taken p) in
    let e = err_from_is_err_and c.from_residual.result c.from_residual.ensures.1 in
    rw (e.1, e.2) (
    stopped_later c.args.profile taken c.loop-count.size (g.S.Source.seen c.args.reader.now).bytes (g.S.Source.seen c.loop-count.reader).bytes (g.K.Keeper.kept c.args.keeper.now) (g.K.Keeper.kept c.loop-count.keeper) c.loop-count.framer.held c.loop-count.tables m (g.S.Source.shown c.loop-count.reader) (g.S.Source.seen c.step_ahead.new.reader).bytes c.in_err-count.field-0.0 (c.in_err-count.ensures.cause (taken ++ m.passed) m.passing))

pub returns-then-count-eq0-clause-moves : goal.returns-then-count-eq0-clause-moves
returns-then-count-eq0-clause-moves g c = λ taken p.
    let m = (c.loop-count.invariant.passed.moved taken p) in
    joined_none c.args.profile taken c.loop-count.size (g.S.Source.seen c.args.reader.now).bytes (g.S.Source.seen c.loop-count.reader).bytes (g.K.Keeper.kept c.args.keeper.now) (g.K.Keeper.kept c.loop-count.keeper) c.loop-count.framer.held c.loop-count.tables m c.in_ok-count.count (g.S.Source.seen c.step_ahead.new.reader).bytes (g.K.Keeper.kept c.step_ahead.new.keeper) c.step_ahead.new.framer.held c.step_ahead.new.tables c.if-count-eq0.true (c.in_ok-count.ensures.moves (taken ++ m.passed) m.passing)

pub overflow_add-size : goal.overflow_add-size
overflow_add-size g c =
    let m = (c.loop-count.invariant.passed.moved c.requires.0 c.requires.1) in
    let q = joined c.args.profile c.requires.0 c.loop-count.size (g.S.Source.seen c.args.reader.now).bytes (g.S.Source.seen c.loop-count.reader).bytes (g.K.Keeper.kept c.args.keeper.now) (g.K.Keeper.kept c.loop-count.keeper) c.loop-count.framer.held c.loop-count.tables m c.in_ok-count.count (g.S.Source.seen c.step_ahead.new.reader).bytes (g.K.Keeper.kept c.step_ahead.new.keeper) c.step_ahead.new.framer.held c.step_ahead.new.tables (c.in_ok-count.ensures.moves (c.requires.0 ++ m.passed) m.passing) in
    let low = size_low c.args.profile c.requires.0 (c.loop-count.size + c.in_ok-count.count) (g.S.Source.seen c.args.reader.now).bytes (g.S.Source.seen c.step_ahead.new.reader).bytes (g.K.Keeper.kept c.args.keeper.now) (g.K.Keeper.kept c.step_ahead.new.keeper) c.step_ahead.new.framer.held c.step_ahead.new.tables q in
    omega (arith, low)

pub loop-count-smaller : goal.loop-count-smaller
loop-count-smaller g c =
    let m = (c.loop-count.invariant.passed.moved c.requires.0 c.requires.1) in
    let q = joined c.args.profile c.requires.0 c.loop-count.size (g.S.Source.seen c.args.reader.now).bytes (g.S.Source.seen c.loop-count.reader).bytes (g.K.Keeper.kept c.args.keeper.now) (g.K.Keeper.kept c.loop-count.keeper) c.loop-count.framer.held c.loop-count.tables m c.in_ok-count.count (g.S.Source.seen c.step_ahead.new.reader).bytes (g.K.Keeper.kept c.step_ahead.new.keeper) c.step_ahead.new.framer.held c.step_ahead.new.tables (c.in_ok-count.ensures.moves (c.requires.0 ++ m.passed) m.passing) in
    let low = size_low c.args.profile c.requires.0 (c.loop-count.size + c.in_ok-count.count) (g.S.Source.seen c.args.reader.now).bytes (g.S.Source.seen c.step_ahead.new.reader).bytes (g.K.Keeper.kept c.args.keeper.now) (g.K.Keeper.kept c.step_ahead.new.keeper) c.step_ahead.new.framer.held c.step_ahead.new.tables q in
    omega (arith, low, c.if-count-eq0.false)

pub loop-count-preserved : goal.loop-count-preserved
loop-count-preserved g c = record {
  passed = record {
    moved = λ taken p.
        let m = (c.loop-count.invariant.passed.moved taken p) in
        joined c.args.profile taken c.loop-count.size (g.S.Source.seen c.args.reader.now).bytes (g.S.Source.seen c.loop-count.reader).bytes (g.K.Keeper.kept c.args.keeper.now) (g.K.Keeper.kept c.loop-count.keeper) c.loop-count.framer.held c.loop-count.tables m c.in_ok-count.count (g.S.Source.seen c.step_ahead.new.reader).bytes (g.K.Keeper.kept c.step_ahead.new.keeper) c.step_ahead.new.framer.held c.step_ahead.new.tables (c.in_ok-count.ensures.moves (taken ++ m.passed) m.passing);
    failures = c.step_ahead.ensures.failures ∙ c.loop-count.invariant.passed.failures;
    breaks = c.step_ahead.ensures.breaks ∙ c.loop-count.invariant.passed.breaks;
  };
  room = let low = c.loop-count.invariant.room in let more = c.step_ahead.ensures.room in omega (arith, low, more);
}
