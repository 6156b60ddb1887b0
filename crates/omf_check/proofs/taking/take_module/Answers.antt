use Rattle.std.proofs.Common.{◌∙◌, ◌++◌, [], refl, take, arith, length-append, inl}
use Rattle.std.proofs.KnownBytes.{Appends-nil, Appends-trans}
use Rattle.std.proofs.lemmas.Result.{err_from_is_err_and}
use Rattle.omf_frame.proofs.Tries.{failed_later}
use Rattle.omf_frame.specs.Framing.{record_len}
use Rattle.omf_check.specs.Inner.Passing.{here}
use Rattle.omf_check.specs.Session.{want_with}
use Rattle.omf_check.proofs.AheadLaws.{size_low}
use Rattle.omf_check.proofs.CheckLaws.{piece_low, some_given, consumes_more}
use Rattle.omf_check.proofs.Moving.{starting}
use Rattle.omf_check.proofs.JudgingLaws.{consumes_start, wanted_now, ended_now, running_now, undecided, step_judges, step_cause, step_patient, step_size, step_low, step_more, step_consumes}
use Rattle.omf_check.proofs.taking.take_module.Goals as goal

pub loop-profile-init : goal.loop-profile-init
loop-profile-init g c = record {
  judged = record {
    all = record {
      taken = [];
      passing = starting c.args.profile c.restart.new.self.held [] c.new-tables.result c.restart.ensures.held refl c.new-tables.ensures;
      counted = refl;
      consumed = consumes_start (g.S.Source.seen c.args.reader.now).bytes;
      grown = Appends-nil (g.K.Keeper.kept c.args.keeper.now);
    };
    grows = omega arith;
    passed = omega arith;
    unbroken = refl;
  };
  room = omega arith;
}

pub returns-in_default-clause-cause : goal.returns-in_default-clause-cause
returns-in_default-clause-cause g c =
    let i = c.loop-profile.invariant.judged in
    (failed_later _ (g.S.Source.seen c.loop-profile.reader).failures _ i.grows c.in_default.ensures.cause, undecided c.args.profile c.loop-profile.framer.held i.all.taken c.loop-profile.tables i.all.passing (g.S.Source.seen c.args.reader.now).bytes (g.S.Source.seen c.loop-profile.reader).bytes (g.S.Source.seen c.pull_piece.new.source).bytes i.all.consumed c.in_default.ensures.kept)

pub returns-in_err-fed-clause-verdict : goal.returns-in_err-fed-clause-verdict
returns-in_err-fed-clause-verdict g c =
    let i = c.loop-profile.invariant.judged in
    let e = err_from_is_err_and c.from_residual.result c.from_residual.ensures.1 in
    rw (e.1, e.2) (
    step_judges c.args.profile c.loop-profile.framer.held i.all.taken c.loop-profile.tables i.all.passing (take c.in-Ok.count c.pull_piece.new.buffer) c.in_err-fed.field-0.0 (c.in_err-fed.ensures.cause i.all.taken i.all.passing) c.in_err-fed.ensures.running.0
    (g.S.Source.seen c.args.reader.now).bytes (g.S.Source.seen c.loop-profile.reader).bytes (g.S.Source.seen c.pull_piece.new.source).bytes i.all.consumed c.in-Ok.ensures.bytes)

pub returns-in_err-fed-clause-cause : goal.returns-in_err-fed-clause-cause
returns-in_err-fed-clause-cause g c =
    let i = c.loop-profile.invariant.judged in
    let low = piece_low c.pull_piece.new.buffer c.loop-profile.buffer c.in-Ok.count c.min-want.result c.wanted.result (want_with (here c.args.profile c.loop-profile.framer.held i.all.taken) c.ahead.result.now) c.pull_piece.auto.buffer c.min-want.ensures
    (wanted_now c.args.profile c.loop-profile.framer.held i.all.taken c.loop-profile.tables i.all.passing c.loop-profile.size i.all.counted c.ahead.result.now c.min-want.result c.wanted.result c.wanted.ensures c.min-want.ensures) in
    let e = err_from_is_err_and c.from_residual.result c.from_residual.ensures.1 in
    rw (e.1, e.2) (
    step_cause c.args.profile c.loop-profile.framer.held i.all.taken c.loop-profile.tables i.all.passing (take c.in-Ok.count c.pull_piece.new.buffer) c.in_err-fed.field-0.0 (c.in_err-fed.ensures.cause i.all.taken i.all.passing) c.in_err-fed.ensures.running.0
    c.ahead.result.now (g.S.Source.seen c.args.reader.now).bytes (g.S.Source.seen c.loop-profile.reader).bytes (g.S.Source.seen c.pull_piece.new.source).bytes (g.S.Source.seen c.args.reader.now).failures (g.S.Source.seen c.pull_piece.new.source).failures c.ahead.ensures.front low i.all.consumed c.in-Ok.ensures.bytes)

pub returns-in_err-fed-clause-patient : goal.returns-in_err-fed-clause-patient
returns-in_err-fed-clause-patient g c =
    let i = c.loop-profile.invariant.judged in
    let e = err_from_is_err_and c.from_residual.result c.from_residual.ensures.1 in
    rw (e.1, e.2) (
    step_patient c.args.profile c.loop-profile.framer.held i.all.taken c.loop-profile.tables i.all.passing (take c.in-Ok.count c.pull_piece.new.buffer) c.in_err-fed.field-0.0 (c.in_err-fed.ensures.cause i.all.taken i.all.passing) c.in_err-fed.ensures.running.0
    (g.S.Source.seen c.args.reader.now) (g.S.Source.seen c.pull_piece.new.source) (c.in-Ok.ensures.tried ∙ i.unbroken))

pub overflow_add-size : goal.overflow_add-size
overflow_add-size g c =
    let i = c.loop-profile.invariant.judged in
    let piece = take c.in-Ok.count c.pull_piece.new.buffer in
    let moves = c.in_ok-fed.ensures.moves i.all.taken i.all.passing in
    let passing = c.in_ok-fed.ensures.passing i.all.taken i.all.passing in
    let now = i.all.taken ++ take c.in_ok-fed.fed.taken piece in
    let low = step_low c.args.profile c.loop-profile.framer.held i.all.taken c.loop-profile.tables i.all.passing piece c.in_ok-fed.fed.taken c.in_ok-fed.fed.whole c.step.new.framer.held c.step.new.tables moves passing in
    let size = i.all.counted in
    omega (arith, low, size)

pub returns-in_err-passed-clause-verdict : goal.returns-in_err-passed-clause-verdict
returns-in_err-passed-clause-verdict g c =
    let i = c.loop-profile.invariant.judged in
    let piece = take c.in-Ok.count c.pull_piece.new.buffer in
    let moves = c.in_ok-fed.ensures.moves i.all.taken i.all.passing in
    let passing = c.in_ok-fed.ensures.passing i.all.taken i.all.passing in
    let now = i.all.taken ++ take c.in_ok-fed.fed.taken piece in
    let f = c.in_err-passed.ensures.cause now passing in
    let e = err_from_is_err_and c.from_residual-in_err-passed.result c.from_residual-in_err-passed.ensures.1 in
    let running = running_now c.args.profile c.loop-profile.framer.held i.all.taken c.loop-profile.tables i.all.passing c.loop-profile.size i.all.counted c.ahead.result.now c.min-want.result c.wanted.result c.wanted.ensures c.min-want.ensures c.if-want-eq0.false in
    let low = piece_low c.pull_piece.new.buffer c.loop-profile.buffer c.in-Ok.count c.min-want.result c.wanted.result (want_with (here c.args.profile c.loop-profile.framer.held i.all.taken) c.ahead.result.now) c.pull_piece.auto.buffer c.min-want.ensures
    (wanted_now c.args.profile c.loop-profile.framer.held i.all.taken c.loop-profile.tables i.all.passing c.loop-profile.size i.all.counted c.ahead.result.now c.min-want.result c.wanted.result c.wanted.ensures c.min-want.ensures) in
    let first = step_consumes c.args.profile c.loop-profile.framer.held i.all.taken c.loop-profile.tables i.all.passing piece c.in_ok-fed.fed.taken c.in_ok-fed.fed.whole c.step.new.framer.held c.step.new.tables moves passing c.ahead.result.now (g.S.Source.seen c.args.reader.now).bytes (g.S.Source.seen c.loop-profile.reader).bytes (g.S.Source.seen c.pull_piece.new.source).bytes running c.ahead.ensures.front low i.all.consumed c.in-Ok.ensures.bytes in
    rw (e.1, e.2) (
    step_judges c.args.profile f.held (now ++ f.passed) f.kept f.passing (take (record_len f.ahead) f.ahead) c.in_err-passed.field-0.0 f.stops.fails f.stops.running
    (g.S.Source.seen c.args.reader.now).bytes f.between (g.S.Source.seen c.take_ahead.new.reader).bytes (consumes_more (g.S.Source.seen c.args.reader.now).bytes (g.S.Source.seen c.pull_piece.new.source).bytes f.between now f.passed first f.consumed) f.stops.consumed)

pub returns-in_err-passed-clause-cause : goal.returns-in_err-passed-clause-cause
returns-in_err-passed-clause-cause g c =
    let i = c.loop-profile.invariant.judged in
    let piece = take c.in-Ok.count c.pull_piece.new.buffer in
    let moves = c.in_ok-fed.ensures.moves i.all.taken i.all.passing in
    let passing = c.in_ok-fed.ensures.passing i.all.taken i.all.passing in
    let now = i.all.taken ++ take c.in_ok-fed.fed.taken piece in
    let f = c.in_err-passed.ensures.cause now passing in
    let e = err_from_is_err_and c.from_residual-in_err-passed.result c.from_residual-in_err-passed.ensures.1 in
    let running = running_now c.args.profile c.loop-profile.framer.held i.all.taken c.loop-profile.tables i.all.passing c.loop-profile.size i.all.counted c.ahead.result.now c.min-want.result c.wanted.result c.wanted.ensures c.min-want.ensures c.if-want-eq0.false in
    let low = piece_low c.pull_piece.new.buffer c.loop-profile.buffer c.in-Ok.count c.min-want.result c.wanted.result (want_with (here c.args.profile c.loop-profile.framer.held i.all.taken) c.ahead.result.now) c.pull_piece.auto.buffer c.min-want.ensures
    (wanted_now c.args.profile c.loop-profile.framer.held i.all.taken c.loop-profile.tables i.all.passing c.loop-profile.size i.all.counted c.ahead.result.now c.min-want.result c.wanted.result c.wanted.ensures c.min-want.ensures) in
    let first = step_consumes c.args.profile c.loop-profile.framer.held i.all.taken c.loop-profile.tables i.all.passing piece c.in_ok-fed.fed.taken c.in_ok-fed.fed.whole c.step.new.framer.held c.step.new.tables moves passing c.ahead.result.now (g.S.Source.seen c.args.reader.now).bytes (g.S.Source.seen c.loop-profile.reader).bytes (g.S.Source.seen c.pull_piece.new.source).bytes running c.ahead.ensures.front low i.all.consumed c.in-Ok.ensures.bytes in
    rw (e.1, e.2) (
    step_cause c.args.profile f.held (now ++ f.passed) f.kept f.passing (take (record_len f.ahead) f.ahead) c.in_err-passed.field-0.0 f.stops.fails f.stops.running
    f.ahead (g.S.Source.seen c.args.reader.now).bytes f.between (g.S.Source.seen c.take_ahead.new.reader).bytes (g.S.Source.seen c.args.reader.now).failures (g.S.Source.seen c.take_ahead.new.reader).failures f.stops.shows f.stops.low (consumes_more (g.S.Source.seen c.args.reader.now).bytes (g.S.Source.seen c.pull_piece.new.source).bytes f.between now f.passed first f.consumed) f.stops.consumed)

pub returns-in_err-passed-clause-patient : goal.returns-in_err-passed-clause-patient
returns-in_err-passed-clause-patient g c =
    let i = c.loop-profile.invariant.judged in
    let piece = take c.in-Ok.count c.pull_piece.new.buffer in
    let moves = c.in_ok-fed.ensures.moves i.all.taken i.all.passing in
    let passing = c.in_ok-fed.ensures.passing i.all.taken i.all.passing in
    let now = i.all.taken ++ take c.in_ok-fed.fed.taken piece in
    let f = c.in_err-passed.ensures.cause now passing in
    let e = err_from_is_err_and c.from_residual-in_err-passed.result c.from_residual-in_err-passed.ensures.1 in
    rw (e.1, e.2) (
    step_patient c.args.profile f.held (now ++ f.passed) f.kept f.passing (take (record_len f.ahead) f.ahead) c.in_err-passed.field-0.0 f.stops.fails f.stops.running
    (g.S.Source.seen c.args.reader.now) (g.S.Source.seen c.take_ahead.new.reader) (c.take_ahead.ensures.breaks ∙ c.in-Ok.ensures.tried ∙ i.unbroken))

pub overflow_add-size-in-loop-profile : goal.overflow_add-size-in-loop-profile
overflow_add-size-in-loop-profile g c =
    let i = c.loop-profile.invariant.judged in
    let piece = take c.in-Ok.count c.pull_piece.new.buffer in
    let moves = c.in_ok-fed.ensures.moves i.all.taken i.all.passing in
    let passing = c.in_ok-fed.ensures.passing i.all.taken i.all.passing in
    let now = i.all.taken ++ take c.in_ok-fed.fed.taken piece in
    let m = c.in_ok-passed.ensures.moves now passing in
    let grown = step_size c.args.profile c.loop-profile.framer.held i.all.taken c.loop-profile.tables i.all.passing piece c.in_ok-fed.fed.taken c.in_ok-fed.fed.whole c.step.new.framer.held c.step.new.tables moves passing in
    let low = size_low c.args.profile now c.in_ok-passed.passed (g.S.Source.seen c.pull_piece.new.source).bytes (g.S.Source.seen c.take_ahead.new.reader).bytes (g.K.Keeper.kept c.step.new.keeper) (g.K.Keeper.kept c.take_ahead.new.keeper) c.take_ahead.new.framer.held c.take_ahead.new.tables m in
    let size = i.all.counted in
    omega (arith, low, size, grown)

pub loop-profile-smaller : goal.loop-profile-smaller
loop-profile-smaller g c =
    let i = c.loop-profile.invariant.judged in
    let piece = take c.in-Ok.count c.pull_piece.new.buffer in
    let moves = c.in_ok-fed.ensures.moves i.all.taken i.all.passing in
    let passing = c.in_ok-fed.ensures.passing i.all.taken i.all.passing in
    let now = i.all.taken ++ take c.in_ok-fed.fed.taken piece in
    let running = running_now c.args.profile c.loop-profile.framer.held i.all.taken c.loop-profile.tables i.all.passing c.loop-profile.size i.all.counted c.ahead.result.now c.min-want.result c.wanted.result c.wanted.ensures c.min-want.ensures c.if-want-eq0.false in
    let some = some_given c.in-Ok.count c.pull_piece.new.buffer c.if-count-eq0.false c.in-Ok.ensures.bound in
    let more = step_more c.args.profile c.loop-profile.framer.held i.all.taken c.loop-profile.tables i.all.passing piece c.in_ok-fed.fed.taken c.in_ok-fed.fed.whole c.step.new.framer.held c.step.new.tables moves passing running some in
    let m = c.in_ok-passed.ensures.moves now passing in
    let grown = step_size c.args.profile c.loop-profile.framer.held i.all.taken c.loop-profile.tables i.all.passing piece c.in_ok-fed.fed.taken c.in_ok-fed.fed.whole c.step.new.framer.held c.step.new.tables moves passing in
    let low = size_low c.args.profile now c.in_ok-passed.passed (g.S.Source.seen c.pull_piece.new.source).bytes (g.S.Source.seen c.take_ahead.new.reader).bytes (g.K.Keeper.kept c.step.new.keeper) (g.K.Keeper.kept c.take_ahead.new.keeper) c.take_ahead.new.framer.held c.take_ahead.new.tables m in
    let size = i.all.counted in
    omega (arith, more, low, size, grown)

pub loop-profile-preserved : goal.loop-profile-preserved
loop-profile-preserved g c =
    let i = c.loop-profile.invariant.judged in
    let piece = take c.in-Ok.count c.pull_piece.new.buffer in
    let moves = c.in_ok-fed.ensures.moves i.all.taken i.all.passing in
    let passing = c.in_ok-fed.ensures.passing i.all.taken i.all.passing in
    let now = i.all.taken ++ take c.in_ok-fed.fed.taken piece in
    let running = running_now c.args.profile c.loop-profile.framer.held i.all.taken c.loop-profile.tables i.all.passing c.loop-profile.size i.all.counted c.ahead.result.now c.min-want.result c.wanted.result c.wanted.ensures c.min-want.ensures c.if-want-eq0.false in
    let low = piece_low c.pull_piece.new.buffer c.loop-profile.buffer c.in-Ok.count c.min-want.result c.wanted.result (want_with (here c.args.profile c.loop-profile.framer.held i.all.taken) c.ahead.result.now) c.pull_piece.auto.buffer c.min-want.ensures
    (wanted_now c.args.profile c.loop-profile.framer.held i.all.taken c.loop-profile.tables i.all.passing c.loop-profile.size i.all.counted c.ahead.result.now c.min-want.result c.wanted.result c.wanted.ensures c.min-want.ensures) in
    let first = step_consumes c.args.profile c.loop-profile.framer.held i.all.taken c.loop-profile.tables i.all.passing piece c.in_ok-fed.fed.taken c.in_ok-fed.fed.whole c.step.new.framer.held c.step.new.tables moves passing c.ahead.result.now (g.S.Source.seen c.args.reader.now).bytes (g.S.Source.seen c.loop-profile.reader).bytes (g.S.Source.seen c.pull_piece.new.source).bytes running c.ahead.ensures.front low i.all.consumed c.in-Ok.ensures.bytes in
    let some = some_given c.in-Ok.count c.pull_piece.new.buffer c.if-count-eq0.false c.in-Ok.ensures.bound in
    let more = step_more c.args.profile c.loop-profile.framer.held i.all.taken c.loop-profile.tables i.all.passing piece c.in_ok-fed.fed.taken c.in_ok-fed.fed.whole c.step.new.framer.held c.step.new.tables moves passing running some in
    let grown = step_size c.args.profile c.loop-profile.framer.held i.all.taken c.loop-profile.tables i.all.passing piece c.in_ok-fed.fed.taken c.in_ok-fed.fed.whole c.step.new.framer.held c.step.new.tables moves passing in
    let m = c.in_ok-passed.ensures.moves now passing in
    let counted = m.counted in
    let joined = length-append now m.passed in
    let size = i.all.counted in
    let grows = i.grows in
    let second = c.in-Ok.ensures.grows in
    let same = c.take_ahead.ensures.failures in
    let before = i.passed in
    let bounded = c.in-Ok.ensures.bounded in
    record {
      judged = record {
        all = record {
          taken = now ++ m.passed;
          passing = m.passing;
          counted = omega (arith, grown, size, counted, joined);
          consumed = consumes_more (g.S.Source.seen c.args.reader.now).bytes (g.S.Source.seen c.pull_piece.new.source).bytes (g.S.Source.seen c.take_ahead.new.reader).bytes now m.passed first m.consumed;
          grown = Appends-trans (g.K.Keeper.kept c.args.keeper.now) (g.K.Keeper.kept c.step.new.keeper) (g.K.Keeper.kept c.take_ahead.new.keeper) now m.passed
              (Appends-trans (g.K.Keeper.kept c.args.keeper.now) (g.K.Keeper.kept c.loop-profile.keeper) (g.K.Keeper.kept c.step.new.keeper) i.all.taken (take c.in_ok-fed.fed.taken piece) i.all.grown c.in_ok-fed.ensures.grown) m.grown;
        };
        grows = omega (arith, grows, second, same);
        passed = omega (arith, before, bounded, more, same);
        unbroken = c.take_ahead.ensures.breaks ∙ c.in-Ok.ensures.tried ∙ i.unbroken;
      };
      room = let low = c.loop-profile.invariant.room in let first = c.step.ensures.room in let next = c.take_ahead.ensures.room in omega (arith, low, first, next);
    }

pub take_ahead-requires : goal.take_ahead-requires
take_ahead-requires g c =
    let i = c.loop-profile.invariant.judged in
    (i.all.taken ++ take c.in_ok-fed.fed.taken (take c.in-Ok.count c.pull_piece.new.buffer), c.in_ok-fed.ensures.passing i.all.taken i.all.passing)

pub returns-then-want-eq0-clause-ends : goal.returns-then-want-eq0-clause-ends
returns-then-want-eq0-clause-ends g c =
    let i = c.loop-profile.invariant.judged in
    inl (ended_now c.args.profile c.loop-profile.framer.held i.all.taken c.loop-profile.tables i.all.passing c.loop-profile.size i.all.counted c.ahead.result.now c.min-want.result c.wanted.result c.wanted.ensures c.min-want.ensures c.if-want-eq0.true)
