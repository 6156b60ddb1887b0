use Rattle.std.proofs.Common.{◌≡◌, ℕ, ◌-◌, List, Some, ap, sym, subst, length, take}
use Rattle.std.specs.Prelude.{IfOk, IfErr}
use Rattle.std.specs.Io.KnownBytes.{Consumes}
use Rattle.omf_frame.specs.Device.{Device}
use Rattle.omf_check.specs.Inner.Ahead.{PassesAhead, FailsAhead}
use Rattle.omf_check.proofs.AheadLaws.{left_fits, shown_passes, shown_fails}
use Rattle.omf_check.proofs.taking.take_ahead.Goals as goal

-- what holds of the bytes of a source holds of those shown and of those left
of_shown : (P : List ℕ → List ℕ → Type 0) (first shown left last : List ℕ) → Some first ≡ Some shown → left ≡ last → P first last → P shown left
of_shown P first shown left last a b h =
    let e : first ≡ shown = cc in
    subst (λ (x : List ℕ). P x left) e (subst (λ (y : List ℕ). P first y) (sym b) h)

pub overflow_sub-size : goal.overflow_sub-size
overflow_sub-size g c =
    let first = ap (λ (d : Device). d.bytes) c.new-bytes.ensures in
    left_fits c.args.profile c.requires.0 c.ahead-shown.result.now c.ahead.result.now (g.K.Keeper.kept c.args.keeper.now) (g.K.Keeper.kept c.pass_ahead-passed.new.keeper) c.pass_ahead-passed.new.framer.held c.pass_ahead-passed.new.tables c.pass_ahead-passed.result
    (of_shown (λ (x y : List ℕ). IfOk c.pass_ahead-passed.result (λ size. PassesAhead c.args.profile c.requires.0 size (Some x) (Some y) (g.K.Keeper.kept c.args.keeper.now) (g.K.Keeper.kept c.pass_ahead-passed.new.keeper) c.pass_ahead-passed.new.framer.held c.pass_ahead-passed.new.tables))
    c.new-bytes.result.left.now c.ahead-shown.result.now c.ahead.result.now c.pass_ahead-passed.new.reader.left.now first c.ahead.ensures.all (c.pass_ahead-passed.ensures.moves c.requires.0 c.requires.1))
    (of_shown (λ (x y : List ℕ). IfErr c.pass_ahead-passed.result (FailsAhead c.args.profile c.requires.0 (Some x) (Some y)))
    c.new-bytes.result.left.now c.ahead-shown.result.now c.ahead.result.now c.pass_ahead-passed.new.reader.left.now first c.ahead.ensures.all (c.pass_ahead-passed.ensures.cause c.requires.0 c.requires.1))

pub returns-clause-moves : goal.returns-clause-moves
returns-clause-moves g c = λ taken p.
    let first = ap (λ (d : Device). d.bytes) c.new-bytes.ensures in
    shown_passes c.args.profile taken c.ahead-shown.result.now c.ahead.result.now (g.K.Keeper.kept c.args.keeper.now) (g.K.Keeper.kept c.pass_ahead-passed.new.keeper) c.pass_ahead-passed.new.framer.held c.pass_ahead-passed.new.tables
    (g.S.Source.seen c.args.reader.now).bytes (g.S.Source.seen c.consume.new.self).bytes c.ahead-shown.ensures.front
    (subst (λ (x : List ℕ). Consumes (g.S.Source.seen c.args.reader.now).bytes (g.S.Source.seen c.consume.new.self).bytes (take (length c.ahead-shown.result.now - length c.ahead.result.now) x)) (sym c.ahead-shown.ensures.all) c.consume.ensures.bytes)
    c.pass_ahead-passed.result
    (of_shown (λ (x y : List ℕ). IfOk c.pass_ahead-passed.result (λ size. PassesAhead c.args.profile taken size (Some x) (Some y) (g.K.Keeper.kept c.args.keeper.now) (g.K.Keeper.kept c.pass_ahead-passed.new.keeper) c.pass_ahead-passed.new.framer.held c.pass_ahead-passed.new.tables))
    c.new-bytes.result.left.now c.ahead-shown.result.now c.ahead.result.now c.pass_ahead-passed.new.reader.left.now first c.ahead.ensures.all (c.pass_ahead-passed.ensures.moves taken p))

pub returns-clause-cause : goal.returns-clause-cause
returns-clause-cause g c = λ taken p.
    let first = ap (λ (d : Device). d.bytes) c.new-bytes.ensures in
    shown_fails c.args.profile taken c.ahead-shown.result.now c.ahead.result.now (g.K.Keeper.kept c.args.keeper.now) (g.K.Keeper.kept c.pass_ahead-passed.new.keeper) c.pass_ahead-passed.new.framer.held c.pass_ahead-passed.new.tables
    (g.S.Source.seen c.args.reader.now).bytes (g.S.Source.seen c.consume.new.self).bytes c.ahead-shown.ensures.front
    (subst (λ (x : List ℕ). Consumes (g.S.Source.seen c.args.reader.now).bytes (g.S.Source.seen c.consume.new.self).bytes (take (length c.ahead-shown.result.now - length c.ahead.result.now) x)) (sym c.ahead-shown.ensures.all) c.consume.ensures.bytes)
    c.pass_ahead-passed.result
    (of_shown (λ (x y : List ℕ). IfErr c.pass_ahead-passed.result (FailsAhead c.args.profile taken (Some x) (Some y)))
    c.new-bytes.result.left.now c.ahead-shown.result.now c.ahead.result.now c.pass_ahead-passed.new.reader.left.now first c.ahead.ensures.all (c.pass_ahead-passed.ensures.cause taken p))
