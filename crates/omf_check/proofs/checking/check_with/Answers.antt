use Rattle.std.proofs.Common.{subst, sym}
use Rattle.omf_check.specs.Inner.Passing.{IsPassing, here}
use Rattle.omf_check.specs.Session.{Finishes}
use Rattle.omf_check.proofs.CheckLaws.{kept_decides, kept_cause, kept_passing}
use Rattle.omf_check.proofs.checking.check_with.Goals as goal

pub finished-requires : goal.finished-requires
finished-requires g c =
    let e = c.in_ok-taken.ensures in
    subst (λ bs. IsPassing c.args.profile c.take_module.new.framer.held bs c.in_ok-taken.taken.tables) (sym c.shrink_to_fit.ensures.items)
    (kept_passing c.args.profile (g.S.Source.seen c.args.reader.now).bytes (g.S.Source.seen c.take_module.new.reader).bytes c.new-bytes.result.items c.take_module.new.keeper.items
    c.take_module.new.framer.held c.in_ok-taken.taken.tables c.in_ok-taken.taken.size c.new-bytes.ensures.items e.taken)

pub returns-clause-verdict : goal.returns-clause-verdict
returns-clause-verdict g c =
    let e = c.in_ok-taken.ensures in
    let ends = subst (λ bs. Finishes (here c.args.profile c.take_module.new.framer.held bs) c.finished.result) c.shrink_to_fit.ensures.items c.finished.ensures in
    kept_decides c.args.profile (g.S.Source.seen c.args.reader.now).bytes (g.S.Source.seen c.take_module.new.reader).bytes c.new-bytes.result.items c.take_module.new.keeper.items
    c.take_module.new.framer.held c.in_ok-taken.taken.tables c.in_ok-taken.taken.size c.new-bytes.ensures.items e.taken c.finished.result ends e.ends

pub returns-clause-cause : goal.returns-clause-cause
returns-clause-cause g c =
    let e = c.in_ok-taken.ensures in
    let ends = subst (λ bs. Finishes (here c.args.profile c.take_module.new.framer.held bs) c.finished.result) c.shrink_to_fit.ensures.items c.finished.ensures in
    kept_cause c.args.profile (g.S.Source.seen c.args.reader.now).bytes (g.S.Source.seen c.take_module.new.reader).bytes c.new-bytes.result.items c.take_module.new.keeper.items
    c.take_module.new.framer.held c.in_ok-taken.taken.tables c.in_ok-taken.taken.size c.new-bytes.ensures.items e.taken c.finished.result (g.S.Source.seen c.args.reader.now).failures (g.S.Source.seen c.take_module.new.reader).failures ends e.ends
