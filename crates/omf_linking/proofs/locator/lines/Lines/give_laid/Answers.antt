use Rattle.std.proofs.Common.{map, refl, subst}
use Rattle.omf_check.specs.Module.{typed_modules}
use Rattle.omf_linking.specs.Inner.Parting.{gift_seen}
use Rattle.omf_linking.specs.Inner.Walking.{IsTaken}
use Rattle.omf_linking.specs.Locator.Items.{all_items}
use Rattle.omf_linking.proofs.PartLaws.{laid-ends, laid-fails}
use Rattle.omf_linking.proofs.locator.lines.Lines.give_laid.Goals as goal

pub returns-in-Ok : goal.returns-in-Ok
returns-in-Ok c items at =
    let ms = typed_modules c.args.modules.now in
    let taken = subst (λ gs. IsTaken ms c.give_all.new.self items c.args.line (all_items ms items (map gift_seen gs)) c.give_all.result) c.deref.ensures.value (c.give_all.ensures items at) in
    laid-ends ms items (map gift_seen c.args.laid.gifts.items) c.args.laid.end c.give_all.new.self c.args.line c.give_all.result taken _ c.in-Ok.is c.requires _ refl refl refl refl refl refl

pub returns : goal.returns
returns c items at =
    let ms = typed_modules c.args.modules.now in
    let taken = subst (λ gs. IsTaken ms c.give_all.new.self items c.args.line (all_items ms items (map gift_seen gs)) c.give_all.result) c.deref.ensures.value (c.give_all.ensures items at) in
    laid-fails ms items (map gift_seen c.args.laid.gifts.items) c.args.laid.end c.give_all.new.self c.args.line c.give_all.result taken c.in-Err.fault c.in-Err.is
