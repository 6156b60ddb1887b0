use Rattle.std.proofs.Common.{◌∙◌, ap, sym}
use Rattle.std.specs.Prelude.{filter_map, fold, zip}
use Rattle.omf_check.specs.Module.{records_in}
use Rattle.omf_check.proofs.ListedLaws.{records_listed}
use Rattle.omf_output.specs.Inner.Rooms.{with_portion}
use Rattle.omf_output.specs.Exe.Members.{portion, segdefs}
use Rattle.omf_output.proofs.FitLaws.{without_places_of}
use Rattle.omf_output.proofs.RoomLaws.{zip-none}
use Rattle.omf_output.proofs.exe.room.with_module.Goals as goal

pub loop-place-init : goal.loop-place-init
loop-place-init c =
    let r = c.undecoded-place-items in
    let e = ap without_places_of (c.into_iter-place-iterator.ensures.into_iter_gives ∙ r.ensures.listed) ∙ records_listed 0 0 (records_in c.args.module.now.bytes) in
    ap (λ l. fold with_portion c.args.before (filter_map portion (zip c.args.places.now (segdefs l)))) e

pub loop-place-preserved : goal.loop-place-preserved
loop-place-preserved c =
    c.take-next.ensures (segdefs (without_places_of c.next.new.self))
    ∙ sym (ap (λ l. fold with_portion c.loop-place.room (filter_map portion (zip c.loop-place.left.now (segdefs (without_places_of l))))) c.in-Some.ensures.steps) ∙ c.loop-place.invariant

pub returns : goal.returns
returns c =
    sym (ap (fold with_portion c.loop-place.room) (zip-none c.loop-place.left.now (segdefs (without_places_of c.loop-place._place-iterator)) (ap (λ l. segdefs (without_places_of l)) c.in-None.ensures.steps.0)))
    ∙ c.loop-place.invariant
