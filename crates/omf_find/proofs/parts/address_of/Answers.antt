use Rattle.std.proofs.Common.{◌≡◌, inl, ap, rules}
use Rattle.std.specs.Prelude.{Some, option_map}
use Rattle.omf_check.specs.Tables.{entry}
use Rattle.omf_placement.specs.declared.frame.Placed.{Placed}
use Rattle.omf_find.proofs.PartLaws.{from_room}
use Rattle.omf_find.proofs.parts.address_of.Goals as goal

pub returns-then-is_free-clause-address : goal.returns-then-is_free-clause-address
returns-then-is_free-clause-address c = from_room c.args.seen.«module».now c.args.seen.found.now c.args.room.now c.args.segment c.free_address.result c.free_address.ensures.room

pub returns-clause-address : goal.returns-clause-address
returns-clause-address c =
    let f = c.args.seen.found.now in
    let there : entry f.placement.segments c.args.segment ≡ Some c.in_ok-place.place = search rules in
    inl (ap (option_map (λ (p : Placed). p.address)) there)
