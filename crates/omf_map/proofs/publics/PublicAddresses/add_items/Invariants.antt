use Rattle.omf_map.specs.Inner.PublicAddresses.{IsTable}
use Rattle.omf_map.specs.Addresses.{publics_at}
use Rattle.omf_placement.proofs.Filling.{IsFilled}
use Rattle.omf_map.proofs.publics.PublicAddresses.add_items.Given as goal

-- the publics so far are in the table
abbrev pub invariant-loop-public : goal.invariant-loop-public
invariant-loop-public l = IsFilled IsTable l.fn.self.by_name l.self.by_name (publics_at l.base l.public-iterator) (publics_at l.base l.fn.items)
