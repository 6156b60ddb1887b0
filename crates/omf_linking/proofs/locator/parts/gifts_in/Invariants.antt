use Rattle.std.proofs.Common.{◌≡◌, ◌++◌, drop, map}
use Rattle.std.specs.Prelude.{option_map}
use Rattle.omf_linking.specs.Inner.Parting.{gift_seen}
use Rattle.omf_linking.specs.Locator.Parts.{all_some, gift_of}
use Rattle.omf_linking.proofs.locator.parts.gifts_in.Given as goal

-- the gifts so far, and those that are left
abbrev pub invariant-loop-one : goal.invariant-loop-one
invariant-loop-one l =
    option_map (λ gs. map gift_seen l.gifts.items ++ gs) (all_some (map (gift_of l.site) (drop l.one-index l.lying))) ≡ all_some (map (gift_of l.site) l.lying)
