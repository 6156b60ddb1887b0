use Rattle.std.proofs.Common.{◌≡◌, ◌++◌, drop, map}
use Rattle.omf_linking.specs.Inner.Parting.{frame_gifts_in, gift_seen}
use Rattle.omf_linking.proofs.locator.parts.frame_gifts.Given as goal

-- the gifts so far, and those that are left
abbrev pub invariant-loop-one : goal.invariant-loop-one
invariant-loop-one l = map gift_seen l.gifts.items ++ frame_gifts_in l.given l.frame (drop l.one-index l.groups) ≡ frame_gifts_in l.given l.frame l.groups
