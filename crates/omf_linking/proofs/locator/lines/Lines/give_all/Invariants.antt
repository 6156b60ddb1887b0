use Rattle.std.proofs.Common.{List, drop, map}
use Rattle.omf_check.specs.Module.{typed_modules}
use Rattle.omf_linking.specs.Inner.Parting.{gift_seen}
use Rattle.omf_linking.specs.Inner.Walking.{AreLines}
use Rattle.omf_linking.specs.Locator.Items.{Item}
use Rattle.omf_linking.proofs.PartLaws.{AreSoFar}
use Rattle.omf_linking.proofs.locator.lines.Lines.give_all.Given as goal

-- the gifts so far have their items, and the others are left
abbrev pub invariant-loop-gift : goal.invariant-loop-gift
invariant-loop-gift l = (items : List Item) → AreLines (typed_modules l.modules) l.fn.self items → AreSoFar (typed_modules l.modules) items (map gift_seen l.gifts) (map gift_seen (drop l.gift-index l.gifts)) l.self
