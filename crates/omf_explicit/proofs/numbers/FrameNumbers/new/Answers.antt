use Rattle.omf_explicit.proofs.PlaceLaws.{starts}
use Rattle.omf_explicit.proofs.numbers.FrameNumbers.new.Goals as goal

pub invariant_of-result : goal.invariant_of-result
invariant_of-result c = starts c.new-order.result.items c.in_ok-places.places.items c.new-order.ensures.items (c.in_ok-places.ensures.items_if_clones_equal (λ y e. e))
