use Rattle.omf_find.proofs.NearlyLaws.{are_nearly}
use Rattle.omf_find.proofs.near.nearly_of.Goals as goal

pub returns : goal.returns
returns c =
    are_nearly c.args.program.now c.args.modules.now c.args.wanted c.in_ok-nears.nears.items c.in_ok-nearly.nearly.items c.in_ok-sorted.sorted.items c.in_ok-nears.ensures c.in_ok-nearly.ensures c.in_ok-sorted.ensures.same
    c.in_ok-sorted.ensures.order
