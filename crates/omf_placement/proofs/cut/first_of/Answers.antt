use Rattle.std.proofs.Common.{rules, tests}
use Rattle.std.specs.Prelude.{◌==◌}
use Rattle.std.proofs.lemmas.Iterator.{YieldsList-from_slice}
use Rattle.std.proofs.lemmas.Iterator.Search.{position_from_yields_List}
use Rattle.omf_placement.proofs.CutLaws.{place_or_len}
use Rattle.omf_placement.proofs.cut.first_of.Goals as goal

pub returns : goal.returns
returns c =
    place_or_len (λ x. x == c.args.byte) c.args.text.now c.position-place.result c.unwrap_or.result
    (position_from_yields_List (λ x. x == c.args.byte) _ _ c.position-place.result c.position-place.ensures.ran (YieldsList-from_slice c.args.text.now cc) (λ x b q k. search (rules, tests)))
    c.unwrap_or.ensures
