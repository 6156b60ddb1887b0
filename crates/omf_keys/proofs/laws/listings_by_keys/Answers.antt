use Rattle.omf_keys.proofs.LinkLaws.{all-turned}
use Rattle.omf_keys.proofs.MapLaws.{same-map}
use Rattle.omf_keys.proofs.NameLaws.{all-namesakes}
use Rattle.omf_keys.proofs.laws.listings_by_keys.Goals as goal

pub returns : goal.returns
returns c = λ ms ns pls text h.
    (same-map ms ns pls (all-namesakes c.pieces_by_keys.ensures ms ns h) text, same-map ns ms pls (all-namesakes c.pieces_by_keys.ensures ns ms (all-turned ms ns h)) text)
