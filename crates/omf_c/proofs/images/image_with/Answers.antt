use Rattle.std.proofs.Common.{◌∙◌, ap}
use Rattle.omf_c.specs.Images.{relocated}
use Rattle.omf_c.specs.Placed.{places_of}
use Rattle.omf_c.proofs.PlacedLaws.{made_with_from}
use Rattle.omf_c.proofs.images.image_with.Goals as goal

pub returns : goal.returns
returns c = made_with_from relocated (λ x. x.0) c.args.profile c.args.bytes.now (places_of c.args.rows.now) _ _ c.in_ok-relocated.ensures (c.in_ok-shown_of.ensures ∙ ap (λ x. x.0) c.relocated.view_is)
