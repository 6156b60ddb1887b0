use Rattle.std.proofs.Common.{◌∙◌, ap}
use Rattle.omf_c.specs.Images.{relocated, rows_if}
use Rattle.omf_c.specs.Placed.{places_of}
use Rattle.omf_c.proofs.PlacedLaws.{made_with_from}
use Rattle.omf_c.proofs.images.start_rows_with.Goals as goal

pub returns : goal.returns
returns c = made_with_from relocated (λ x. rows_if x.1) c.args.profile c.args.bytes.now (places_of c.args.rows.now) _ _ c.in_ok-relocated.ensures (c.in_ok-rows_if.ensures ∙ ap (λ x. rows_if x.1) c.relocated.view_is)
