use Rattle.std.proofs.Common.{◌∙◌, ap}
use Rattle.omf_c.specs.Images.{relocated, rows_if}
use Rattle.omf_c.proofs.PlacedLaws.{made_from}
use Rattle.omf_c.proofs.images.start_rows.Goals as goal

pub returns : goal.returns
returns c = made_from relocated (λ x. rows_if x.1) c.args.profile c.args.bytes.now c.args.text.now _ _ c.in_ok-relocated.ensures (c.in_ok-rows_if.ensures ∙ ap (λ x. rows_if x.1) c.relocated.view_is)
