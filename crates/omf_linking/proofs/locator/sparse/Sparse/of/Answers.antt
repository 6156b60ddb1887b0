use Rattle.std.proofs.Common.{ap, ◌∙◌, ℕ}
use Rattle.std.specs.Prelude.{None, replicate}
use Rattle.omf_check.specs.Module.{records_in}
use Rattle.omf_check.specs.WellFormed.{recs}
use Rattle.omf_linking.proofs.SparseLaws.{nothing_given}
use Rattle.omf_linking.proofs.locator.sparse.Sparse.of.Goals as goal

pub returns : goal.returns
returns c j =
    nothing_given j (recs (records_in c.args.«module».now.bytes)) _ _ _ _
    (c.in_ok-no_places.ensures.none ∙ ap (λ (n : ℕ). replicate n None) c.segments.ensures.count)
    (c.in_ok-no_addresses.ensures ∙ ap (λ (n : ℕ). replicate n None) c.segments-2.ensures.count)
    (c.in_ok-no_frames.ensures.none ∙ ap (λ (n : ℕ). replicate n None) c.groups.ensures.count)
    (c.in_ok-no_places-2.ensures.none ∙ ap (λ (n : ℕ). replicate n None) c.externals.ensures.count)
