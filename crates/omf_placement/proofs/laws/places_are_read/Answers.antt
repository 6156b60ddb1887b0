use Rattle.std.specs.Prelude.{refl, []}
use Rattle.omf_placement.proofs.EntryLaws.{placed-from, placed-to}
use Rattle.omf_placement.proofs.laws.places_are_read.Goals as goal

pub returns : goal.returns
returns c = λ a b s p. (
  placed-from a b s p,
  λ h. placed-to [] _ p (record { address = a; base = b; selector = s; words = refl; is_address = h.0; is_base = h.1.0; is_selector = h.1.1 }),
)
