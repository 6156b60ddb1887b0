use Rattle.std.proofs.Common.{inl, inr}
use Rattle.omf_records.proofs.writing.put_contents.Goals as goal

-- publics of all modules or of one: the kind and the items are those of the record
pub returns-in-Publics-clause-full : goal.returns-in-Publics-clause-full
returns-in-Publics-clause-full c = elim c.in-Publics.is [
  | inl p ↦ let k = rw p.1 at c.kind-kind.ensures in rw (p.1, ← k, ← c.iter-in-Publics.ensures) c.put_publics.ensures.full
  | inr p ↦ let k = rw p.1 at c.kind-kind.ensures in rw (p.1, ← k, ← c.iter-in-Publics.ensures) c.put_publics.ensures.full
]
