use Rattle.omf_keys.proofs.TableLaws.{same-tables}
use Rattle.omf_keys.proofs.laws.tables_by_keys.Goals as goal
use Rattle.omf_check.specs.Module.{recs_of}

pub returns : goal.returns
returns c = λ m n h. same-tables (recs_of m.bytes) (recs_of n.bytes) (c.pieces_by_keys.ensures m n h).bare
