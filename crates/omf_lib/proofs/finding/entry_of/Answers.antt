use Rattle.std.proofs.Common.{sym}
use Rattle.omf_lib.proofs.finding.entry_of.Goals as goal

pub returns : goal.returns
returns c = record {
  first = rw (sym c.is_sensitive.ensures) c.first_entry.ensures;
  restart = rw (sym c.is_sensitive.ensures) c.search.ensures;
  keep = rw (sym c.is_sensitive.ensures) c.search-2.ensures;
}
