use Rattle.std.specs.Prelude.{string_bytes}
use Rattle.omf_linker.proofs.seen.files.found_at.Goals as goal

pub returns : goal.returns
returns c = record {
  found = c.in_ok-found.found.items;
  unseen = c.in_ok-found.ensures;
  repeated = string_bytes c.in_ok-repeated.repeated;
  twice = c.in_ok-repeated.ensures;
  faults = c.in_ok-faults.ensures;
  warnings = c.in_ok-warnings.ensures;
}
