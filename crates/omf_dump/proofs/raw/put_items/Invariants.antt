use Rattle.std.proofs.Common.{◌≡◌, ◌+◌, ◌++◌, length}
use Rattle.std.specs.Prelude.{true}
use Rattle.omf_dump.specs.Raw.{items_from}
use Rattle.omf_dump.specs.Render.{items_text}
use Rattle.omf_dump.proofs.raw.put_items.Given as goal

-- what is written, and the items that are left, are all items
abbrev pub invariant-loop-rest : goal.invariant-loop-rest
invariant-loop-rest l = record {
  written : l.text.items ++ items_text l.view.style.format l.is_first (items_from l.view.tables.now l.view.width l.kind l.at 0 l.rest) ≡ l.fn.text.items ++ items_text l.view.style.format true (items_from l.view.tables.now l.view.width l.kind l.within 0 l.value);
  ends : l.at + length l.rest ≡ l.within + length l.value;
}

abbrev pub decreases-loop-rest : goal.decreases-loop-rest
decreases-loop-rest l = length l.rest
