use Rattle.std.proofs.Common.{◌≡◌, ◌+◌, ◌++◌, length}
use Rattle.std.specs.Prelude.{map, true}
use Rattle.omf_dump.specs.Contents.{external_fields, numbered}
use Rattle.omf_dump.specs.Render.{items_text}
use Rattle.omf_dump.proofs.items.put_externals.Given as goal

-- what is written, and the items that are left, are all items; so are the names that are kept
abbrev pub invariant-loop-external : goal.invariant-loop-external
invariant-loop-external l = record {
  text : l.text.items ++ items_text l.format l.is_first (numbered external_fields (length l.externals.items + 1) l.external-iterator) ≡ l.fn.text.items ++ items_text l.format true (numbered external_fields (length l.fn.externals.items + 1) l.fn.items);
  names : l.externals.items ++ map (λ e. e.item.name) l.external-iterator ≡ l.fn.externals.items ++ map (λ e. e.item.name) l.fn.items;
}
