use Rattle.std.proofs.Common.{◌≡◌, ◌+◌, ◌++◌, length}
use Rattle.std.specs.Prelude.{map, true}
use Rattle.omf_dump.specs.Contents.{name_fields, numbered}
use Rattle.omf_dump.specs.Render.{items_text}
use Rattle.omf_dump.proofs.items.put_names.Given as goal

-- what is written, and the items that are left, are all items; so are the names that are kept
abbrev pub invariant-loop-name : goal.invariant-loop-name
invariant-loop-name l = record {
  text : l.text.items ++ items_text l.format l.is_first (numbered name_fields (length l.names.items + 1) l.name-iterator) ≡ l.fn.text.items ++ items_text l.format true (numbered name_fields (length l.fn.names.items + 1) l.fn.items);
  names : l.names.items ++ map (λ n. n.item) l.name-iterator ≡ l.fn.names.items ++ map (λ n. n.item) l.fn.items;
}
