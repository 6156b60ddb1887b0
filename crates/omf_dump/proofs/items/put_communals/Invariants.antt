use Rattle.std.proofs.Common.{◌≡◌, ◌+◌, ◌++◌, length}
use Rattle.std.specs.Prelude.{map, true}
use Rattle.omf_dump.specs.Contents.{communal_fields, numbered}
use Rattle.omf_dump.specs.Render.{items_text}
use Rattle.omf_dump.proofs.items.put_communals.Given as goal

-- what is written, and the items that are left, are all items; so are the names that are kept
abbrev pub invariant-loop-communal : goal.invariant-loop-communal
invariant-loop-communal l = record {
  text : l.text.items ++ items_text l.format l.is_first (numbered communal_fields (length l.externals.items + 1) l.communal-iterator) ≡ l.fn.text.items ++ items_text l.format true (numbered communal_fields (length l.fn.externals.items + 1) l.fn.items);
  names : l.externals.items ++ map (λ c. c.item.name) l.communal-iterator ≡ l.fn.externals.items ++ map (λ c. c.item.name) l.fn.items;
}
