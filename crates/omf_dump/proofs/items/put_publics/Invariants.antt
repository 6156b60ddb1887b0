use Rattle.std.proofs.Common.{◌≡◌, ◌++◌}
use Rattle.std.specs.Prelude.{true}
use Rattle.omf_dump.specs.Contents.{each, public_fields}
use Rattle.omf_dump.specs.Render.{items_text}
use Rattle.omf_dump.proofs.items.put_publics.Given as goal

-- what is written, and the items that are left, are all items
abbrev pub invariant-loop-public : goal.invariant-loop-public
invariant-loop-public l = l.text.items ++ items_text l.format l.is_first (each (public_fields l.width) l.public-iterator) ≡ l.fn.text.items ++ items_text l.format true (each (public_fields l.width) l.fn.publics)
