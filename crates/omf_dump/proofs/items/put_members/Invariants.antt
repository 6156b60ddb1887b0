use Rattle.std.proofs.Common.{◌≡◌, ◌++◌}
use Rattle.std.specs.Prelude.{true}
use Rattle.omf_dump.specs.Contents.{each, member_fields}
use Rattle.omf_dump.specs.Render.{items_text}
use Rattle.omf_dump.proofs.items.put_members.Given as goal

-- what is written, and the items that are left, are all items
abbrev pub invariant-loop-member : goal.invariant-loop-member
invariant-loop-member l = l.text.items ++ items_text l.format l.is_first (each (member_fields l.tables) l.member-iterator) ≡ l.fn.text.items ++ items_text l.format true (each (member_fields l.tables) l.fn.members)
