use Rattle.std.proofs.Common.{◌≡◌, take}
use Rattle.std.specs.Prelude.{map, string_bytes}
use Rattle.omf_find.specs.LinkText.{part_name}
use Rattle.omf_find.proofs.linktext.part_names.Given as goal

-- the names so far
abbrev pub invariant-loop-part : goal.invariant-loop-part
invariant-loop-part l = map string_bytes l.names.items ≡ map (part_name l.source.gathered.now) (take l.part-index l.parts)
