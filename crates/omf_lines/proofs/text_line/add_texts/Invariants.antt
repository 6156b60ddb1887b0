use Rattle.std.proofs.Common.{◌≡◌, ◌++◌}
use Rattle.std.specs.Prelude.{map, string_bytes}
use Rattle.std.specs.Vec.Iter.{into_iter_items}
use Rattle.omf_lines.proofs.text_line.add_texts.Given as goal

-- the texts so far, and those that are left
abbrev pub invariant-loop-text : goal.invariant-loop-text
invariant-loop-text l = map string_bytes l.texts.items ++ map string_bytes (into_iter_items l.text-iterator) ≡ map string_bytes l.fn.texts.items ++ map string_bytes l.fn.more.items
