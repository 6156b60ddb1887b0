use Rattle.std.specs.Prelude.{map, string_bytes}
use Rattle.omf_find.specs.LinkText.{part_name, part_text}
use Rattle.omf_placement.proofs.StepLaws.{ArePrinted}
use Rattle.omf_find.proofs.linktext.put_parts.Given as goal

-- the modules so far, and those that are left
abbrev pub invariant-loop-before : goal.invariant-loop-before
invariant-loop-before l = ArePrinted (part_text (map string_bytes l.source.files.now) l.source.gathered.now (map (part_name l.source.gathered.now) l.parts)) l.parts l.before l.fn.text.items l.text.items
