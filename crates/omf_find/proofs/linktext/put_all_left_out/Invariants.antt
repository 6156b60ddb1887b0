use Rattle.std.proofs.Common.{◌≡◌, ◌++◌, drop}
use Rattle.std.specs.Prelude.{flat_map, map, string_bytes}
use Rattle.omf_find.specs.LinkText.{left_out_line}
use Rattle.omf_find.proofs.linktext.put_all_left_out.Given as goal

-- the comments so far, and those that are left
abbrev pub invariant-loop-module : goal.invariant-loop-module
invariant-loop-module l =
    let line = left_out_line (map string_bytes l.source.files.now) l.source.gathered.now in
    l.text.items ++ flat_map line (drop l.module-index l.modules) ≡ l.fn.text.items ++ flat_map line l.modules
