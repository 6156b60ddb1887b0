use Rattle.std.proofs.Common.{◌≡◌, ◌++◌, List, drop, map}
use Rattle.std.specs.Prelude.{flat_map, string_bytes}
use Rattle.std.specs.List.{enumerate_from}
use Rattle.omf_check.specs.Module.{typed_modules}
use Rattle.omf_externals.specs.Unresolved.{IsByName, Row, module_text}
use Rattle.omf_externals.proofs.unresolved.put_all.Given as goal

-- the lines so far, and those that are left
abbrev pub invariant-loop-j : goal.invariant-loop-j
invariant-loop-j l = (publics asks : List Row) → IsByName l.tables.publics.spots publics → IsByName l.tables.asks.spots asks
    → let f = module_text (map string_bytes l.labels) l.settled publics asks in
    string_bytes l.text ++ flat_map f (enumerate_from l.j (typed_modules (drop l.j l.modules))) ≡ string_bytes l.fn.text ++ flat_map f (enumerate_from 0 (typed_modules l.modules))
