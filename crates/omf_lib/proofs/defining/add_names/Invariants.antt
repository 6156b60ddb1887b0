use Rattle.std.proofs.Common.{ℕ, List, ◌++◌, map, take}
use Rattle.omf_making.specs.Names.{names_seen}
use Rattle.omf_lib.specs.Keys.{IsKeySet, name_key}
use Rattle.omf_lib.proofs.defining.add_names.Given as goal

-- the keys so far
abbrev pub invariant-loop-defined : goal.invariant-loop-defined
invariant-loop-defined l = (done : List (List ℕ)) → IsKeySet l.fn.keys done → IsKeySet l.keys (done ++ map (λ n. name_key l.is_case_sensitive l.page n.name) (names_seen (take l.defined-index l.names)))
