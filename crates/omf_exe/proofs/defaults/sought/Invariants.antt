use Rattle.std.proofs.Common.{◌≡◌, ◌++◌, drop, map}
use Rattle.std.specs.Prelude.{filter, not}
use Rattle.omf_library.specs.Needed.{has_name}
use Rattle.omf_exe.proofs.defaults.sought.Given as goal

-- the names so far that are not known, and those of the names that are left
abbrev pub invariant-loop-name : goal.invariant-loop-name
invariant-loop-name l =
    map (λ n. n.items) l.sought.items ++ filter (λ name. not (has_name (map (λ k. k.items) l.known) name)) (map (λ n. n.now) (drop l.name-index l.name-items))
    ≡ filter (λ name. not (has_name (map (λ k. k.items) l.known) name)) (map (λ n. n.now) l.name-items)
