use Rattle.std.proofs.Common.{◌≡◌, ◌++◌, ℕ, Bor, Global, List, Vec, map}
use Rattle.std.specs.Prelude.{flat_map, string_bytes}
use Rattle.omf_externals.specs.Repeated.{repeated_line}
use Rattle.omf_externals.specs.declared.by_name.Spot.{Spot}
use Rattle.omf_externals.proofs.unresolved.put_all_repeated.Given as goal

-- the lines so far, and those that are left
abbrev pub invariant-loop-name : goal.invariant-loop-name
invariant-loop-name l =
    let line = λ (e : Bor (List ℕ) × Vec Spot Global). repeated_line (map string_bytes l.labels) e.0.now e.1.items in
    string_bytes l.text ++ flat_map line l.name-iterator ≡ string_bytes l.fn.text ++ flat_map line l.publics.spots.entries
