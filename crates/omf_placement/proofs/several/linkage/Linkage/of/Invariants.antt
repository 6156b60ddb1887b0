use Rattle.std.proofs.Common.{◌≡◌, ◌++◌, ◌<◌, drop, length}
use Rattle.std.specs.Prelude.{All, map}
use Rattle.std.specs.List.{enumerate_from}
use Rattle.omf_check.specs.Module.{typed_modules}
use Rattle.omf_check.specs.Tables.{externals}
use Rattle.omf_placement.specs.Inner.Linkage.{definers, linkage, seen_sources}
use Rattle.omf_placement.proofs.several.linkage.Linkage.of.Given as goal

-- the publics of the modules so far, and those of the modules that are left
abbrev pub invariant-loop-j : goal.invariant-loop-j
invariant-loop-j l = let ms = typed_modules l.modules in let left = typed_modules (drop l.j l.modules) in record {
  links : l.of_module.items ++ map (λ m. definers (seen_sources ms m.0 m.1) m.1) (enumerate_from l.j left) ≡ linkage ms;
  few : All (λ m. length (externals m) < 32768) left → All (λ m. length (externals m) < 32768) ms;
}
