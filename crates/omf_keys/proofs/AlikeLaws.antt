-- Modules of equal keys have the same pieces one by one.
use Rattle.std.proofs.Common.{List, [], ◌∷◌}
use Rattle.std.specs.List.{AllZip}
use Rattle.omf_check.specs.Module.{Module, typed_modules}
use Rattle.omf_placement.specs.Derive.{placed_modules}
use Rattle.omf_placement.specs.Placement.{Places}
use Rattle.omf_keys.specs.Keys.{AreAlike, HaveEqualKeys}
use Rattle.omf_keys.specs.Laws.{PiecesByKeys}
use Rattle.omf_keys.proofs.ListLaws.{zip-beside}
use Rattle.omf_keys.proofs.PublicLaws.{AreBeside}

pub all-alike : PiecesByKeys → (ms ns : List Module) → HaveEqualKeys ms ns → AllZip AreAlike (typed_modules ms) (typed_modules ns)
all-alike same [] [] h = tt
all-alike same [] (n ∷ ns) h = absurd h
all-alike same (m ∷ ms) [] h = absurd h
all-alike same (m ∷ ms) (n ∷ ns) h = ((same m n h.0).bare, all-alike same ms ns h.1)

pub placed-alike : PiecesByKeys → (ms ns : List Module) (places : List Places) → HaveEqualKeys ms ns → AllZip AreBeside (placed_modules ms places) (placed_modules ns places)
placed-alike same ms ns places h = zip-beside AreAlike (typed_modules ms) (typed_modules ns) places (all-alike same ms ns h)
