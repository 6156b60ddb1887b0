use Rattle.std.proofs.Common.{◌≡◌, ◌++◌, drop, map}
use Rattle.std.specs.Prelude.{None, string_bytes}
use Rattle.omf_externals.specs.Unresolved.{modules_text}
use Rattle.omf_externals.proofs.unresolved.put_modules.Given as goal

-- the labels so far, and those that are left
abbrev pub invariant-loop-spot : goal.invariant-loop-spot
invariant-loop-spot l = string_bytes l.text ++ modules_text (map string_bytes l.labels) l.last (drop l.spot-index l.spots) ≡ string_bytes l.fn.text ++ modules_text (map string_bytes l.labels) None l.spots
