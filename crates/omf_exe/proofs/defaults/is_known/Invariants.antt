use Rattle.std.proofs.Common.{◌≡◌, drop, map}
use Rattle.omf_library.specs.Needed.{has_name}
use Rattle.omf_exe.proofs.defaults.is_known.Given as goal

-- the names that are left decide
abbrev pub invariant-loop-one : goal.invariant-loop-one
invariant-loop-one l = has_name (map (λ k. k.items) (drop l.one-index l.known)) l.name ≡ has_name (map (λ k. k.items) l.known) l.name
