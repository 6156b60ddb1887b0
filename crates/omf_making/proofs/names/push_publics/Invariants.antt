use Rattle.std.proofs.Common.{◌≡◌, ◌++◌}
use Rattle.std.specs.Prelude.{map}
use Rattle.omf_making.specs.Names.{names_seen}
use Rattle.omf_making.specs.declared.names.Kind.TheVariants as kind
use Rattle.omf_making.proofs.names.push_publics.Given as goal

-- the names so far, and those that are left
abbrev pub invariant-loop-public : goal.invariant-loop-public
invariant-loop-public l = names_seen l.names.items ++ map (λ q. record { kind = kind.Public; name = q.item.name }) l.public-iterator ≡ names_seen l.fn.names.items ++ map (λ q. record { kind = kind.Public; name = q.item.name }) l.fn.publics
