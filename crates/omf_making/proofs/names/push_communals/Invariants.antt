use Rattle.std.proofs.Common.{◌≡◌, ◌++◌}
use Rattle.std.specs.Prelude.{map}
use Rattle.omf_making.specs.Names.{names_seen}
use Rattle.omf_making.specs.declared.names.Kind.TheVariants as kind
use Rattle.omf_making.proofs.names.push_communals.Given as goal

-- the names so far, and those that are left
abbrev pub invariant-loop-communal : goal.invariant-loop-communal
invariant-loop-communal l = names_seen l.names.items ++ map (λ c. record { kind = kind.Communal; name = c.item.name }) l.communal-iterator ≡ names_seen l.fn.names.items ++ map (λ c. record { kind = kind.Communal; name = c.item.name }) l.fn.communals
