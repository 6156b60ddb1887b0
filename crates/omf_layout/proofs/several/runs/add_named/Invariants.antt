use Rattle.std.proofs.Common.{◌≡◌, ◌++◌, drop}
use Rattle.std.specs.List.{filter}
use Rattle.omf_layout.specs.Several.Order.{is_named}
use Rattle.omf_layout.proofs.several.runs.add_named.Given as goal

-- those so far, and those that are left
abbrev pub invariant-loop-portion : goal.invariant-loop-portion
invariant-loop-portion l = l.ordered.items ++ filter (λ x. is_named x.1.1) (drop l.portion-index l.portions) ≡ l.fn.ordered.items ++ filter (λ x. is_named x.1.1) l.portions
