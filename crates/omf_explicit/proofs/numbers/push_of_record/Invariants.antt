use Rattle.std.proofs.Common.{◌≡◌, ◌++◌, drop}
use Rattle.std.specs.Prelude.{flat_map}
use Rattle.omf_explicit.specs.Explicit.{numbers_in}
use Rattle.omf_explicit.proofs.numbers.push_of_record.Given as goal

-- the numbers of the parts so far, and of those to come
abbrev pub invariant-loop-part : goal.invariant-loop-part
invariant-loop-part l = l.named.items ++ flat_map (λ p. numbers_in p.item) (drop l.part-index l.part-items) ≡ l.fn.named.items ++ flat_map (λ p. numbers_in p.item) l.part-items
