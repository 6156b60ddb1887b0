use Rattle.std.proofs.Common.{◌≡◌, ◌++◌, flat_map}
use Rattle.omf_records.specs.Inner.Begins.{Grows}
use Rattle.omf_records.proofs.item.put_items.Given as goal

-- what is written, and the spellings of the items that are left; what was there is kept
abbrev pub invariant-loop-entry : goal.invariant-loop-entry
invariant-loop-entry g l =
    (l.out.items ++ flat_map (λ x. g.T.Item.shortest l.fn.kind x.item) l.entry-iterator ≡ l.fn.out.items ++ flat_map (λ x. g.T.Item.shortest l.fn.kind x.item) l.fn.items)
    × Grows l.fn.out l.out
