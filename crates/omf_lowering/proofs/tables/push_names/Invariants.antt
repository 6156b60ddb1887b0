use Rattle.std.proofs.Common.{◌≡◌, ◌++◌, map}
use Rattle.omf_lowering.proofs.tables.push_names.Given as goal

-- the names so far, and those left, are all, and so of whether each is local
abbrev pub invariant-loop-item : goal.invariant-loop-item
invariant-loop-item l = record {
  names : l.names ++ map (λ n. n.item) l.item-iterator ≡ l.fn.names ++ map (λ n. n.item) l.fn.items;
  locals : l.locals.items ++ map (λ n. l.is_local) l.item-iterator ≡ l.fn.locals.items ++ map (λ n. l.is_local) l.fn.items;
}
