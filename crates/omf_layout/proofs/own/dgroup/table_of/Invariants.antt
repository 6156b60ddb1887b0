use Rattle.std.proofs.Common.{drop}
use Rattle.std.specs.Prelude.{map}
use Rattle.omf_layout.specs.Own.Order.{IsNameTable}
use Rattle.omf_placement.proofs.Filling.{IsFilled}
use Rattle.omf_layout.proofs.own.dgroup.table_of.Given as goal

-- the names so far are in the table
abbrev pub invariant-loop-name : goal.invariant-loop-name
invariant-loop-name l = IsFilled IsNameTable l.initial.table l.table (map (λ n. n.now) (drop l.name-index l.names)) (map (λ n. n.now) l.names)
