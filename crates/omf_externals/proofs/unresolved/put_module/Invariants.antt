use Rattle.std.proofs.Common.{◌≡◌, ◌+◌, ◌++◌, List, drop, length, map}
use Rattle.std.specs.Prelude.{flat_map, string_bytes}
use Rattle.std.specs.List.{enumerate_from}
use Rattle.omf_check.specs.Module.{records_in}
use Rattle.omf_check.specs.Tables.{externals}
use Rattle.omf_check.specs.WellFormed.{recs}
use Rattle.omf_placement.specs.Derive.{named_externals}
use Rattle.omf_externals.specs.Unresolved.{IsByName, Row, external_text}
use Rattle.omf_externals.proofs.unresolved.put_module.Given as goal

-- the lines so far, and those that are left
abbrev pub invariant-loop-before : goal.invariant-loop-before
invariant-loop-before l = let m = recs (records_in l.«module».bytes) in record {
  end : l.before-end ≡ length (externals m);
  lines : (publics asks rows own_asks : List Row) → IsByName l.tables.publics.spots publics → IsByName l.tables.asks.spots asks → IsByName l.own.publics.spots rows → IsByName l.own.asks.spots own_asks
      → let f = external_text (map string_bytes l.labels) l.settled publics asks rows own_asks l.number in
      string_bytes l.text ++ flat_map f (enumerate_from (l.before + 1) (drop l.before (named_externals m))) ≡ string_bytes l.fn.text ++ flat_map f (enumerate_from 1 (named_externals m));
}
