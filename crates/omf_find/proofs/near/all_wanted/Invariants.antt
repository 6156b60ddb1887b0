use Rattle.std.proofs.Common.{◌≡◌, ◌+◌, ◌++◌, length}
use Rattle.std.specs.Prelude.{map}
use Rattle.std.specs.Vec.Iter.{into_iter_items, into_iter_len}
use Rattle.omf_find.specs.Nearly.{all_wanted, seen}
use Rattle.omf_find.proofs.near.all_wanted.Given as goal

-- the segments so far, and those of the modules that are left
abbrev pub invariant-loop-own : goal.invariant-loop-own
invariant-loop-own l = record {
  size : into_iter_len l.own-iterator ≡ length (into_iter_items l.own-iterator);
  number : l.«module» + length (into_iter_items l.own-iterator) ≡ length l.fn.nears.items;
  nearly : map seen l.nearly.items ++ all_wanted l.wanted l.«module» (into_iter_items l.own-iterator) ≡ all_wanted l.wanted 0 l.fn.nears.items;
}
