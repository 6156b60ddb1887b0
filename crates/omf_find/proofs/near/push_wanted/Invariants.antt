use Rattle.std.proofs.Common.{◌≡◌, ◌++◌, length}
use Rattle.std.specs.Prelude.{map}
use Rattle.std.specs.Vec.Iter.{into_iter_items, into_iter_len}
use Rattle.omf_find.specs.Nearly.{seen, wanted_of}
use Rattle.omf_find.proofs.near.push_wanted.Given as goal

-- the segments so far, and those that are left
abbrev pub invariant-loop-near : goal.invariant-loop-near
invariant-loop-near l = record {
  size : into_iter_len l.near-iterator ≡ length (into_iter_items l.near-iterator);
  nearly : map seen l.nearly.items ++ wanted_of l.wanted l.«module» (into_iter_items l.near-iterator) ≡ map seen l.fn.nearly.items ++ wanted_of l.wanted l.«module» l.fn.nears.items;
}
