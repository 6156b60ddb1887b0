use Rattle.std.proofs.Common.{◌≡◌, ◌<◌, ◌≤◌, ℕ, false, slice_index_or}
use Rattle.omf_output.proofs.exe.words.none_begins.Given as goal

-- no word begins at the addresses so far
abbrev pub invariant-loop-x : goal.invariant-loop-x
invariant-loop-x l = record {
  from : l.low ≤ l.x;
  none : (y : ℕ) → l.low ≤ y → y < l.x → slice_index_or l.starts y false ≡ false;
}
