use Rattle.std.proofs.Common.{◌≡◌, ◌≢◌, ℕ, slice_index}
use Rattle.omf_library.specs.Dictionary.{ArePassed, bucket_after, look_of}
use Rattle.omf_library.specs.declared.dictionary.Look.TheVariants as look
use Rattle.omf_library.proofs.search.search_block.Given as goal

-- the buckets so far have other entries, and so has each bucket that points to the last of them
abbrev pub invariant-loop-k : goal.invariant-loop-k
invariant-loop-k l = record {
  at : l.bucket ≡ bucket_after l.task.first l.task.step l._k;
  passed : ArePassed (record { is_case_sensitive = l.task.is_case_sensitive; name = l.task.name.now; first = l.task.first; step = l.task.step }) l.block l._k;
  same : l.other ≢ 0 → (b : ℕ) → slice_index l.block b ≡ l.other → look_of l.task.is_case_sensitive l.block b l.task.name.now ≡ look.Other;
}
