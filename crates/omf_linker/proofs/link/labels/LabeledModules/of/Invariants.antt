use Rattle.std.proofs.Common.{◌≡◌, ◌<◌, ◌^◌, length}
use Rattle.std.specs.Vec.Iter.{into_iter_items, into_iter_len}
use Rattle.omf_linker.proofs.LabelLaws.{AreSoFar}
use Rattle.omf_linker.proofs.link.labels.LabeledModules.of.Given as goal

-- the modules of the files so far
abbrev pub invariant-loop-file : goal.invariant-loop-file
invariant-loop-file l = record {
  labeled : AreSoFar l.fn.files.items (into_iter_items l.file-iterator) l.all;
  size : into_iter_len l.file-iterator ≡ length (into_iter_items l.file-iterator);
  few : length l.all.modules.items < 2 ^ 32;
}
