use Rattle.std.proofs.Common.{◌≡◌, [], ◌++◌, length}
use Rattle.std.specs.Prelude.{All, IfSome, option_to_list}
use Rattle.std.specs.Vec.Iter.{into_iter_items, into_iter_len}
use Rattle.omf_image.specs.Overlay.{AreLaidOver}
use Rattle.omf_image.specs.Painting.{all_zeros, Fits}
use Rattle.omf_image.proofs.painting.painted.Given as goal

-- the zeros laid, with those still to be laid, cover the intervals so far
abbrev pub invariant-loop-next : goal.invariant-loop-next
invariant-loop-next l = record {
  fits : IfSome l.last Fits;
  rest : All Fits (into_iter_items l.next-iterator);
  size : into_iter_len l.next-iterator ≡ length (into_iter_items l.next-iterator);
  all : l.yielded ++ into_iter_items l.next-iterator ≡ into_iter_items l.initial.next-iterator;
  laid : AreLaidOver [] (all_zeros l.yielded) (l.image ++ all_zeros (option_to_list l.last));
}
