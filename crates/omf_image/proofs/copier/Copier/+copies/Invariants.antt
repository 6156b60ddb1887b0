use Rattle.std.proofs.Common.{◌≡◌, ◌≤◌, ◌+◌, ◌*◌, ◌-◌, List, [], ℕ, length, drop}
use Rattle.omf_frame.specs.Types.{width_bytes}
use Rattle.omf_image.specs.Inner.Copying.{IsMoved, wanted, bytes_block, bytes_times}
use Rattle.omf_image.proofs.copier.Copier.+copies.Given as goal

abbrev pub decreases-block : goal.decreases-block
decreases-block l = 2 * l.levels

abbrev pub decreases-contents : goal.decreases-contents
decreases-contents l = 2 * l.levels + 1

-- the blocks written and the remaining ones are all the blocks
abbrev pub invariant-contents-loop : goal.invariant-contents-loop
invariant-contents-loop l = record {
  from : l.start ≤ l.end;
  to : l.end ≤ length l.source.bytes.now;
  written : (front : List ℕ) × (bytes_times (bytes_block (width_bytes l.source.width) l.levels) (l.blocks - l.counter) front l.end (drop l.end l.source.bytes.now)
      ≡ bytes_times (bytes_block (width_bytes l.source.width) l.levels) l.blocks [] l.start (drop l.start l.source.bytes.now))
      × IsMoved l.initial.self.out.items l.initial.self.moved l.self.out.items l.self.moved (l.end - l.start) (wanted l.is_wanted front);
}
