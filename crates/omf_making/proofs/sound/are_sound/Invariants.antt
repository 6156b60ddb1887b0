use Rattle.std.proofs.Common.{ℕ, ◌<◌}
use Rattle.omf_library.specs.Dictionary.{block_of}
use Rattle.omf_making.specs.Made.{AreSoundIn, opened_seen}
use Rattle.omf_making.proofs.sound.are_sound.Given as goal

-- the blocks so far are sound
abbrev pub invariant-loop-number : goal.invariant-loop-number
invariant-loop-number l = (i : ℕ) → i < l.number → AreSoundIn (opened_seen l.opened) (block_of l.opened.dictionary.bytes.now i)
