use Rattle.std.proofs.Common.{◌<◌, arith, subst}
use Rattle.omf_making.specs.Made.{AreSoundIn, opened_seen}
use Rattle.omf_making.proofs.SoundLaws.{sound_blocks}
use Rattle.omf_making.proofs.sound.are_sound.Goals as goal

pub loop-number-preserved : goal.loop-number-preserved
loop-number-preserved c =
    let o = opened_seen c.args.opened in
    sound_blocks o c.args.opened.dictionary.bytes.now c.loop-number.number c.loop-number.invariant (subst (AreSoundIn o) c.block_of.ensures.value c.if-not-is_sound_block.ensures)

pub returns : goal.returns
returns c number low =
    let all = c.loop-number-test.false in
    let inside : number < c.loop-number.number = omega (arith, low, all, c.block_count-number-end.ensures) in
    c.loop-number.invariant number inside
