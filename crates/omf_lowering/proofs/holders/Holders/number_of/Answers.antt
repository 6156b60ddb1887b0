use Rattle.std.proofs.Common.{◌≡◌, ◌+◌, ◌*◌, ◌-◌, ◌∙◌, ℕ, ap, arith, rules}
use Rattle.omf_lowering.specs.Inner.Holders.{has_place, keyed, last_number}
use Rattle.omf_lowering.proofs.HolderLaws.{number_at_location, one_more, place_number}
use Rattle.omf_lowering.proofs.holders.Holders.number_of.Goals as goal

pub loop-more-init : goal.loop-more-init
loop-more-init c = λ pieces held.
    let first : ℕ = 2 * c.args.offset + 1 in
    place_number (keyed c.args.self.now.numbers) pieces c.args.segment first _ _ held (omega arith) (omega arith) c.number_at-number.ensures

pub loop-more-preserved : goal.loop-more-preserved
loop-more-preserved c = λ pieces held.
    let first : ℕ = 2 * c.args.offset + 1 in
    one_more (keyed c.args.self.now.numbers) pieces c.args.segment first c.loop-more.more _ c.loop-more.number _ _ held (omega arith) (omega arith) c.number_at.ensures (c.loop-more.invariant pieces held) (search rules)

pub returns : goal.returns
returns c = λ pieces held.
    let size : ℕ = c.args.size in
    let some = c.requires.0 in
    let end : c.loop-more.more ≡ 2 * size - 1 = omega (arith, some) in
    c.loop-more.invariant pieces held ∙ ap (λ n. last_number (has_place c.args.segment (2 * c.args.offset + 1) (2 * c.args.offset + 1 + n)) pieces) end ∙ number_at_location c.args.segment c.args.offset size pieces some
