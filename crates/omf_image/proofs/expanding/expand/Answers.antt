use Rattle.std.proofs.Common.{◌≡◌, ◌∙◌, ◌<◌, ◌≤◌, ◌+◌, List, ℕ, Vec, Global, sym, ap, subst, length, length-append, length-drop, drop, arith, rules}
use Rattle.std.specs.Prelude.{IsOk}
use Rattle.omf_records.specs.Inner.Reads.{after}
use Rattle.omf_frame.specs.Types.{width_bytes}
use Rattle.omf_image.specs.Inner.Copying.{bytes_block, bytes_all}
use Rattle.omf_image.specs.Inner.Expanding.{expanded_length, expanded}
use Rattle.omf_image.proofs.Expansion.{all_ok, all_are, first_ok, later, bytes_step, bytes_end}
use Rattle.omf_image.proofs.expanding.expand.Goals as goal

pub block-requires : goal.block-requires
block-requires c =
    let bytes = c.new-source.result.bytes.now in
    let wide = c.new-source.result.width in
    let w = width_bytes wide in
    let low : c.loop-pos.pos < length bytes = search rules in
    let size = length-drop c.loop-pos.pos bytes in
    let fits = subst (λ b. IsOk (expanded_length (width_bytes b) c.args.limits bytes)) (sym c.new-source.ensures.width)
    (subst (λ (bs : List ℕ). IsOk (expanded_length (width_bytes c.args.blocks.width) c.args.limits bs)) (sym c.new-source.ensures.bytes) c.requires.fits) in
    let left = subst (λ r. IsOk r) (sym c.loop-pos.invariant.same) (all_ok w c.args.limits bytes fits) in
    (c.loop-pos.invariant.inside, first_ok w c.args.limits.nesting (length bytes) c.loop-pos.copier.out.items c.loop-pos.pos (drop c.loop-pos.pos bytes) (omega (arith, size, low)) (omega (arith, size)) left)

pub loop-pos-smaller : goal.loop-pos-smaller
loop-pos-smaller c =
    let w = c.in_ok-pos.ensures in
    let bytes = c.new-source.result.bytes.now in
    let next = later (width_bytes c.new-source.result.width) c.args.limits.nesting c.loop-pos.pos c.in_ok-pos.pos bytes w.value c.loop-pos.invariant.inside w.to w.is in
    omega (arith, next, w.to)

pub loop-pos-preserved : goal.loop-pos-preserved
loop-pos-preserved c =
    let bytes = c.new-source.result.bytes.now in
    let width = width_bytes c.new-source.result.width in
    let low : c.loop-pos.pos < length bytes = search rules in
    let size = length-drop c.loop-pos.pos bytes in
    let w = c.in_ok-pos.ensures in
    let old : List ℕ = c.loop-pos.copier.out.items in
    let block = bytes_block width c.args.limits.nesting in
    let step = bytes_step width c.args.limits.nesting (length bytes) old c.loop-pos.pos (drop c.loop-pos.pos bytes) (after w.value c.in_ok-pos.pos (drop c.in_ok-pos.pos bytes))
    (omega (arith, size, low)) (omega (arith, size)) w.is in
    let out : length c.block.new.self.out.items ≡ length old + length w.value = ap (λ (xs : List ℕ). length xs) w.moves.appended ∙ length-append old w.value in
    record {
      inside = w.to;
      same = ap (λ (xs : List ℕ). bytes_all block (length bytes) xs c.in_ok-pos.pos (drop c.in_ok-pos.pos bytes)) w.moves.appended ∙ step ∙ c.loop-pos.invariant.same;
      least = omega (arith, w.moves.least, c.loop-pos.invariant.least, out, w.from);
      most = omega (arith, w.moves.most, c.loop-pos.invariant.most, out, w.from);
    }

pub returns-clause-bytes : goal.returns-clause-bytes
returns-clause-bytes c =
    let bytes = c.new-source.result.bytes.now in
    let w = width_bytes c.new-source.result.width in
    let size = length-drop c.loop-pos.pos bytes in
    let past : length bytes ≤ c.loop-pos.pos = search rules in
    let none : length (drop c.loop-pos.pos bytes) ≡ 0 = omega (arith, size, past) in
    let same = all_are w c.args.limits bytes c.loop-pos.copier.out.items
    (bytes_end w c.args.limits.nesting (length bytes) c.loop-pos.copier.out.items c.loop-pos.pos (drop c.loop-pos.pos bytes) none ∙ c.loop-pos.invariant.same) in
    ap (λ (v : Vec ℕ Global). v.items) c.finish.ensures.out ∙ same
    ∙ ap (λ b. expanded (width_bytes b) c.args.limits bytes) c.new-source.ensures.width ∙ ap (λ (bs : List ℕ). expanded (width_bytes c.args.blocks.width) c.args.limits bs) c.new-source.ensures.bytes
