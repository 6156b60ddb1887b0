use Rattle.std.proofs.Common.{◌≡◌, ℕ, ◌+◌, List, ◌++◌, length, rules, vec_len, drop, ap, ap₂, ◌∙◌, arith}
use Rattle.std.specs.Prelude.{false}
use Rattle.omf_dump.specs.Blocks.{Front, begun, block_fields, blocks_from, one_came}
use Rattle.omf_dump.specs.Render.{fields_text, items_text}
use Rattle.omf_dump.proofs.BlockLaws.{block_written, blocks_in}
use Rattle.omf_dump.proofs.blocks.put_blocks.Goals as goal

pub loop-front-preserved : goal.loop-front-preserved
loop-front-preserved c =
    let fits = c.in-Some.ensures.fits in
    let left = c.split_at.ensures.back_len in
    let ends = c.loop-front.invariant.ends in
    let size = ap (λ (x : Front). x.size) c.front.view_is in
    let blocks = ap blocks_in c.front.view_is in
    let nests = c.in_ok-begin_blocks.ensures ∙ ap₂ begun blocks (c.count_one.ensures ∙ ap one_came c.end_blocks.ensures) in
    let many : vec_len c.end_blocks.new.around ≡ length c.end_blocks.new.around.items = search rules in
    let level = ap (λ (n : ℕ). c.open_item.new.text.items ++ fields_text c.args.format (block_fields n c.in-Some.front)) (c.len.ensures ∙ many ∙ ap length c.end_blocks.ensures) in
    let moved = ap₂ (λ (s : ℕ) (bytes : List ℕ). c.close_item.new.text.items ++ items_text c.args.format false (blocks_from c.args.blocks.width (c.loop-front.at + s) c.begin_blocks.new.around.items 0 bytes)) size
    (c.split_at.ensures.back ∙ ap (λ (n : ℕ). drop n c.loop-front.rest.now) size) in
    record {
      written = moved
          ∙ block_written c.args.blocks.width c.args.format c.loop-front.is_first c.loop-front.at c.loop-front.around.items c.begin_blocks.new.around.items c.in-Some.front c.loop-front.rest.now
          c.loop-front.text.items c.open_item.new.text.items c.put_block.new.text.items c.close_item.new.text.items _ c.in-Some.ensures.front fits.0 nests c.in_ok-open_item.ensures (c.in_ok-put_block.ensures ∙ level) c.in_ok-close_item.ensures
          c.loop-front.invariant.written;
      ends = omega (arith, fits.1, left, ends, size);
    }
