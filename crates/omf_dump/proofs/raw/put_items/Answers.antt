use Rattle.std.proofs.Common.{◌≡◌, ℕ, ◌+◌, ◌-◌, ◌<◌, List, ◌++◌, length, ap, ◌∙◌, arith}
use Rattle.std.specs.Prelude.{false}
use Rattle.std.proofs.lemmas.Bool.Decides.{nat_tests}
use Rattle.omf_dump.specs.Raw.{item_size, items_from}
use Rattle.omf_dump.specs.Render.{items_text}
use Rattle.omf_dump.proofs.RawLaws.{item_was_written}
use Rattle.omf_dump.proofs.raw.put_items.Goals as goal

pub loop-rest-preserved : goal.loop-rest-preserved
loop-rest-preserved c =
    let view = c.args.view.now in
    let some : 0 < length c.loop-rest.rest.now = grind (arith, nat_tests) in
    let positive = c.at_least_one-size.ensures.some in
    let same = c.at_least_one-size.ensures.same in
    let fits = c.in_ok-taken.ensures.fits in
    let left = c.split_at.ensures.back_len in
    let ends = c.loop-rest.invariant.ends in
    let is : c.at_least_one-size.result - 1 ≡ item_size view.width c.args.kind c.loop-rest.rest.now - 1 = same ∙ ap (λ (n : ℕ). n - 1) c.in_ok-taken.ensures.size in
    record {
      written = ap (λ (bytes : List ℕ). c.close_item.new.text.items ++ items_text view.style.format false (items_from view.tables.now view.width c.args.kind (c.loop-rest.at + c.at_least_one-size.result) 0 bytes)) c.split_at.ensures.back
          ∙ item_was_written view.tables.now view.width c.args.kind view.style.format c.loop-rest.is_first c.loop-rest.at c.at_least_one-size.result c.loop-rest.rest.now c.loop-rest.text.items c.open_item.new.text.items
          c.put_item_steps.new.text.items c.close_item.new.text.items _ some positive is c.in_ok-open_item.ensures c.in_ok-taken.ensures.text c.in_ok-close_item.ensures c.loop-rest.invariant.written;
      ends = omega (arith, some, positive, same, fits, left, ends);
    }
