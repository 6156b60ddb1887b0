use Rattle.std.proofs.Common.{◌≡◌, refl, ◌∙◌, ◌<◌, ◌-◌, ◌++◌, List, ℕ, [], sym, ap, subst, length, drop, arith, rules}
use Rattle.std.specs.Prelude.{IsOk}
use Rattle.std.proofs.lemmas.Result.{IfOk-weaker}
use Rattle.omf_records.specs.Inner.Reads.{Reading}
use Rattle.omf_frame.specs.Types.{width_bytes}
use Rattle.omf_image.specs.Blocks.{repeated}
use Rattle.omf_image.specs.Inner.Copying.{copies, bytes_block, bytes_times}
use Rattle.omf_image.proofs.FoldSteps.{block_ok, times_contents, times_step}
use Rattle.omf_image.proofs.CopySteps.{block_some, block_levels, block_counts, block_words, contents_are, moves_then, moves_as, moves_none, times_ok, written_again, back_part, wanted_more, wanted_all, wanted_nothing, unwanted}
use Rattle.omf_image.proofs.copier.Copier.+copies.Goals as goal

pub block-count-count-requires : goal.block-count-count-requires
block-count-count-requires t c =
    (c.requires.0, block_counts (width_bytes c.args.source.width) c.args.levels c.args.pos (drop c.args.pos c.args.source.bytes.now) c.requires.1)

pub block-word-blocks-requires : goal.block-word-blocks-requires
block-word-blocks-requires t c =
    let q = c.count-count.ensures in
    (q.to, block_words (width_bytes c.args.source.width) c.args.levels c.args.pos (drop c.args.pos c.args.source.bytes.now) c.requires.1 c.count-count.result.0 c.count-count.result.1 _ q.is)

pub block-contents-requires : goal.block-contents-requires
block-contents-requires t c =
    let rest = drop c.args.pos c.args.source.bytes.now in
    let w = width_bytes c.args.source.width in
    let some = block_levels w c.args.levels c.args.pos rest c.requires.1 in (
      omega (arith, some),
      (
        c.word-blocks.ensures.to,
        contents_are w c.args.levels c.args.pos rest c.requires.1 c.count-count.result.0 c.count-count.result.1 _ c.count-count.ensures.is
            c.word-blocks.result.0 c.word-blocks.result.1 _ c.word-blocks.ensures.is,
      ),
    )

pub block-contents-requires-2 : goal.block-contents-requires-2
block-contents-requires-2 t c =
    let rest = drop c.args.pos c.args.source.bytes.now in
    let w = width_bytes c.args.source.width in
    let some = block_levels w c.args.levels c.args.pos rest c.requires.1 in (
      omega (arith, some),
      (
        c.word-blocks.ensures.to,
        contents_are w c.args.levels c.args.pos rest c.requires.1 c.count-count.result.0 c.count-count.result.1 _ c.count-count.ensures.is
            c.word-blocks.result.0 c.word-blocks.result.1 _ c.word-blocks.ensures.is,
      ),
    )

pub block-returns-then-not-is_wanted : goal.block-returns-then-not-is_wanted
block-returns-then-not-is_wanted t c =
    let rest = drop c.args.pos c.args.source.bytes.now in
    let w = width_bytes c.args.source.width in
    let count : ℕ = c.count-count.result.0 in
    IfOk-weaker c.contents.result _ _ (λ end h. record {
      value = repeated count h.value;
      is = block_ok copies w c.args.levels c.args.pos rest (block_some w c.args.levels c.args.pos rest c.requires.1) count c.count-count.result.1 _ c.count-count.ensures.is c.word-blocks.result.0 c.word-blocks.result.1 _ c.word-blocks.ensures.is h.value end _ h.is;
      from = omega (arith, h.from, c.word-blocks.ensures.from, c.count-count.ensures.from);
      to = h.to;
      moves = moves_as (moves_then (moves_then c.count-count.ensures.moves c.word-blocks.ensures.moves) h.moves)
          (omega (arith, h.from, c.word-blocks.ensures.from, c.count-count.ensures.from)) (unwanted c.args.is_wanted count h.value c.then-not-is_wanted.either);
    }) c.contents.ensures

pub block-returns : goal.block-returns
block-returns t c =
    let rest = drop c.args.pos c.args.source.bytes.now in
    let w = width_bytes c.args.source.width in
    let count : ℕ = c.count-count.result.0 in
    let x : List ℕ = c.in_ok-end.ensures.value in
    let old : List ℕ = c.word-blocks.new.self.out.items in
    let is = block_ok copies w c.args.levels c.args.pos rest (block_some w c.args.levels c.args.pos rest c.requires.1) count c.count-count.result.1 _ c.count-count.ensures.is c.word-blocks.result.0 c.word-blocks.result.1 _ c.word-blocks.ensures.is
    x c.in_ok-end.end _ c.in_ok-end.ensures.is in
    let from : c.written-from.result ≡ length old = search rules in
    let back : drop c.written-from.result c.contents-2.new.self.out.items ≡ x = back_part old c.contents-2.new.self.out.items x c.written-from.result c.in_ok-end.ensures.moves.appended from in
    let again = ap (λ z. x ++ repeated (count - 1) z) back ∙ written_again count x c.if-count-eq0.false ∙ wanted_all c.args.is_wanted (repeated count x) c.if-not-is_wanted.false in
    record {
      value = repeated count x;
      is = is;
      from = omega (arith, c.in_ok-end.ensures.from, c.word-blocks.ensures.from, c.count-count.ensures.from);
      to = c.in_ok-end.ensures.to;
      moves = moves_as (moves_then (moves_then (moves_then c.count-count.ensures.moves c.word-blocks.ensures.moves) c.in_ok-end.ensures.moves) c.in_ok-repeat.ensures)
          (omega (arith, c.in_ok-end.ensures.from, c.word-blocks.ensures.from, c.count-count.ensures.from)) again;
    }

pub contents-loop-init : goal.contents-loop-init
contents-loop-init t c = record {
  from = omega arith;
  to = c.requires.0;
  written = (
    [],
    ap (λ k. bytes_times (bytes_block (width_bytes c.args.source.width) c.args.levels) k [] c.args.start (drop c.args.start c.args.source.bytes.now)) (omega arith),
    moves_as (moves_none _ _ _ (omega arith)) refl (wanted_nothing c.args.is_wanted),
  );
}

pub contents-block-requires : goal.contents-block-requires
contents-block-requires t c =
    let block : Reading (List ℕ) = bytes_block (width_bytes c.args.source.width) c.args.levels in
    let low : c.loop.counter < c.args.blocks = search rules in
    let whole : IsOk (bytes_times block c.args.blocks [] c.args.start (drop c.args.start c.args.source.bytes.now))
    = subst (λ r. IsOk (r c.args.start (drop c.args.start c.args.source.bytes.now))) (times_contents copies block c.args.blocks c.if-blocks-eq0.false) c.requires.1 in
    let left = subst (λ r. IsOk r) (sym c.loop.invariant.written.1) whole in
    (omega arith, (c.loop.invariant.to, times_ok block c.args.blocks c.loop.counter c.loop.end c.loop.invariant.written.0 (drop c.loop.end c.args.source.bytes.now) low left))

pub contents-loop-preserved : goal.contents-loop-preserved
contents-loop-preserved t c =
    let block : Reading (List ℕ) = bytes_block (width_bytes c.args.source.width) c.args.levels in
    let low : c.loop.counter < c.args.blocks = search rules in
    let w = c.in_ok-end.ensures in
    let front : List ℕ = c.loop.invariant.written.0 in
    record {
      from = omega (arith, c.loop.invariant.from, w.from);
      to = w.to;
      written = (
        front ++ w.value,
        times_step copies block c.args.blocks c.loop.counter front c.loop.end (drop c.loop.end c.args.source.bytes.now) low w.value c.in_ok-end.end _ w.is ∙ c.loop.invariant.written.1,
        moves_as (moves_then c.loop.invariant.written.2 w.moves) (omega (arith, c.loop.invariant.from, w.from)) (wanted_more c.args.is_wanted front w.value),
      );
    }
