use Rattle.std.proofs.Common.{◌<◌, ◌≤◌, ◌+◌, ◌-◌, sym, ap, ◌∙◌, drop, ◌*◌, ℕ, Ok, Err, rules}
use Rattle.std.proofs.lemmas.Result.{err_from_is_err_and}
use Rattle.omf_records.specs.Inner.Reads.{after, Reading}
use Rattle.omf_frame.specs.Types.{width_bytes}
use Rattle.omf_image.specs.Inner.Lengths.{lengths, len_times, len_block, capped, read_to}
use Rattle.omf_image.proofs.FoldSteps.{text_contents, times_contents, times_step, times_err, times_end, block_ok, block_err}
use Rattle.omf_image.proofs.length.+lengths.Goals as goal

pub block_len-returns-in_err-contents-clause-read : goal.block_len-returns-in_err-contents-clause-read
block_len-returns-in_err-contents-clause-read t c =
    let p = err_from_is_err_and c.from_residual-in_err-contents.result c.from_residual-in_err-contents.ensures.1 in
    ap (read_to c.args.bytes.now) p.1 ∙ ap (λ f. Err f) p.2
    ∙ block_err lengths (width_bytes c.args.width) c.args.levels c.args.pos (drop c.args.pos c.args.bytes.now) c.if-levels-eq0.false c.in_ok-count.count c.in_ok-count.after_count _ c.in_ok-count.ensures.read
    c.in_ok-blocks.blocks c.in_ok-blocks.start _ c.in_ok-blocks.ensures.read c.in_err-contents.field-0.0 c.in_err-contents.ensures.read

pub block_len-returns-clause-read : goal.block_len-returns-clause-read
block_len-returns-clause-read t c =
    ap (λ n. Ok (after n c.in_ok-contents.end (drop c.in_ok-contents.end c.args.bytes.now))) (c.saturating_mul.ensures ∙ ap (λ n. capped (n * c.in_ok-contents.contents)) c.from.ensures)
    ∙ block_ok lengths (width_bytes c.args.width) c.args.levels c.args.pos (drop c.args.pos c.args.bytes.now) c.if-levels-eq0.false c.in_ok-count.count c.in_ok-count.after_count _ c.in_ok-count.ensures.read
    c.in_ok-blocks.blocks c.in_ok-blocks.start _ c.in_ok-blocks.ensures.read c.in_ok-contents.contents c.in_ok-contents.end _ c.in_ok-contents.ensures.read

pub contents_len-returns-then-blocks-eq0-clause-read : goal.contents_len-returns-then-blocks-eq0-clause-read
contents_len-returns-then-blocks-eq0-clause-read t c =
    c.data_at.ensures.read ∙ sym (ap (λ r. r c.args.start (drop c.args.start c.args.bytes.now)) (text_contents lengths (len_block (width_bytes c.args.width) c.args.levels) c.args.blocks c.if-blocks-eq0.true))

pub contents_len-returns-in_err-len-clause-read : goal.contents_len-returns-in_err-len-clause-read
contents_len-returns-in_err-len-clause-read t c =
    let block : Reading ℕ = len_block (width_bytes c.args.width) c.args.levels in
    let p = err_from_is_err_and c.from_residual.result c.from_residual.ensures.1 in
    let low : c.loop.counter < c.args.blocks = search rules in
    ap (read_to c.args.bytes.now) p.1 ∙ ap (λ f. Err f) p.2
    ∙ times_err lengths block c.args.blocks c.loop.counter c.loop.inner c.loop.end (drop c.loop.end c.args.bytes.now) low c.in_err-len.field-0.0 c.in_err-len.ensures.read
    ∙ c.loop.invariant.same ∙ sym (ap (λ r. r c.args.start (drop c.args.start c.args.bytes.now)) (times_contents lengths block c.args.blocks c.if-blocks-eq0.false))

pub contents_len-loop-preserved : goal.contents_len-loop-preserved
contents_len-loop-preserved t c =
    let block : Reading ℕ = len_block (width_bytes c.args.width) c.args.levels in
    let bytes = c.args.bytes.now in
    let low : c.loop.counter < c.args.blocks = search rules in
    record {
      from = search rules;
      to = search rules;
      same = ap (λ n. len_times block (c.args.blocks - (c.loop.counter + 1)) n c.in_ok-len.next (drop c.in_ok-len.next bytes)) c.saturating_add-inner.ensures
          ∙ times_step lengths block c.args.blocks c.loop.counter c.loop.inner c.loop.end (drop c.loop.end bytes) low c.in_ok-len.len c.in_ok-len.next _ c.in_ok-len.ensures.read
          ∙ c.loop.invariant.same;
    }

pub contents_len-returns-clause-read : goal.contents_len-returns-clause-read
contents_len-returns-clause-read t c =
    let block : Reading ℕ = len_block (width_bytes c.args.width) c.args.levels in
    let none : c.args.blocks ≤ c.loop.counter = search rules in
    times_end lengths block c.args.blocks c.loop.counter c.loop.inner c.loop.end (drop c.loop.end c.args.bytes.now) none
    ∙ c.loop.invariant.same ∙ sym (ap (λ r. r c.args.start (drop c.args.start c.args.bytes.now)) (times_contents lengths block c.args.blocks c.if-blocks-eq0.false))
