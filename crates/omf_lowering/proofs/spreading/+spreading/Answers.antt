use Rattle.std.proofs.Common.{◌<◌, ◌+◌, ◌-◌, ◌∙◌, ap, drop, Ok, rules}
use Rattle.omf_frame.specs.Types.{width_bytes}
use Rattle.omf_image.proofs.FoldSteps.{block_err, block_ok, times_step}
use Rattle.omf_records.specs.Inner.Reads.{after}
use Rattle.omf_lowering.specs.Inner.Turns.{finds, found_block, found_times}
use Rattle.omf_lowering.proofs.FoundSteps.{gives_err}
use Rattle.omf_lowering.proofs.spreading.+spreading.Goals as goal

pub block_at-returns-in-Err-contents_at-clause-read : goal.block_at-returns-in-Err-contents_at-clause-read
block_at-returns-in-Err-contents_at-clause-read t c =
    let s = c.args.search.now in
    gives_err s.bytes.now c.in-Err-contents_at.stop _ _ c.in-Err-contents_at.ensures.read
    (λ f e. block_err (finds s.location) (width_bytes s.width) c.args.levels c.args.pos (drop c.args.pos s.bytes.now) c.if-levels-eq0.false c.in-Ok.found.0 c.in-Ok.found.1 _ c.in-Ok.ensures.read
    c.in-Ok-word_at.found.0 c.in-Ok-word_at.found.1 _ c.in-Ok-word_at.ensures.read f e)

pub block_at-returns-in-Ok-repeated-clause-read : goal.block_at-returns-in-Ok-repeated-clause-read
block_at-returns-in-Ok-repeated-clause-read t c =
    let s = c.args.search.now in
    let end = c.in-Ok-contents_at.found.1 in
    ap (λ x. Ok (after x end (drop end s.bytes.now))) c.in-Ok-repeated.ensures
    ∙ block_ok (finds s.location) (width_bytes s.width) c.args.levels c.args.pos (drop c.args.pos s.bytes.now) c.if-levels-eq0.false c.in-Ok.found.0 c.in-Ok.found.1 _ c.in-Ok.ensures.read
    c.in-Ok-word_at.found.0 c.in-Ok-word_at.found.1 _ c.in-Ok-word_at.ensures.read c.in-Ok-contents_at.found.0 end _ c.in-Ok-contents_at.ensures.read

pub contents_at-loop-preserved : goal.contents_at-loop-preserved
contents_at-loop-preserved t c =
    let s = c.args.search.now in
    let block = found_block s.location (width_bytes s.width) c.args.levels in
    let low : c.loop.counter < c.args.blocks = search rules in
    let end = c.in-Ok.after in
    record {
      from = search rules;
      to = search rules;
      same = ap (λ n. found_times s.location block (c.args.blocks - (c.loop.counter + 1)) n end (drop end s.bytes.now)) c.joined-inner.ensures
          ∙ times_step (finds s.location) block c.args.blocks c.loop.counter c.loop.inner c.loop.end (drop c.loop.end s.bytes.now) low c.in-Ok.next end _ c.in-Ok.ensures.read
          ∙ c.loop.invariant.same;
    }
