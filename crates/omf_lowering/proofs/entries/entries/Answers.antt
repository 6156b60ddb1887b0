use Rattle.std.proofs.Common.{◌<◌, ◌+◌, ◌∙◌, length, drop, sym, ap, rules}
use Rattle.omf_records.specs.Inner.Reads.{each}
use Rattle.omf_lowering.proofs.Steps.{with_front, forward, stopped}
use Rattle.omf_lowering.proofs.entries.entries.Goals as goal

pub loop-pos-preserved : goal.loop-pos-preserved
loop-pos-preserved g c =
    let body = c.args.body.now in
    let low : c.loop-pos.pos < length body = search rules in
    record {
      inside = search rules;
      same = ap (λ l. with_front l (each (g.T.Entry.reading c.args.wide) (3 + c.in-Ok.end) (drop c.in-Ok.end body))) c.in_ok-push-in-Ok.ensures.items
          ∙ forward (g.T.Entry.reading c.args.wide) (g.met.T.Entry.shrinks c.args.wide) body c.loop-pos.pos c.in-Ok.end c.in-Ok.item c.loop-pos.items.items low c.in-Ok.ensures.read
          ∙ c.loop-pos.invariant.same;
    }

pub returns-in-Err : goal.returns-in-Err
returns-in-Err g c =
    let body = c.args.body.now in
    let low : c.loop-pos.pos < length body = search rules in
    sym c.loop-pos.invariant.same ∙ stopped (g.T.Entry.reading c.args.wide) (g.met.T.Entry.shrinks c.args.wide) body c.loop-pos.pos _ c.loop-pos.items.items low c.in-Err.ensures.read
