use Rattle.std.proofs.Common.{◌≡◌, ◌<◌, ◌+◌, ◌∙◌, [], length, drop, sym, ap, rules}
use Rattle.omf_records.specs.Inner.Reads.{each, or_none}
use Rattle.omf_explicit.proofs.PartSteps.{with_front, forward, stopped}
use Rattle.omf_virtual.specs.Inner.Readers.{entry_reader, entry_shrinks}
use Rattle.omf_virtual.proofs.entry.entries_of.Goals as goal

pub loop-pos-preserved : goal.loop-pos-preserved
loop-pos-preserved c =
    let body = c.args.body.now in
    let read = entry_reader.read in
    let low : c.loop-pos.pos < length body = search rules in
    record {
      inside = search rules;
      same = ap (λ l. with_front l (each read (3 + c.in-Ok.end) (drop c.in-Ok.end body))) c.in_ok-push-in-Ok.ensures.items
          ∙ forward read entry_shrinks body c.loop-pos.pos c.in-Ok.end c.in-Ok.item c.loop-pos.items.items low c.in-Ok.ensures.read
          ∙ c.loop-pos.invariant.same;
    }

pub returns-in-Err : goal.returns-in-Err
returns-in-Err c =
    let body = c.args.body.now in
    let read = entry_reader.read in
    let low : c.loop-pos.pos < length body = search rules in
    let none : or_none (each read 3 body) ≡ [] = ap or_none (sym c.loop-pos.invariant.same ∙ stopped read entry_shrinks body c.loop-pos.pos _ c.loop-pos.items.items low c.in-Err.ensures.read) in
    search (rules, none)
