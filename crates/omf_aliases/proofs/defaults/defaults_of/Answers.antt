use Rattle.std.proofs.Common.{◌∙◌, arith}
use Rattle.omf_check.specs.Module.{recs_of}
use Rattle.omf_placement.proofs.WeakLaws.{entries_more, no_entries}
use Rattle.omf_aliases.specs.Aliases.{default_of}
use Rattle.omf_aliases.proofs.AliasLaws.{next_default, no_defaults, without_aliases}
use Rattle.omf_aliases.proofs.defaults.defaults_of.Goals as goal

pub returns-then-is_empty : goal.returns-then-is_empty
returns-then-is_empty c ms h =
    let m = recs_of c.args.«module».now.bytes in
    c.new-defaults.ensures.items ∙ without_aliases ms m (c.is_empty.ensures ms h c.if-is_empty.true)

pub loop-i-preserved : goal.loop-i-preserved
loop-i-preserved c =
    let m = recs_of c.args.«module».now.bytes in
    let i = c.loop-i.i in
    let old = c.loop-i.defaults.items in
    record {
      start = omega (arith, c.loop-i.invariant.start);
      end = c.loop-i.invariant.end;
      so_far = λ ms h.
          let n = c.in_ok-put_external.ensures ms h c.in_ok-own.ensures in
          entries_more old c.put_external.new.defaults.items (default_of ms m (i, n.external)) _ _ _ n.added
          (next_default ms m i n.external c.loop-i.invariant.start n.there) (c.loop-i.invariant.so_far ms h);
    }

pub returns : goal.returns
returns c ms h =
    let m = recs_of c.args.«module».now.bytes in
    no_entries c.loop-i.defaults.items _ _ (no_defaults ms m c.loop-i.i (omega (arith, c.loop-i-test.false, c.loop-i.invariant.end))) (c.loop-i.invariant.so_far ms h)
