use Rattle.std.proofs.Common.{◌≡◌, ◌++◌, ◌∷◌, ◌∙◌, ap, sym, arith, length, rules, List}
use Rattle.std.proofs.lemmas.List.{nil_from_length}
use Rattle.std.specs.Vec.Iter.{into_iter_items}
use Rattle.omf_trimming.specs.Choice.{Marked}
use Rattle.omf_trimming.proofs.ChoiceLaws.{added-all, added-more}
use Rattle.omf_trimming.proofs.choice.firsts.Firsts.add_all.Goals as goal

pub loop-marked-init : goal.loop-marked-init
loop-marked-init c = record {
  size = search rules;
  held = λ before h. record { so_far = before; are_first = h; all = ap (λ (is : List Marked). before ++ is) c.into_iter-marked-iterator.ensures.into_iter_gives.0 };
}

pub loop-marked-preserved : goal.loop-marked-preserved
loop-marked-preserved c =
    let steps : into_iter_items c.loop-marked.marked-iterator ≡ c.in-Some.marked ∷ into_iter_items c.next.new.self = c.in-Some.ensures.steps.0 in
    let gone = c.in-Some.ensures.steps.1 in
    record {
      size = omega (arith, ap length steps, gone, c.loop-marked.invariant.size);
      held = λ before h.
          added-more c.loop-marked.self.by_name c.add.new.self.by_name before c.args.found.items (into_iter_items c.loop-marked.marked-iterator) (into_iter_items c.next.new.self) c.in-Some.marked (c.loop-marked.invariant.held before h)
          steps (λ is g. c.in_ok-add.ensures is g);
    }

pub returns : goal.returns
returns c = λ before h.
    let left = into_iter_items c.loop-marked.marked-iterator in
    added-all c.loop-marked.self.by_name before c.args.found.items left (c.loop-marked.invariant.held before h) (nil_from_length left (sym c.loop-marked.invariant.size ∙ c.in-None.ensures.steps.0))
