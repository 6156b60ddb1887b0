use Rattle.std.proofs.Common.{◌≡◌, ◌+◌, ◌<◌, ◌∷◌, ◌++◌, ◌∙◌, ap, drop, length, refl, subst, sym}
use Rattle.std.specs.Prelude.{All}
use Rattle.std.proofs.lemmas.List.Elements.{All-cons, All-nil}
use Rattle.omf_check.specs.Module.{records_in, typed_modules}
use Rattle.omf_check.specs.Tables.{externals}
use Rattle.omf_check.specs.WellFormed.{recs}
use Rattle.omf_placement.specs.Inner.Linkage.{linkage, seen_sources}
use Rattle.omf_placement.proofs.LinkedLaws.{linked-more, linked-end}
use Rattle.omf_placement.proofs.WeakLaws.{next_one, none_left}
use Rattle.omf_placement.proofs.several.linkage.Linkage.of.Goals as goal

pub loop-j-init : goal.loop-j-init
loop-j-init c = record {
  links = ap (λ xs. xs ++ linkage (typed_modules c.args.modules.now)) c.in_ok-of_module.ensures.items;
  few = λ h. h;
}

pub loop-j-preserved : goal.loop-j-preserved
loop-j-preserved c =
    let ms = c.args.modules.now in
    let tm = typed_modules ms in
    let j = c.loop-j.j in
    let m = recs (records_in c.index-modules-j.result.bytes) in
    let next : typed_modules (drop j ms) ≡ m ∷ typed_modules (drop (j + 1) ms) = next_one ms j c.index-modules-j.result c.index-modules-j.is c.loop-j-test.true in
    record {
      links = linked-more tm j m (typed_modules (drop j ms)) (typed_modules (drop (j + 1) ms)) next c.loop-j.of_module.items c.push.new.self.items c.in_ok-links_of.field-0
          c.in_ok-push.ensures.items (c.in_ok-links_of.ensures.links (seen_sources tm j m) c.in_ok-all.ensures.table refl) c.loop-j.invariant.links;
      few = λ h. c.loop-j.invariant.few (subst (All (λ x. length (externals x) < 32768)) (sym next) (All-cons (λ x. length (externals x) < 32768) m _ c.in_ok-links_of.ensures.few h));
    }

pub returns : goal.returns
returns c =
    let ms = c.args.modules.now in
    let none = none_left ms c.loop-j.j c.loop-j-test.false in
    record {
      apart = λ f. c.in_ok-all.ensures.table.apart (sym c.repeats.ensures ∙ f);
      strong = c.in_ok-is_weak.ensures;
      is = linked-end (typed_modules ms) c.loop-j.j (typed_modules (drop c.loop-j.j ms)) none c.loop-j.of_module.items c.loop-j.invariant.links;
      hold = c.in_ok-all.ensures.hold;
      few = c.loop-j.invariant.few (subst (All (λ x. length (externals x) < 32768)) (sym none) (All-nil (λ x. length (externals x) < 32768)));
    }
