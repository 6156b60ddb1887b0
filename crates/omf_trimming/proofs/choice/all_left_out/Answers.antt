use Rattle.std.proofs.Common.{◌≡◌, ◌∙◌, ◌++◌, ◌∷◌, [], ◌+◌, List, ℕ, ap, sym, subst, take}
use Rattle.std.specs.Prelude.{flat_map, map}
use Rattle.std.proofs.lemmas.List.{map-append}
use Rattle.omf_check.specs.Module.{Module, recs_of}
use Rattle.omf_trimming.specs.Choice.{Marked, instances, left_out}
use Rattle.omf_trimming.specs.Inner.Choosing.{AreFirsts, segment_if}
use Rattle.omf_trimming.proofs.ChoiceAllLaws.{all_instances, instances-more, left-out-more, segments-filtered, take-more}
use Rattle.omf_trimming.proofs.choice.all_left_out.Goals as goal

pub loop-module-preserved : goal.loop-module-preserved
loop-module-preserved c =
    let ms = c.args.modules.now in
    let i = c.loop-module.module-index in
    let x : Module = c.module-item.result in
    let earlier = take i ms in
    let before = all_instances earlier in
    let found = c.in_ok-found.found.items in
    let is_found : found ≡ instances (recs_of x.bytes) = c.in_ok-found.ensures in
    let gone : List ℕ = c.in_ok-left_out.field-0.items in
    let own : gone ≡ left_out earlier x =
    c.in_ok-left_out.ensures before c.loop-module.invariant.firsts ∙ ap (flat_map (segment_if before)) (c.deref.ensures.value ∙ is_found) ∙ segments-filtered before (instances (recs_of x.bytes)) in
    let pushed = ap (map (λ g. g.items)) c.in_ok-push.ensures.items ∙ map-append (λ g. g.items) c.loop-module.all.items (c.in_ok-left_out.field-0 ∷ []) in
    let more : all_instances (take (i + 1) ms) ≡ before ++ found = instances-more earlier (take (i + 1) ms) x (take-more ms i x c.module-item.is c.loop-module-test.true) ∙ ap (λ (is : List Marked). before ++ is) (sym is_found) in
    record {
      so_far = left-out-more ms i x (map (λ g. g.items) c.loop-module.all.items) (map (λ g. g.items) c.push.new.self.items) gone c.module-item.is c.loop-module-test.true pushed own c.loop-module.invariant.so_far;
      firsts = subst (λ (is : List Marked). AreFirsts c.add_all.new.self.by_name is) (sym more) (c.in_ok-add_all.ensures before c.loop-module.invariant.firsts);
    }
