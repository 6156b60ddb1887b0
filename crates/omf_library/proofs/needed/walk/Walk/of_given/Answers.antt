use Rattle.std.proofs.Common.{◌+◌, ◌∙◌, ap, arith, sym, subst, take, false}
use Rattle.std.specs.Prelude.{All, map, replicate}
use Rattle.std.proofs.lemmas.List.{length-map}
use Rattle.omf_library.specs.Needed.{linkage, member_linkage}
use Rattle.omf_library.specs.Inner.Search.{offered}
use Rattle.omf_library.specs.Inner.Walk.{AreTaken}
use Rattle.omf_library.proofs.NeededLaws.{Contains-map_at, called-given, given-more, take-map_all, take-map_more, walk-started}
use Rattle.omf_library.proofs.needed.walk.Walk.of_given.Goals as goal

pub loop-module-init : goal.loop-module-init
loop-module-init c =
    let s = c.args.search.now in
    let w = c.in_ok-walk.walk in
    record {
      walk = walk-started (offered s) w.joined.items w.queue.items (c.in_ok-walk.ensures.0 ∙ ap (λ n. replicate n false) (sym (length-map s.members.now member_linkage))) c.in_ok-walk.ensures.1;
      taken = λ k d h. absurd (omega (arith, h));
    }

pub loop-module-preserved : goal.loop-module-preserved
loop-module-preserved c =
    let s = c.args.search.now in
    let i = c.loop-module.module-index in
    let all = map linkage s.modules.now in
    let w = c.loop-module.walk in
    let v = c.join_module.new.self in
    record {
      walk = c.in_ok-join_module.ensures.walk;
      taken = given-more (offered s) w.joined.items v.joined.items w.queue.items v.queue.items (take i all) (take (i + 1) all) (linkage c.module-item.result)
          (take-map_more linkage s.modules.now i c.module-item.result c.module-item.is c.loop-module-test.true) c.in_ok-join_module.ensures c.loop-module.invariant.taken;
    }

pub returns-clause-taken : goal.returns-clause-taken
returns-clause-taken c =
    let s = c.args.search.now in
    subst (All (AreTaken (offered s) c.loop-module.walk.joined.items)) (take-map_all linkage s.modules.now c.loop-module.module-index c.loop-module-test.false) c.loop-module.invariant.taken

pub join_module-requires-clause-called : goal.join_module-requires-clause-called
join_module-requires-clause-called c =
    let s = c.args.search.now in
    called-given (offered s) (linkage c.module-item.result) (Contains-map_at linkage s.modules.now c.loop-module.module-index c.module-item.result c.module-item.is c.loop-module-test.true)
