use Rattle.std.proofs.Common.{◌≡◌, ◌++◌, ◌∷◌, [], ◌+◌, ◌∙◌, take, sym, ap, append_assoc}
use Rattle.std.proofs.lemmas.List.{map-append}
use Rattle.omf_library.specs.Inner.Names.{names_seen}
use Rattle.omf_library.specs.LibraryMembers.{names_kept}
use Rattle.omf_library.proofs.NeededLaws.{take-map_more}
use Rattle.omf_library.proofs.needed.names.push_kept.Goals as goal

pub loop-name-preserved : goal.loop-name-preserved
loop-name-preserved c =
    let kept = c.args.kept.now in
    let i = c.loop-name.name-index in
    let old = names_seen c.args.names.now.items in
    let x = c.name-item.result in
    ap names_seen c.in_ok-push.ensures.items ∙ map-append (λ n. n.now) c.loop-name.names.items (c.as_slice.result ∷ [])
    ∙ ap (λ n. names_seen c.loop-name.names.items ++ n ∷ []) c.as_slice.ensures.value
    ∙ ap (λ ns. ns ++ x.items ∷ []) c.loop-name.invariant ∙ append_assoc old (take i (names_kept kept)) (x.items ∷ [])
    ∙ ap (λ ns. old ++ ns) (sym (take-map_more (λ n. n.items) kept i x c.name-item.is c.loop-name-test.true))
