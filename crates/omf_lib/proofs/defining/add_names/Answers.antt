use Rattle.std.proofs.Common.{[], ◌+◌, ◌++◌, ◌∷◌, ◌∙◌, ap, map, take}
use Rattle.omf_making.specs.Names.{names_seen}
use Rattle.omf_lib.specs.Keys.{name_key}
use Rattle.omf_lib.proofs.KeyLaws.{more_keys, names_next}
use Rattle.omf_lib.proofs.defining.add_names.Goals as goal

pub loop-defined-preserved : goal.loop-defined-preserved
loop-defined-preserved c = λ done h.
    let ns = c.args.names.now in
    let i = c.loop-defined.defined-index in
    let s = c.args.is_case_sensitive in
    let page = c.args.page in
    more_keys c.add.new.keys done (map (λ n. name_key s page n.name) (names_seen (take i ns))) (c.in_ok-key.key.items ∷ []) (map (λ n. name_key s page n.name) (names_seen (take (i + 1) ns)))
    (names_next (λ n. name_key s page n.name) ns i c.defined-item.result c.in_ok-key.key.items c.loop-defined-test.true
    (c.in_ok-key.ensures ∙ ap (name_key s page) (c.as_slice.ensures.value ∙ ap (λ d. d.name.items) c.defined-item.is)))
    (c.in_ok-add.ensures (done ++ map (λ n. name_key s page n.name) (names_seen (take i ns))) (c.loop-defined.invariant done h))
