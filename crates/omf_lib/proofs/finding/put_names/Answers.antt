use Rattle.std.proofs.Common.{◌+◌, ◌∷◌, ◌∙◌, List, ℕ, ap, drop, sym}
use Rattle.std.proofs.lemmas.List.{drop_all}
use Rattle.std.specs.Prelude.{string_bytes}
use Rattle.omf_library.specs.LibraryMembers.{names_kept}
use Rattle.omf_lib.specs.Members.{publics_seen}
use Rattle.omf_lib.proofs.FindLaws.{all_written, none_written, one_more_written, rest_more}
use Rattle.omf_lib.proofs.finding.put_names.Goals as goal

pub loop-name-init : goal.loop-name-init
loop-name-init c = none_written c.args.sources.ignores_case c.args.sources.dictionary (publics_seen c.args.sources.publics.now) (names_kept c.args.names.now) (string_bytes c.args.text.now)

pub loop-name-preserved : goal.loop-name-preserved
loop-name-preserved c =
    let ns = c.args.names.now in
    let i = c.loop-name.name-index in
    one_more_written c.args.sources.ignores_case c.args.sources.dictionary (publics_seen c.args.sources.publics.now) (names_kept ns) c.deref.result.now (names_kept (drop (i + 1) ns))
    (names_kept (drop i ns)) _ _ _ _ _ _ c.loop-name.invariant (ap names_kept (rest_more ns i c.name-item.result c.name-item.is c.loop-name-test.true) ∙ ap (λ (n : List ℕ). n ∷ names_kept (drop (i + 1) ns)) (sym c.deref.ensures.value)) c.is_either-is_refused.ensures c.in_ok-is_one_refused.ensures

pub returns : goal.returns
returns c =
    let ns = c.args.names.now in
    all_written c.args.sources.ignores_case c.args.sources.dictionary (publics_seen c.args.sources.publics.now) (names_kept ns) (names_kept (drop c.loop-name.name-index ns)) _ _ _ c.loop-name.invariant
    (ap names_kept (drop_all c.loop-name.name-index ns c.loop-name-test.false))
