use Rattle.std.proofs.Common.{◌≡◌, ap, sym, subst, ◌∙◌, List, Some}
use Rattle.std.specs.Prelude.{option_map}
use Rattle.clap.specs.Words.{Row, found_of, rows_of}
use Rattle.omf_cmd.proofs.Parsed.{name_at}
use Rattle.omf_linker.specs.Link.Words.{IsTask}
use Rattle.omf_linker.proofs.LinkWords.{only_named, task_is}
use Rattle.omf_linker.proofs.link.words.named_by.Goals as goal

pub returns-clause-some : goal.returns-clause-some
returns-clause-some c name rows asked parsed is =
    let names : Some c.in_ok-name.name.now ≡ Some name = c.in_ok-name.ensures.name ∙ name_at _ _ _ ∙ ap (λ o. option_map (λ p. p.0) o) parsed in
    let inner : Some (rows_of (found_of c.in_ok-name.inner.now)) ≡ Some rows = c.in_ok-name.ensures.rows ∙ ap (λ o. option_map (λ p. p.1) o) parsed in
    let same : c.in_ok-name.name.now ≡ name = cc in
    let own : rows_of (found_of c.in_ok-name.inner.now) ≡ rows = cc in
    let told = subst (λ n. IsTask n (rows_of (found_of c.in_ok-name.inner.now)) asked) (sym same) (subst (λ (rs : List Row). IsTask name rs asked) (sym own) is) in
    task_is c.in_ok-name.name.now (rows_of (found_of c.in_ok-name.inner.now)) asked c.task_named.result told c.task_named.ensures.image c.task_named.ensures.map c.task_named.ensures.rom c.task_named.ensures.draft

pub returns-clause-only : goal.returns-clause-only
returns-clause-only c = only_named _ _ _ c.task_named.result (c.in_ok-name.ensures.name ∙ name_at _ _ _) c.in_ok-name.ensures.rows c.task_named.ensures.only
