use Rattle.std.proofs.Common.{◌≡◌, List, ℕ, true, false, sym, ap, ◌∙◌}
use Rattle.std.specs.Prelude.{is_some}
use Rattle.omf_dump.specs.Gives.{are_known, externals_of, item_parts}
use Rattle.omf_dump.proofs.GivesLaws.{externs_are, externs_kept, externs_not, none_changed}
use Rattle.omf_dump.proofs.giving.give_externals.Goals as goal

pub returns-then-not-are_known_by-clause-given : goal.returns-then-not-are_known_by-clause-given
returns-then-not-are_known_by-clause-given c =
    let names : List (List ℕ) = c.args.known.now.tables.names in
    let no : are_known names c.args.width c.args.kind c.args.body.now ≡ false = sym c.are_known_by.ensures ∙ c.if-not-are_known_by.true in
    ap is_some (sym (externs_not names c.args.width c.args.kind c.args.body.now no))

pub returns-then-not-are_known_by-clause-keeps : goal.returns-then-not-are_known_by-clause-keeps
returns-then-not-are_known_by-clause-keeps c =
    let names : List (List ℕ) = c.args.known.now.tables.names in
    let no : are_known names c.args.width c.args.kind c.args.body.now ≡ false = sym c.are_known_by.ensures ∙ c.if-not-are_known_by.true in
    none_changed c.args.known.now _ (externs_not names c.args.width c.args.kind c.args.body.now no)

pub returns-clause-given : goal.returns-clause-given
returns-clause-given c =
    let names : List (List ℕ) = c.args.known.now.tables.names in
    let all : are_known names c.args.width c.args.kind c.args.body.now ≡ true = sym c.are_known_by.ensures ∙ c.if-not-are_known_by.false in
    ap is_some (sym (externs_are names c.args.width c.args.kind c.args.body.now all))

pub returns-clause-keeps : goal.returns-clause-keeps
returns-clause-keeps c =
    let names : List (List ℕ) = c.args.known.now.tables.names in
    let all : are_known names c.args.width c.args.kind c.args.body.now ≡ true = sym c.are_known_by.ensures ∙ c.if-not-are_known_by.false in
    let found : List (List ℕ) = externals_of names c.args.width c.args.kind (item_parts c.args.width c.args.kind 0 c.args.body.now) in
    let more = c.in_ok-push_externals.ensures in
    externs_kept c.args.known.now _ c.push_externals.new.tables found (externs_are names c.args.width c.args.kind c.args.body.now all) more.names more.segments more.groups more.externals
