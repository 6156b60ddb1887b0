use Rattle.std.proofs.Common.{◌≡◌, rules}
use Rattle.std.proofs.lemmas.Bool.{ne_eqb}
use Rattle.omf_linking.proofs.FoldLaws.{alias-folds, named-folds}
use Rattle.omf_linking.proofs.folding.comparing.record_folds.Goals as goal

pub returns-then-raw-eq-ALIAS : goal.returns-then-raw-eq-ALIAS
returns-then-raw-eq-ALIAS c f =
    let kind : c.args.raw.kind ≡ 0xC6 = c.if-raw-eq-ALIAS.true in
    let same : c.args.lower.kind ≡ c.args.raw.kind = search rules in
    alias-folds c.args.raw.kind c.args.lower.kind c.args.raw.body.now c.args.lower.body.now kind same (c.names_fold.ensures f)

pub returns-else-raw-eq-ALIAS : goal.returns-else-raw-eq-ALIAS
returns-else-raw-eq-ALIAS c f =
    named-folds c.args.raw.kind c.args.lower.kind c.args.raw.body.now c.args.lower.body.now (ne_eqb c.args.raw.kind 0xC6 c.if-raw-eq-ALIAS.false) (c.named_folds.ensures f)
