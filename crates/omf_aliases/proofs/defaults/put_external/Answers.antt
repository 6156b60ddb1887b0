use Rattle.std.proofs.Common.{◌≡◌, ◌∙◌, ◌++◌, List, ap}
use Rattle.std.specs.Prelude.{ℕ, Bool}
use Rattle.omf_check.specs.Module.{recs_of}
use Rattle.omf_aliases.specs.Aliases.{default_by, followed_entry}
use Rattle.omf_aliases.proofs.AliasLaws.{on-ok}
use Rattle.omf_aliases.proofs.defaults.put_external.Goals as goal

pub returns : goal.returns
returns c ms h own =
    let m = recs_of c.args.«module».now.bytes in
    let i = c.args.external in
    let x : List ℕ × Bool = (c.external_at.result.name.now, c.external_at.result.local) in
    let old = c.args.defaults.now.items in
    let named : (c.followed-named.result.name.now, c.followed-named.result.local) ≡ followed_entry m (i, x) = c.followed-named.ensures own ∙ ap (λ s. followed_entry m (s.external, x)) c.external_at.ensures.same in
    on-ok c.put_default.result (λ added. record { external = x; there = c.external_at.ensures.named; added = added ∙ ap (λ e. old ++ default_by ms i e) named }) (c.put_default.ensures ms h)
