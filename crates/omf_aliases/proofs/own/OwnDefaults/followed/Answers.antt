use Rattle.std.proofs.Common.{◌∙◌, ap, sym}
use Rattle.std.specs.Prelude.{option_map}
use Rattle.omf_check.specs.Module.{recs_of}
use Rattle.omf_aliases.proofs.AliasLaws.{followed-own, followed-self}
use Rattle.omf_aliases.proofs.own.OwnDefaults.followed.Goals as goal

pub returns-in-Some : goal.returns-in-Some
returns-in-Some c h =
    let m = recs_of c.args.«module».now.bytes in
    let e = c.args.external in
    followed-own m e.spot.external _ (e.name.now, e.local) (ap (option_map (λ x. (x.name.now, x.local))) (sym c.in-Some.is) ∙ c.entry_of.ensures h)

pub returns-in-None : goal.returns-in-None
returns-in-None c h =
    let m = recs_of c.args.«module».now.bytes in
    let e = c.args.external in
    followed-self m e.spot.external (e.name.now, e.local) (ap (option_map (λ x. (x.name.now, x.local))) (sym c.in-None.is) ∙ c.entry_of.ensures h)
