use Rattle.std.proofs.Common.{◌∙◌, refl, sym}
use Rattle.omf_find.proofs.NearlyLaws.{one_wanted}
use Rattle.omf_find.proofs.near.push_one.Goals as goal

pub returns : goal.returns
returns c =
    one_wanted c.args.wanted c.args.«module» c.args.near c.args.nearly.now.items c.push.new.self.items (record { «module» = c.args.«module»; near = c.args.near; strays = c.in_ok-strays.strays })
    (sym c.takes.ensures ∙ c.if-not-takes.false) refl c.in_ok-push.ensures.items
