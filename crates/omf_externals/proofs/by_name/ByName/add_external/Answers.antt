use Rattle.std.proofs.Common.{◌≡◌, ◌∷◌, [], ap₂, false, rules, subst, sym}
use Rattle.std.specs.Prelude.{if◌then◌else◌, OnOk}
use Rattle.omf_externals.specs.Unresolved.{HasMore, asked_row, is_other, is_settled}
use Rattle.omf_externals.proofs.by_name.ByName.add_external.Goals as goal

pub returns : goal.returns
returns c =
    let x = c.args.external in
    let other : is_other c.args.local x.local ≡ false = search rules in
    let given : is_settled c.args.settled.now x.spot.«module» x.spot.external ≡ false = search rules in
    let same : asked_row c.args.local c.args.settled.now x.spot.«module» (x.spot.external, (x.name.now, x.local)) ≡ (x.name.now, x.spot) ∷ [] = ap₂ (λ l g. if l then [] else if g then [] else (x.name.now, x.spot) ∷ []) other given in
    subst (λ rows. OnOk c.add.result (HasMore c.args.self.now.spots c.add.new.self.spots rows)) (sym same) c.add.ensures
