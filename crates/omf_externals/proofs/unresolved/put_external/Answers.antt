use Rattle.std.proofs.Common.{◌≡◌, [], Bool, false, map, rules, subst, sym}
use Rattle.std.specs.Prelude.{if◌then◌else◌, string_bytes}
use Rattle.omf_frame.specs.Bytes.{AddsText}
use Rattle.omf_externals.specs.Unresolved.{named_text, is_settled}
use Rattle.omf_externals.proofs.unresolved.put_external.Goals as goal

pub returns : goal.returns
returns c = λ publics asks rows own_asks h a o w.
    let x = c.args.external in
    let given : is_settled c.args.settled.now x.spot.«module» x.spot.external ≡ false = search rules in
    let told = named_text (map string_bytes c.args.labels.now) publics asks rows own_asks x.name.now x.local x.spot in
    subst (λ (b : Bool). AddsText c.put_named.result (string_bytes c.args.text.now) (string_bytes c.put_named.new.text) (if b then [] else told)) (sym given) (c.put_named.ensures publics asks rows own_asks h a o w)
