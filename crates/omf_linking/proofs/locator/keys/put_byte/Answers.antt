use Rattle.std.proofs.Common.{◌≡◌, ◌∷◌, ◌++◌, [], ◌∙◌, ap, sym, arith}
use Rattle.omf_placement.specs.Quoted.{escaped}
use Rattle.omf_linking.proofs.NamingLaws.{escaped_is}
use Rattle.omf_linking.proofs.locator.keys.put_byte.Goals as goal

pub returns : goal.returns
returns c =
    let e : escaped c.args.byte ≡ 92 ∷ 120 ∷ c.digit.result ∷ c.digit-2.result ∷ [] = escaped_is c.args.byte c.digit.result c.digit-2.result (omega arith) (sym c.is_plain.ensures ∙ c.if-is_plain.false) c.digit.ensures c.digit-2.ensures in
    c.in_ok-extend_from_slice.ensures.items ∙ ap (λ t. c.args.text.now.items ++ t) (sym e)
