use Rattle.std.proofs.Common.{◌≡◌, ◌∙◌, ◌∷◌, ap, rules, true}
use Rattle.std.specs.Prelude.{bytes_eq, codes}
use Rattle.omf_placement.specs.Inner.EntryReading.{words_of}
use Rattle.omf_linking.specs.Inner.LineParsing.{words_left}
use Rattle.omf_linking.proofs.NamingLaws.{left_is, real_by}
use Rattle.omf_linking.proofs.locator.entry.span_in.Goals as goal

pub returns-then-eq : goal.returns-then-eq
returns-then-eq c =
    let real : bytes_eq c.cut-2.result.0.now (codes "real") ≡ true = search rules in
    c.span_of.ensures ∙ rw c.in_ok-words.was (real_by c.cut.result.0.now c.cut-2.result.0.now (words_of c.in_ok-words.field-0.now) (words_left c.cut-2.result.1)
    ((rw c.in_ok-more.was at c.cut.ensures.parts) ∙ ap (λ ws. c.cut.result.0.now ∷ ws) (c.cut-2.ensures.parts ∙ ap (λ ws. c.cut-2.result.0.now ∷ ws) (left_is c.cut-2.result.1))) real)
