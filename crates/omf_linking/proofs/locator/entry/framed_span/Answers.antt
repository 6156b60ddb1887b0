use Rattle.std.proofs.Common.{◌≡◌, ◌∙◌, ◌∷◌, ap, rules}
use Rattle.std.specs.Prelude.{Some}
use Rattle.omf_placement.specs.Inner.EntryReading.{frame_of, words_of}
use Rattle.omf_text.specs.Numerals.{digits_of}
use Rattle.omf_linking.specs.Inner.LineParsing.{words_left}
use Rattle.omf_linking.proofs.NamingLaws.{framed_by, left_is}
use Rattle.omf_linking.proofs.locator.entry.framed_span.Goals as goal

pub returns : goal.returns
returns c =
    let frame : frame_of (digits_of c.args.base.now) (digits_of c.cut.result.0.now) ≡ Some c.in_ok-frame.frame = search rules in
    c.span_of.ensures ∙ rw c.in_ok-words.was (framed_by c.args.start.now c.args.base.now c.cut.result.0.now (words_of c.in_ok-words.field-0.now) (words_left c.cut.result.1) c.in_ok-frame.frame
    (c.cut.ensures.parts ∙ ap (λ ws. c.cut.result.0.now ∷ ws) (left_is c.cut.result.1)) frame)
