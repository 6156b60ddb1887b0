use Rattle.std.proofs.Common.{◌≡◌, ◌∙◌, arith, rules, true, false}
use Rattle.std.specs.Prelude.{is_some, option_and_then}
use Rattle.omf_check.specs.Module.{recs_of}
use Rattle.omf_check.specs.Tables.{entry}
use Rattle.omf_map.specs.Addresses.{some_place}
use Rattle.omf_map.proofs.MissingLaws.{given_is_not, missing_is, not_missing}
use Rattle.omf_map.proofs.given.is_missing.Goals as goal

pub returns-then-external-externals : goal.returns-then-external-externals
returns-then-external-externals c = λ among h k. not_missing among c.args.given.now (recs_of c.args.«module».now.bytes) c.args.external (omega (arith, c.if-external-externals.true, c.externals.ensures.count))

pub returns-then-is_some : goal.returns-then-is_some
returns-then-is_some c = λ among h k.
    let given : is_some (option_and_then some_place (entry c.args.given.now.externals c.args.external)) ≡ true = search rules in
    given_is_not among c.args.given.now c.args.external _ given

pub returns : goal.returns
returns c = λ among h k.
    let given : is_some (option_and_then some_place (entry c.args.given.now.externals c.args.external)) ≡ false = search rules in
    c.lacks.ensures among h k ∙ missing_is among c.args.given.now c.args.external _ _ _ c.external_at.ensures.named given
