use Rattle.std.proofs.Common.{◌∙◌, ap, length, subst, sym}
use Rattle.std.specs.List.{AllZip}
use Rattle.omf_check.specs.Module.{typed_modules}
use Rattle.omf_aliases.specs.Aliases.{AreFollowed}
use Rattle.omf_aliases.specs.Inner.Aliases.{IsReplacement}
use Rattle.omf_aliases.proofs.AliasLaws.{all-followed, zip-length}
use Rattle.omf_aliases.proofs.following.followed.Goals as goal

pub replaced-requires : goal.replaced-requires
replaced-requires c =
    let ms = c.deref.result.now in
    zip-length (IsReplacement (typed_modules ms)) ms c.in_ok-replacements.replacements.items c.in_ok-replacements.ensures.made ∙ ap length c.deref.ensures.value

pub returns-clause-followed : goal.returns-clause-followed
returns-clause-followed c =
    let ms = c.args.modules.items in
    let rs = c.in_ok-replacements.replacements.items in
    let made = subst (λ xs. AllZip (IsReplacement (typed_modules xs)) xs rs) c.deref.ensures.value c.in_ok-replacements.ensures.made in
    subst (AreFollowed ms) (sym c.in_ok-replaced.ensures) (all-followed (typed_modules ms) ms rs made)
