use Rattle.std.proofs.Common.{[], sym, subst, append-nil}
use Rattle.omf_check.specs.Module.{typed_modules}
use Rattle.omf_placement.proofs.WeakLaws.{none_left}
use Rattle.omf_trimming.specs.Inner.Reaching.{AreOf}
use Rattle.omf_trimming.proofs.reaching.program.Program.of.Goals as goal

pub returns : goal.returns
returns c =
    let ms = c.args.modules.now in
    let own = c.loop-number.own.items in
    let i = c.loop-number.number in
    record {
      modules = subst (AreOf 0 (typed_modules ms)) (append-nil own) (c.loop-number.invariant [] (subst (λ xs. AreOf i xs []) (sym (none_left ms i c.loop-number-test.false)) tt));
      linked = c.in_ok-linkage.ensures.is;
    }
