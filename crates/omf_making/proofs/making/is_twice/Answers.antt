use Rattle.std.proofs.Common.{◌∙◌, sym, subst, ◌==◌, Some}
use Rattle.std.specs.Slice.{IsItemAt}
use Rattle.omf_making.proofs.MadeLaws.{is_again, on_true}
use Rattle.omf_making.proofs.making.is_twice.Goals as goal

pub returns-then-is_strong : goal.returns-then-is_strong
returns-then-is_strong c =
    on_true c.has_strong.result _ _ c.has_strong.ensures (λ h. record {
      one = c.in-Some-Some.one;
      other = c.in-Some-Some.other;
      defined = c.in-Some.defined;
      one_is = c.in-Some-Some.ensures.lookup;
      other_is = c.in-Some-Some.ensures'.lookup;
      defined_is = subst (λ xs. IsItemAt xs c.args.name (Some c.in-Some.defined)) c.deref.ensures.value c.in-Some.ensures.lookup;
      strong = sym c.is_strong.ensures ∙ c.if-is_strong.true;
      again = is_again c.args.is_case_sensitive (c.args.first == c.args.second) c.args.name c.as_slice.result.now _ c.names_before-before.result.now c.as_slice-then-is_strong.result.now _ c.as_slice.ensures.value c.names_before-before.ensures c.as_slice-then-is_strong.ensures.value h;
    })
