use Rattle.std.proofs.Common.{[], ◌∷◌, refl, sym, subst, inl, inr}
use Rattle.std.proofs.lemmas.List.{append-nil}
use Rattle.omf_making.specs.Taken.{IsJudgement}
use Rattle.omf_making.specs.declared.taken.Judgement.{Judgement}
use Rattle.omf_find.proofs.reading.Gathered.take.Goals as goal

pub returns-in_ok-push-in-Taken : goal.returns-in_ok-push-in-Taken
returns-in_ok-push-in-Taken c =
    let taken = subst (λ (j : Judgement). IsJudgement c.args.profile c.args.bytes.now j) c.in-Taken.is c.in_ok-taken.ensures in (
      (c.args.origin, c.in-Taken.taken.«module») ∷ [],
      inl (c.in-Taken.taken, taken, refl),
      (c.in_ok-push-in-Taken.ensures.modules, c.in_ok-push-in-Taken.ensures.origins),
    )

pub returns-in_ok-put_refused-in-Refused : goal.returns-in_ok-put_refused-in-Refused
returns-in_ok-put_refused-in-Refused c =
    let refused = subst (λ (j : Judgement). IsJudgement c.args.profile c.args.bytes.now j) c.in-Refused.is c.in_ok-taken.ensures in (
      [],
      inr (c.in-Refused.why, refused, refl),
      (sym (append-nil c.args.self.now.modules.items), sym (append-nil c.args.self.now.origins.items)),
    )
