use Rattle.std.proofs.Common.{◌∙◌, ◌++◌, List, ℕ, ap, subst, sym}
use Rattle.std.proofs.lemmas.List.{append-nil}
use Rattle.omf_find.specs.Nearly.{IsBefore, places_of}
use Rattle.omf_find.proofs.near.later_in.Goals as goal

pub returns-in-Some : goal.returns-in-Some
returns-in-Some c = λ ps h.
    subst (λ (xs : List (ℕ × List ℕ)). IsBefore c.args.offset (ps ++ xs) c.later_of.result) (sym (ap places_of c.in-Some.is) ∙ c.publics_in.ensures) (c.later_of.ensures ps h)

pub returns-in-None : goal.returns-in-None
returns-in-None c = λ ps h.
    subst (λ (xs : List (ℕ × List ℕ)). IsBefore c.args.offset xs c.args.best) (sym (append-nil ps) ∙ ap (λ t. ps ++ t) (sym (ap places_of c.in-None.is) ∙ c.publics_in.ensures)) h
