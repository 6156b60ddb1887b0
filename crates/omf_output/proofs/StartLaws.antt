-- The main modules that name a start, one after another.
use Rattle.std.proofs.Common.{◌≡◌, ℕ, List, [], ◌∷◌, ◌++◌, sym, ◌∙◌, ap}
use Rattle.std.specs.Prelude.{Option, Some, None, option_to_list, Result, Err}
use Rattle.std.specs.List.{cons_option}
use Rattle.omf_output.specs.declared.exe.fault.ExeFault.{ExeFault}
use Rattle.omf_output.specs.declared.exe.fault.ExeFault.TheVariants as fault
use Rattle.omf_output.specs.Exe.Linked.{numbered_start, one_start, starts}
use Rattle.omf_output.specs.Exe.Members.{Member}

module _ (m : Member) (rest : List Member) where
  without : numbered_start m ≡ None → starts (m ∷ rest) ≡ starts rest
  without e = ap (λ o. cons_option o (starts rest)) e

  with_one : (s : ℕ × (ℕ × ℕ)) → numbered_start m ≡ Some s → starts (m ∷ rest) ≡ s ∷ starts rest
  with_one s e = ap (λ o. cons_option o (starts rest)) e

  pub no_start : (ms : List Member) (found : List (ℕ × (ℕ × ℕ))) (whole : Result (ℕ × ℕ) ExeFault) → ms ≡ m ∷ rest → numbered_start m ≡ None → one_start (found ++ starts ms) ≡ whole → one_start (found ++ starts rest) ≡ whole
  no_start ms found whole n e h = ap (λ xs. one_start (found ++ xs)) (sym (ap starts n ∙ without e)) ∙ h

  pub first_start : (ms : List Member) (s : ℕ × (ℕ × ℕ)) (whole : Result (ℕ × ℕ) ExeFault) → ms ≡ m ∷ rest → numbered_start m ≡ Some s → one_start (starts ms) ≡ whole → one_start (s ∷ starts rest) ≡ whole
  first_start ms s whole n e h = ap one_start (sym (ap starts n ∙ with_one s e)) ∙ h

  pub second_start : (ms : List Member) (s f : ℕ × (ℕ × ℕ)) (whole : Result (ℕ × ℕ) ExeFault) → ms ≡ m ∷ rest → numbered_start m ≡ Some s → one_start (f ∷ starts ms) ≡ whole → Err (fault.Starts f.0 s.0) ≡ whole
  second_start ms s f whole n e h = sym (ap (λ xs. one_start (f ∷ xs)) (ap starts n ∙ with_one s e)) ∙ h

pub all-started : (ms left : List Member) (found : Option (ℕ × (ℕ × ℕ))) → left ≡ [] → one_start (option_to_list found ++ starts left) ≡ one_start (starts ms) → one_start (option_to_list found) ≡ one_start (starts ms)
all-started ms left None e h = ap (λ l. one_start (starts l)) (sym e) ∙ h
all-started ms left (Some f) e h = ap (λ l. one_start (f ∷ starts l)) (sym e) ∙ h
