-- The modules of a program with those that are added, and their origins.
use Rattle.std.proofs.Common.{◌≡◌, ◌∙◌, ℕ, List, [], ◌∷◌, Result, Ok, Err, ap, arith, inr, length, subst, take}
use Rattle.std.specs.Prelude.{IfErr, IfOk, Option, None, Some}
use Rattle.omf_check.specs.Module.{Module}
use Rattle.omf_exe.specs.Adding.{AreOrderedBy, IsStackOf, has_order, least_stack}
use Rattle.omf_exe.specs.Origins.{AreAllWith, origins_with}
use Rattle.omf_exe.specs.Program.{ProgramModules}
use Rattle.omf_exe.specs.Refusing.{AreNotAdded, AreNotOrderedBy, IsRefusalFor}
use Rattle.omf_exe.specs.Sharing.{AreShared, with_added}
use Rattle.omf_exe.specs.declared.input.Origin.{Origin}
use Rattle.omf_exe.specs.declared.options.Order.{Order}
use Rattle.omf_exe.specs.declared.options.ProgramKind.{ProgramKind}
use Rattle.omf_exe.specs.declared.refusal.Refusal.{Refusal}
use Rattle.std.proofs.Math.Seq.{take-append_seam}
use Rattle.std.proofs.lemmas.List.{take_all}

module _ (kind : ProgramKind) (stack : Option ℕ) (order : Option Order) (ms : List Module) (from : List (Option Origin)) (shared : List Module) (added : Option Module) (joined : List Module) where
  -- All modules, in the order that is asked for.
  pub all-with : (r : Result ProgramModules Refusal) → AreShared kind ms shared → IsStackOf shared (least_stack kind stack) added → joined ≡ with_added shared added
      → IfOk r (λ p. AreOrderedBy order joined p.modules) → IfOk r (λ p. p.from ≡ origins_with (has_order order joined) from) → IfOk r (AreAllWith kind stack order ms from)
  all-with (Ok p) s t j o f = record {
    added = record { shared = shared; communals = s; added = added; stacked = t; ordered = subst (λ x. AreOrderedBy order x p.modules) j o };
    origins = f ∙ ap (λ x. origins_with (has_order order x) from) j;
  }
  all-with (Err e) s t j o f = o

  -- Why there are none.
  pub none-with : (r : Result ProgramModules Refusal) → AreShared kind ms shared → IsStackOf shared (least_stack kind stack) added → joined ≡ with_added shared added
      → IfErr r (IsRefusalFor (AreNotOrderedBy order joined)) → IfErr r (IsRefusalFor (AreNotAdded kind stack order ms))
  none-with (Ok p) s t j h = h
  none-with (Err f) s t j h = λ e. inr (record { shared = shared; communals = s; added = added; stacked = t; fault = subst (AreNotOrderedBy order) j (h e) })

pub without-added : (ms : List Module) (a : Option Module) (all left : List Module) → all ≡ with_added ms a → left ≡ take (length ms) all → left ≡ ms
without-added ms None all left e f = f ∙ ap (take (length ms)) e ∙ take_all (length ms) ms (omega arith)
without-added ms (Some m) all left e f = f ∙ ap (take (length ms)) e ∙ take-append_seam ms (m ∷ [])
