-- The lowering of a module after the steps before it.
use Rattle.std.proofs.Common.{◌≡◌, ℕ, ◌<◌, inl, inr, List, ◌++◌, ap, sym, subst, arith, length, length-append}
use Rattle.std.specs.Prelude.{flat_map, IfErr, IfOk, IfSome, Option, Result, Ok, Err}
use Rattle.omf_frame.specs.Framing.{raw_bytes, Raw}
use Rattle.omf_frame.specs.declared.fault.Place.{Place}
use Rattle.omf_frame.specs.declared.fault.Reason.{Reason}
use Rattle.omf_explicit.specs.Modules.{IsModule}
use Rattle.omf_lowered.specs.Inner.Moves.{IsMoved, number_of}
use Rattle.omf_lowered.specs.Modules.{IsFaultBy, IsLoweredModule, IsRefusedNext}
use Rattle.omf_lowering.specs.Lowering.{IsLoweringFault, IsRefused}
use Rattle.omf_lowering.specs.declared.fault.LoweringFault.{LoweringFault}
use Rattle.omf_lowering.specs.declared.fault.LoweringFault.TheVariants as lowering
use Rattle.omf_lowering.proofs.RunLaws.{rest_is_shorter}

-- a module has at least one byte
module_is_shorter : (input rest : List ℕ) (rs : List Raw) → IsModule input rs rest → length rest < length input
module_is_shorter input rest rs m =
    let size = ap length m.begins.spelled in
    omega (arith, size, length-append (flat_map raw_bytes m.before) (raw_bytes m.end ++ rest), length-append (raw_bytes m.end) rest)

pub rest_is_left : (input out rest : List ℕ) → IsLoweredModule input out rest → length rest < length input
rest_is_left input out rest (inl (s, inl (t, inl (u, l)))) = rest_is_shorter input out rest l
rest_is_left input out rest (inl (s, inl (t, inr p))) = module_is_shorter input rest p.changed.records p.changed.read
rest_is_left input out rest (inl (s, inr p)) = module_is_shorter input rest p.changed.records p.changed.read
rest_is_left input out rest (inr p) = module_is_shorter input rest p.changed.records p.changed.read

-- a fault of what comes next is a fault after the step
module _ (changes : List ℕ → List ℕ → List ℕ → Type 0) (comes : List ℕ → ℕ → ℕ → Type 0) (stays : List ℕ → Type 0) (refuses : List ℕ → Reason → Place → Type 0) where
  pub stays_fault : (input : List ℕ) → stays input → (f : LoweringFault) → IsFaultBy refuses input f → IsFaultBy (IsRefusedNext changes comes stays refuses) input f
  stays_fault input s lowering.Memory h = tt
  stays_fault input s (lowering.Refused why at) h = inl (s, h)

  pub moved_fault : {E : Type 0} (input own rest : List ℕ) (number : ℕ) (origin : Result (Option ℕ) E) (f g : LoweringFault) → changes input own rest → IsFaultBy refuses own f → number ≡ number_of f
      → IfOk origin (λ found. IfSome found (λ n. comes input number n)) → IsMoved input own origin f g → IsFaultBy (IsRefusedNext changes comes stays refuses) input g
  moved_fault input own rest number origin f lowering.Memory c h is o m = tt
  moved_fault input own rest number origin lowering.Memory (lowering.Refused why at) c h is o m = absurd m
  moved_fault input own rest number origin (lowering.Refused why there) (lowering.Refused reason at) c h is o m = inr (record {
    own = own;
    rest = rest;
    there = there;
    changed = c;
    refused = subst (λ r. refuses own r there) (sym m.0) h;
    origin = subst (λ k. comes input k at.number) is (subst (λ r. IfOk r (λ found. IfSome found (λ n. comes input number n))) m.1.0 o);
    place = m.1.1;
  })

pub lowering_fault : (input : List ℕ) (f : LoweringFault) → IsLoweringFault input f → IsFaultBy IsRefused input f
lowering_fault input lowering.Memory h = tt
lowering_fault input (lowering.Refused why at) h = h

-- a result that has one property has another
pub ok_has : {A E : Type 0} (P Q : A → Type 0) (r : Result A E) → ((x : A) → P x → Q x) → IfOk r P → IfOk r Q
ok_has P Q (Ok x) f h = f x h
ok_has P Q (Err e) f h = h

pub err_has : {A E : Type 0} (P Q : E → Type 0) (r : Result A E) → ((e : E) → P e → Q e) → IfErr r P → IfErr r Q
err_has P Q (Ok x) f h = h
err_has P Q (Err e) f h = f e h
