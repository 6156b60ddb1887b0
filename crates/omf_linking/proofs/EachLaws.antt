-- What a text gives has one entry for each module.
use Rattle.std.proofs.Common.{◌≡◌, Global, Vec, List, length, ap, ◌∙◌}
use Rattle.std.specs.Prelude.{Ok, Err, IfOk, Result}
use Rattle.std.specs.List.{enumerate_from}
use Rattle.std.proofs.lemmas.List.{length-map}
use Rattle.std.proofs.lemmas.List.FromFn.{length-enumerate_from}
use Rattle.omf_check.specs.Module.{Module, records_in, typed_modules}
use Rattle.omf_check.specs.WellFormed.{recs}
use Rattle.omf_records.specs.Values.{Rec}
use Rattle.omf_records.specs.Inner.Seen.{map_ok}
use Rattle.omf_linking.specs.Locator.Items.{Item}
use Rattle.omf_linking.specs.Locator.Sparse.{IsOutcome, Sparse, sparse_all, sparse_of}
use Rattle.omf_linking.specs.declared.locator.fault.LocatorFault.{LocatorFault}

mapped : {A B : Type 0} (f : A → B) (r : Result A LocatorFault) (b : B) → map_ok f r ≡ Ok b → (a : A) × (b ≡ f a)
mapped f (Ok a) b e = (a, same b (f a) e)
  where
    same : {X : Type 0} (x y : X) → ◌≡◌ {A = Result X LocatorFault} (Ok y) (Ok x) → x ≡ y
    same x y e = cc
mapped f (Err q) b e = absurd cc

all_given : (ms : List (List Rec)) (items : List Item) → length (sparse_all ms items) ≡ length ms
all_given ms items = length-map (enumerate_from 0 ms) (sparse_of items) ∙ length-enumerate_from 0 ms

pub typed_length : (ms : List Module) → length (typed_modules ms) ≡ length ms
typed_length ms = length-map ms (λ (m : Module). recs (records_in m.bytes))

pub each_of : (ms : List Module) (x : Result (List Item) LocatorFault) (r : Result (Vec Sparse Global) LocatorFault) → IsOutcome (map_ok (sparse_all (typed_modules ms)) x) (map_ok (λ v. v.items) r) → IfOk r (λ v. length v.items ≡ length ms)
each_of ms x (Ok v) h = let s = mapped (sparse_all (typed_modules ms)) x v.items h in ap length s.1 ∙ all_given (typed_modules ms) s.0 ∙ typed_length ms
each_of ms x (Err f) h = tt
