-- COMDATs that are not left out, over all modules.
use Rattle.std.proofs.Common.{◌≡◌, ℕ, suc, ◌+◌, ◌<◌, List, [], ◌∷◌, ◌++◌, length, drop, take, get_or, sym, ap, ◌∙◌, arith, append_assoc, append-nil}
use Rattle.std.specs.Prelude.{flat_map}
use Rattle.std.proofs.Math.Seq.{drop-cons}
use Rattle.std.proofs.lemmas.List.{length-take-le}
use Rattle.omf_frame.specs.Bytes.{with_before}
use Rattle.omf_check.specs.Module.{Module, recs_of}
use Rattle.omf_trimming.specs.Choice.{instances}
use Rattle.omf_trimming.specs.Clashes.{ClashItem, clash_after, clashes, clashes_in}
use Rattle.omf_trimming.proofs.ChoiceAllLaws.{all_instances, take-more}

-- Those of the modules so far and of those to come are all.
pub record AreClashing (ms : List Module) (i : ℕ) (found : List ClashItem) : Type 0 where
  pub held : found ++ with_before clashes_in (take i ms) (drop i ms) ≡ clashes ms

pub clash-starts : (ms : List Module) (found : List ClashItem) → found ≡ [] → AreClashing ms 0 found
clash-starts ms found e = record { held = ap (λ xs. xs ++ clashes ms) e }

pub clash-more : (ms : List Module) (i : ℕ) (x : Module) (found new : List ClashItem) → x ≡ get_or ms i x → i < length ms
    → new ≡ found ++ flat_map (clash_after i (all_instances (take i ms))) (instances (recs_of x.bytes)) → AreClashing ms i found → AreClashing ms (i + 1) new
clash-more ms i x found new e low f a =
    let next : i + 1 ≡ suc i = omega arith in
    let earlier = take i ms in
    let here : drop i ms ≡ x ∷ drop (i + 1) ms = drop-cons ms i x low ∙ ap (λ y. y ∷ drop (suc i) ms) (sym e) ∙ ap (λ n. x ∷ drop n ms) (sym next) in
    let many : length earlier ≡ i = length-take-le i ms (omega (arith, low)) in
    let rest = with_before clashes_in (earlier ++ x ∷ []) (drop (i + 1) ms) in
    let own = λ (n : ℕ). flat_map (clash_after n (all_instances earlier)) (instances (recs_of x.bytes)) in
    record {
      held =
          ap (λ ks. new ++ with_before clashes_in ks (drop (i + 1) ms)) (take-more ms i x e low)
          ∙ ap (λ xs. xs ++ rest) (f ∙ ap (λ (n : ℕ). found ++ own n) (sym many)) ∙ append_assoc found (clashes_in earlier x) rest
          ∙ ap (λ ks. found ++ with_before clashes_in earlier ks) (sym here) ∙ a.held;
    }

pub clash-ends : (ms : List Module) (i : ℕ) (found : List ClashItem) → AreClashing ms i found → drop i ms ≡ [] → found ≡ clashes ms
clash-ends ms i found a e = sym (append-nil found) ∙ ap (λ ks. found ++ with_before clashes_in (take i ms) ks) (sym e) ∙ a.held
