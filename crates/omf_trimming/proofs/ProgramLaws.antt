-- The modules of a program by their numbers.
use Rattle.std.proofs.Common.{◌≡◌, ℕ, zero, suc, ◌+◌, ◌<◌, List, [], ◌∷◌, length, get_or, refl, sym, ap, ◌∙◌, subst, arith, append-nil}
use Rattle.std.specs.Prelude.{flat_map, slice_get, Some, None, option_to_list}
use Rattle.std.proofs.lemmas.Option.{none-some, same_Some}
use Rattle.omf_records.specs.Values.{Rec}
use Rattle.omf_check.specs.Tables.{segments}
use Rattle.omf_check.specs.declared.method.TargetMethod.{TargetMethod}
use Rattle.omf_placement.specs.Inner.Linkage.{linkage}
use Rattle.omf_trimming.specs.Reaching.{IsNode, Node, means, next, next_in, targets_of, uses}
use Rattle.omf_trimming.specs.Inner.Reaching.{AreOf, IsOf, IsProgram}
use Rattle.omf_trimming.specs.declared.reaching.program.Program.{Program}
use Rattle.omf_trimming.specs.declared.reaching.program.ProgramModule.{ProgramModule}
use Rattle.omf_trimming.proofs.UseLaws.{module-bucket}

pub record IsAt (ms : List (List Rec)) (j i : ℕ) (p : ProgramModule) : Type 0 where
  pub own : List Rec
  pub there : slice_get ms i ≡ Some own
  pub is : IsOf own p
  pub number : p.number ≡ j + i

pub of-at : (j : ℕ) (ms : List (List Rec)) (ps : List ProgramModule) → AreOf j ms ps → (i : ℕ) (p : ProgramModule) → slice_get ps i ≡ Some p → IsAt ms j i p
of-at j [] [] a i p e = absurd (none-some p e)
of-at j [] (q ∷ ps) a i p e = absurd a
of-at j (m ∷ ms) [] a i p e = absurd a
of-at j (m ∷ ms) (q ∷ ps) a zero p e =
    let same : q ≡ p = same_Some q p e in
    subst (IsAt (m ∷ ms) j zero) same (record { own = m; there = refl; is = a.0; number = a.1 ∙ omega arith })
of-at j (m ∷ ms) (q ∷ ps) a (suc i) p e =
    let r = of-at (j + 1) ms ps a.2 i p e in
    let n = r.number in
    record { own = r.own; there = r.there; is = r.is; number = omega (arith, n) }

pub of-none : (j : ℕ) (ms : List (List Rec)) (ps : List ProgramModule) → AreOf j ms ps → (i : ℕ) → slice_get ps i ≡ None → slice_get ms i ≡ None
of-none j [] [] a i e = refl
of-none j [] (q ∷ ps) a i e = absurd a
of-none j (m ∷ ms) [] a i e = absurd a
of-none j (m ∷ ms) (q ∷ ps) a zero e = absurd (none-some q (sym e))
of-none j (m ∷ ms) (q ∷ ps) a (suc i) e = of-none (j + 1) ms ps a.2 i e

-- What a segment refers to.
pub next-is : (ms : List (List Rec)) (p : Program) (q : ProgramModule) (n : Node) → IsProgram ms p → IsNode ms n → slice_get p.modules.items n.0 ≡ Some q
    → (m : List Rec) × IsOf m q × (flat_map (means p.linkage.links m q.number) (get_or q.uses n.1 []) ≡ next ms n)
next-is ms p q n known node e =
    let at = of-at 0 ms p.modules.items known.modules n.0 q e in
    let same : at.own ≡ node.0 = same_Some at.own node.0 (sym at.there ∙ node.1) in
    let low : n.1 < length (segments at.own) + 1 = let l = node.2 in let s = ap (λ (x : List Rec). length (segments x)) same in omega (arith, l, s) in
    let number : q.number ≡ n.0 = let k = at.number in omega (arith, k) in (
      at.own,
      at.is,
      ap (λ (ts : List TargetMethod). flat_map (means p.linkage.links at.own q.number) ts) (ap (λ us. get_or us n.1 []) at.is.uses_are ∙ module-bucket at.own n.1 low)
          ∙ ap (λ links. flat_map (means links at.own q.number) (targets_of n.1 (uses at.own))) known.linked
          ∙ ap (λ j. flat_map (means (linkage ms) at.own j) (targets_of n.1 (uses at.own))) number
          ∙ sym (append-nil (next_in (linkage ms) n at.own))
          ∙ ap (λ o. flat_map (next_in (linkage ms) n) (option_to_list o)) (sym at.there),
    )
