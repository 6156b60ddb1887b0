-- The laws of what is reached.
use Rattle.std.proofs.Common.{◌≡◌, ℕ, suc, ◌+◌, List, [], ◌∷◌, refl, ap₂, subst, arith}
use Rattle.std.specs.Prelude.{All}
use Rattle.std.specs.List.{AllZip, enumerate_from}
use Rattle.std.proofs.lemmas.List.Elements.{All-contains}
use Rattle.std.specs.Prelude.{Contains}
use Rattle.omf_check.specs.Module.{Module, recs_of}
use Rattle.omf_trimming.specs.Reaching.{IsWithoutUnreached, Node, is_among, unreached}
use Rattle.omf_trimming.specs.ReachingLaws.{AllReachedStay, ReachedAreUnique}
use Rattle.omf_trimming.specs.Without.{IsWithout}
use Rattle.omf_trimming.specs.declared.without.LeftPublics.{LeftPublics}
use Rattle.omf_trimming.proofs.UnreachedLaws.{among-contains, contains-among, same-bool}

pub unique : ReachedAreUnique
unique o ms one other a b n = same-bool (is_among one n) (is_among other n)
    (λ e. contains-among other n (All-contains (Contains other) one n (a.least other b.closed) (among-contains one n e)))
    (λ e. contains-among one n (All-contains (Contains one) other n (b.least one a.closed) (among-contains other n e)))

same-module : (publics : LeftPublics) (gone : List ℕ) (m o : Module) → gone ≡ [] → IsWithout publics gone m o → o ≡ m
same-module publics gone m o e h = let w : IsWithout publics [] m o = subst (λ (g : List ℕ). IsWithout publics g m o) e h in w

all-same : (publics : LeftPublics) (set : List Node) (j : ℕ) (ms out : List Module) → All (λ m. unreached set m.0 (recs_of m.1.bytes) ≡ []) (enumerate_from j ms) → AllZip (IsWithoutUnreached publics set) (enumerate_from j ms) out → out ≡ ms
all-same publics set j [] [] a h = refl
all-same publics set j [] (o ∷ out) a h = absurd h
all-same publics set j (m ∷ ms) [] a h = absurd h
all-same publics set j (m ∷ ms) (o ∷ out) a (w, z) =
    ap₂ (λ (x : Module) (xs : List Module). x ∷ xs)
    (same-module publics (unreached set j (recs_of m.bytes)) m o (a 0 (j, m) (omega arith)) w)
    (all-same publics set (j + 1) ms out (λ k d low. a (suc k) d (omega (arith, low))) z)

pub all-stay : AllReachedStay
all-stay publics o ms out w a = all-same publics w.set 0 ms out a w.each
