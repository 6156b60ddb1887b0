-- Records that this profile reads have no virtual segments.
use Rattle.std.proofs.Common.{◌≡◌, ◌∙◌, ℕ, zero, suc, Bool, true, false, cond, List, [], ◌∷◌, ◌++◌, Result, Ok, Err, refl, sym, ap, arith}
use Rattle.std.specs.Prelude.{All, Option, None, is_ok, is_some, replicate, ◌&&◌, ◌||◌}
use Rattle.std.specs.List.{list_any}
use Rattle.std.proofs.lemmas.List.Folds.{list_any-append}
use Rattle.omf_frame.specs.Fault.{Fault}
use Rattle.omf_frame.specs.Framing.{Raw}
use Rattle.omf_records.specs.Inner.Reading.{read_body}
use Rattle.omf_records.specs.Values.{Contents}
use Rattle.omf_explicit.specs.Explicit.{is_read}
use Rattle.omf_virtual.specs.Values.{VirtualItem}
use Rattle.omf_virtual.specs.Virtual.{external_count, externals, externals_by, externals_in, gets_comdats, is_external}

abbrev have_virtual : List (Option VirtualItem) → Bool
have_virtual xs = list_any (λ x. is_some x) xs

others_none : (n : ℕ) → have_virtual (replicate n None) ≡ false
others_none zero = refl
others_none (suc n) = others_none n

by_none : (kind : ℕ) (body : List ℕ) (read : Result Contents Fault) → is_ok read ≡ true → have_virtual (externals_by kind body read) ≡ false
by_none kind body (Ok c) e = others_none (external_count c)
by_none kind body (Err f) e = absurd cc

in_none : (external : Bool) (kind : ℕ) (body : List ℕ) (read : Result Contents Fault) → is_ok read ≡ true → have_virtual (cond external (externals_by kind body read) []) ≡ false
in_none true kind body read e = by_none kind body read e
in_none false kind body read e = refl

all_none : (rs : List Raw) → All (λ r. is_read r ≡ true) rs → have_virtual (externals rs) ≡ false
all_none [] all = refl
all_none (r ∷ rs) all =
    let first : is_read r ≡ true = all 0 r (omega arith) in
    let others = all_none rs (λ k d low. all (suc k) d (omega arith)) in
    list_any-append (λ x. is_some x) (externals_in r) (externals rs)
    ∙ ap (λ b. b || have_virtual (externals rs)) (in_none (is_external r.kind) r.kind r.body (read_body r.kind r.body) first)
    ∙ others

pub read_none : (rs : List Raw) → All (λ r. is_read r ≡ true) rs → gets_comdats rs ≡ false
read_none rs all = let none = all_none rs all in rw none refl
