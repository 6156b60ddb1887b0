-- Records that this profile reads have no segment with A = 6 or 7.
use Rattle.std.proofs.Common.{◌≡◌, ◌∙◌, ◌⊎◌, inl, inr, ℕ, suc, Bool, true, false, List, [], ◌∷◌, Result, refl, sym, ap, subst, arith}
use Rattle.std.specs.Prelude.{All, ◌&&◌, ◌||◌, is_ok, nat_le, nat_lt}
use Rattle.std.specs.List.{list_any}
use Rattle.std.proofs.lemmas.Bool.{eqb-true, lt-leb, ltb-true}
use Rattle.omf_frame.specs.Fault.{Fault}
use Rattle.omf_frame.specs.Framing.{Raw}
use Rattle.omf_frame.specs.declared.fault.Reason.TheVariants as reason
use Rattle.omf_records.specs.Entries.{unless}
use Rattle.omf_records.specs.Inner.Reading.{read_body}
use Rattle.omf_records.specs.Inner.Reads.{and_then}
use Rattle.omf_records.specs.Inner.Readers.{refuse_first}
use Rattle.omf_records.specs.Values.{alignment}
use Rattle.omf_explicit.specs.Explicit.{is_read, is_segdef, segment_count}
use Rattle.omf_aligned.specs.Aligned.{alignment_of, gets_pages, is_changed}

-- what is read after a test has passed it
passed : {A B : Type 0} (b : Bool) (x : A) (at : ℕ) (k : A → Result B Fault) → is_ok (and_then (refuse_first (unless b reason.Alignment) at x) k) ≡ true → b ≡ true
passed true x at k e = refl
passed false x at k e = absurd cc

narrow : (body : List ℕ) → is_ok (read_body 0x98 body) ≡ true → nat_le 6 (alignment_of body) ≡ false
narrow [] e = absurd cc
narrow (a ∷ rest) e = lt-leb 6 (alignment a) (ltb-true (alignment a) 6 (passed (nat_lt (alignment a) 6) _ _ _ e))

wide : (body : List ℕ) → is_ok (read_body 0x99 body) ≡ true → nat_le 6 (alignment_of body) ≡ false
wide [] e = absurd cc
wide (a ∷ rest) e = lt-leb 6 (alignment a) (ltb-true (alignment a) 6 (passed (nat_lt (alignment a) 6) _ _ _ e))

kinds : (a b : Bool) → (a || (b || false)) ≡ true → (a ≡ true) ⊎ (b ≡ true)
kinds true b e = inl refl
kinds false true e = inr refl
kinds false false e = absurd cc

low : (kind : ℕ) (body : List ℕ) → is_segdef kind ≡ true → is_ok (read_body kind body) ≡ true → nat_le 6 (alignment_of body) ≡ false
low kind body s e =
    elim (kinds _ _ s) [
      | inl x ↦ narrow body (subst (λ k. is_ok (read_body k body) ≡ true) (sym (eqb-true 0x98 kind x)) e)
      | inr x ↦ wide body (subst (λ k. is_ok (read_body k body) ≡ true) (sym (eqb-true 0x99 kind x)) e)
    ]

quiet : (s a b : Bool) → (s ≡ true → a ≡ false) → (s && (a && b)) ≡ false
quiet false a b h = refl
quiet true a b h = ap (λ x. x && b) (h refl)

stays : (r : Raw) → is_read r ≡ true → is_changed r ≡ false
stays r e = quiet (is_segdef r.kind) _ _ (λ s. low r.kind r.body s e)

none_changed : (rs : List Raw) → All (λ r. is_read r ≡ true) rs → list_any is_changed rs ≡ false
none_changed [] all = refl
none_changed (r ∷ rs) all =
    let first : is_changed r ≡ false = stays r (all 0 r (omega arith)) in
    let others = none_changed rs (λ k d l. all (suc k) d (omega arith)) in
    ap (λ b. b || list_any is_changed rs) first ∙ others

pub read_stay : (rs : List Raw) → All (λ r. is_read r ≡ true) rs → gets_pages rs ≡ false
read_stay rs all = ap (λ b. b && nat_le (segment_count rs) 32767) (none_changed rs all)
