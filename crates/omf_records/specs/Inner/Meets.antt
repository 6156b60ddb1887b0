-- A reading of all the bytes meets its layout; a layout has at most one value.
use Rattle.std.proofs.Common.{◌≡◌, ℕ, List, Result, Ok, Err, refl, sym, ◌∙◌, subst}
use Rattle.std.specs.Prelude.{IsTrue}
use Rattle.omf_frame.specs.Bytes.{AreBytes}
use Rattle.omf_frame.specs.Fault.{Fault, is_before}
use Rattle.omf_records.specs.Layout.{Layout, Meets}
use Rattle.omf_records.specs.Inner.Reads.{Whole}

ok_same : {A : Type 0} (x y : A) → ◌≡◌ {A = Result A Fault} (Ok x) (Ok y) → x ≡ y
ok_same x y e = cc

-- two values of the same bytes are equal
pub whole_unique : {A : Type 0} {p : Layout A} (w : Whole p) (at : ℕ) (bytes : List ℕ) (x y : A) → p.Spells at bytes x → p.Spells at bytes y → x ≡ y
whole_unique w at bytes x y p q = ok_same x y (sym (w.again at bytes x p) ∙ w.again at bytes y q)

module _ {A : Type 0} {p : Layout A} (w : Whole p) (at : ℕ) (bytes : List ℕ) (h : AreBytes bytes) where
  met : (r : Result A Fault) → w.read at bytes ≡ r → Meets p at bytes r
  met (Ok x) e = record { spelled = w.ok at bytes x h e; given = λ y s. let a = w.again at bytes y s in cc; faulty = tt; first = tt }
  met (Err d) e = record {
    spelled = tt;
    given = λ y s. let a = w.again at bytes y s in absurd cc;
    faulty = w.err at bytes d h e;
    first = λ f q. let k = w.refuses at bytes f h q in subst (λ (x : Fault). IsTrue (is_before x f)) (let i = k.is in cc) k.first;
  }

  pub whole_meets : Meets p at bytes (w.read at bytes)
  whole_meets = met (w.read at bytes) refl
