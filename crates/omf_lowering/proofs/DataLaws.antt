-- The data of an LEDATA with a value added.
use Rattle.std.proofs.Common.{◌≡◌, ℕ, zero, suc, ◌+◌, ◌-◌, ◌%◌, ◌^◌, inl, inr, Bool, true, false, cond, leb, List, [], ◌∷◌, ◌++◌, refl, sym, ap, subst, ◌∙◌, length, length-append, append_assoc, take, drop, arith, Ok, Err, Result}
use Rattle.std.specs.Prelude.{◌==◌, ◌||◌}
use Rattle.std.proofs.lemmas.Bool.{eqb-true, or_cases, le-leb}
use Rattle.byteorder.specs.Endian.{little_bytes, little_number}
use Rattle.omf_frame.specs.Bytes.{AreBytes, is_one_of}
use Rattle.omf_frame.specs.Fault.{Fault}
use Rattle.omf_frame.specs.Framing.{Raw, raw_of}
use Rattle.omf_frame.specs.Types.{ledata}
use Rattle.omf_image.specs.Parts.{add_part}
use Rattle.omf_records.specs.Inner.Reading.{contents_or, read_body, typed}
use Rattle.omf_records.specs.Inner.Reads.{and_then}
use Rattle.omf_records.specs.Inner.RecordReaders.{data_whole, plain_whole}
use Rattle.omf_records.specs.Values.{DataItem, Plain, is_wide}
use Rattle.omf_lowering.specs.Laws.{DataAreAdded}
use Rattle.omf_lowering.specs.Patches.{size_of}

zero_plus : (k : ℕ) → 0 + k ≡ k
zero_plus k = omega arith

suc_plus : (a b : ℕ) → suc a + b ≡ suc (a + b)
suc_plus a b = omega arith

-- a value added to bytes after others
add_after : (a b : List ℕ) (k pos n v : ℕ) → pos ≡ length a + k → add_part (a ++ b) pos n v ≡ a ++ add_part b k n v
add_after [] b k pos n v e = ap (λ p. add_part b p n v) (e ∙ zero_plus k)
add_after (x ∷ a) b k zero n v e = absurd (let f : 0 ≡ suc (length a) + k = e in omega (arith, f))
add_after (x ∷ a) b k (suc pos) n v e =
    let f : suc pos ≡ suc (length a) + k = e in
    let g : pos ≡ length a + k = omega (arith, f) in
    ap (λ m. x ∷ take pos (a ++ b) ++ little_bytes n ((little_number n (drop pos (a ++ b)) + v) % 256 ^ n) ++ drop m (x ∷ a ++ b)) (suc_plus pos n)
    ∙ ap (λ l. x ∷ l) (add_after a b k pos n v g)

-- an LEDATA is read as data
read_plain : (kind : ℕ) (body : List ℕ) → is_one_of ledata kind ≡ true → read_body kind body ≡ (plain_whole (is_wide kind)).read 3 body
read_plain kind body e =
    elim (or_cases (0xA0 == kind) ((0xA1 == kind) || false) e) [
      | inl p ↦ subst (λ k. read_body k body ≡ (plain_whole (is_wide k)).read 3 body) (eqb-true 0xA0 kind p) refl
      | inr q ↦ elim (or_cases (0xA1 == kind) false q) [
        | inl p ↦ subst (λ k. read_body k body ≡ (plain_whole (is_wide k)).read 3 body) (eqb-true 0xA1 kind p) refl
        | inr p ↦ absurd cc
      ]
    ]

-- data that are read are the end of the contents, and others in their place are read so
record Ends (wide : Bool) (body : List ℕ) (d : DataItem) : Type 0 where
  front : List ℕ
  parts : body ≡ front ++ d.bytes
  others : (bytes : List ℕ) → (data_whole wide).read 3 (front ++ bytes) ≡ Ok (record d { bytes = bytes })

ends : (wide : Bool) (body : List ℕ) (d : DataItem) → AreBytes body → (data_whole wide).read 3 body ≡ Ok d → Ends wide body d
ends wide body d fit e =
    let s = (data_whole wide).ok 3 body d fit e in
    let first = s.0 in
    let back = s.1 in
    let second = s.5.0 in
    let left = s.5.1 in
    let bytes : d.bytes ≡ left = ap (λ (x : DataItem). x.bytes) s.5.5.2 ∙ s.5.5.1 in
    record {
      front = first ++ second;
      parts = s.3 ∙ ap (λ l. first ++ l) s.5.3 ∙ sym (append_assoc first second left) ∙ ap (λ l. (first ++ second) ++ l) (sym bytes);
      others = λ others.
          ap ((data_whole wide).read 3) (append_assoc first second others)
          ∙ (data_whole wide).again 3 (first ++ (second ++ others)) (record d { bytes = others })
          (first, second ++ others, s.2, refl, s.4, (second, others, s.5.2, refl, s.5.4, (others, refl, ap (λ (x : DataItem). record x { bytes = others }) s.5.5.2)));
    }

of_plain : (r : Result DataItem Fault) (body : List ℕ) (d : DataItem) → contents_or body (and_then r (λ x. Ok (Plain x))) ≡ Plain d → r ≡ Ok d
of_plain (Ok x) body d e = let same : x ≡ d = cc in ap (λ y. Ok y) same
of_plain (Err f) body d e = absurd cc

chosen_first : {A : Type 0} (b : Bool) (x y : A) → b ≡ true → cond b x y ≡ x
chosen_first true x y e = refl
chosen_first false x y e = absurd cc

pub data_are_added : DataAreAdded
data_are_added r d p fit is kind from to =
    let wide : Bool = is_wide r.kind in
    let size : ℕ = size_of p.part in
    let given : (data_whole wide).read 3 r.body ≡ Ok d = of_plain ((data_whole wide).read 3 r.body) r.body d (ap (contents_or r.body) (sym (read_plain r.kind r.body kind)) ∙ is) in
    let s = ends wide r.body d fit given in
    let start : length r.body - length d.bytes ≡ length s.front = omega (arith, ap length s.parts, length-append s.front d.bytes) in
    let k : ℕ = p.at - (length r.body - length d.bytes) in
    let at : p.at ≡ length s.front + k = omega (arith, from, start) in
    let new : List ℕ = add_part r.body p.at size p.value in
    let added : new ≡ s.front ++ add_part d.bytes k size p.value = ap (λ b. add_part b p.at size p.value) s.parts ∙ add_after s.front d.bytes k p.at size p.value at in
    let result : DataItem = record d { bytes = add_part d.bytes k size p.value } in
    let read : read_body r.kind new ≡ Ok (Plain result) =
    read_plain r.kind new kind ∙ ap (λ b. and_then ((data_whole wide).read 3 b) (λ x. Ok (Plain x))) added
    ∙ ap (λ x. and_then x (λ y. Ok (Plain y))) (s.others (add_part d.bytes k size p.value)) in
    ap (λ (x : Raw). (typed x).contents) (chosen_first (leb (p.at + size) (length r.body)) (raw_of r.kind new) r (le-leb (p.at + size) (length r.body) to))
    ∙ ap (contents_or new) read
