-- The last record of an accepted module is its MODEND; so modules of one key are main modules, or not.
use Rattle.std.proofs.Common.{◌≡◌, ℕ, List, [], ◌∷◌, ◌++◌, refl, sym, ◌∙◌, ap, ap₂, Bool, true, false, cond, true≢false}
use Rattle.std.specs.Prelude.{map, flat_map, All, nat_le, Option, Some, None}
use Rattle.std.specs.List.{last_or}
use Rattle.std.proofs.lemmas.Grind.{flat_map-append}
use Rattle.std.proofs.lemmas.List.Elements.{All-head, All-tail}
use Rattle.omf_frame.specs.Bytes.{with_before, last}
use Rattle.omf_records.specs.Values.{Rec, Contents, Names, ModEnd, Reference, Subrecord}
use Rattle.omf_check.specs.Sound.{is_module_end}
use Rattle.omf_check.specs.Tables.{subrecords}
use Rattle.omf_reloc.specs.Inner.Pieces.{single_pieces}
use Rattle.omf_reloc.specs.Plain.{Piece, Kept, Fixed, End, piece_of, pieces}
use Rattle.omf_keys.specs.Keys.{main_bit, with_main, main_pieces}
use Rattle.omf_keys.proofs.TableLaws.{table-single}

bit-again : (b : Bool) → nat_le 128 (cond b 128 0) ≡ b
bit-again true = refl
bit-again false = refl

pub main-again : (byte : ℕ) → nat_le 128 (main_bit byte) ≡ nat_le 128 byte
main-again byte = bit-again (nat_le 128 byte)

-- The main bits of MODENDs.
abbrev mains_of : Contents → List Bool
mains_of (ModEnd byte start) = nat_le 128 byte ∷ []
mains_of _ = []

abbrev piece_mains : Piece → List Bool
piece_mains (End kind byte start) = nat_le 128 byte ∷ []
piece_mains _ = []

mains-piece : (earlier : List Subrecord) (kind : ℕ) (c : Contents) → mains_of c ≡ piece_mains (piece_of earlier kind c)
mains-piece earlier kind (ModEnd byte start) = refl
mains-piece earlier kind _ = refl

mains-from : (before m : List Rec) → flat_map (λ r. mains_of r.contents) m ≡ flat_map piece_mains (with_before (λ before r. piece_of (subrecords before) r.kind r.contents ∷ []) before m)
mains-from before [] = refl
mains-from before (r ∷ m) = ap₂ (λ (xs ys : List Bool). xs ++ ys) (mains-piece (subrecords before) r.kind r.contents) (mains-from (before ++ r ∷ []) m)

mains-bit : (ps : List Piece) → flat_map piece_mains ps ≡ flat_map piece_mains (map with_main ps)
mains-bit [] = refl
mains-bit (Kept r ∷ ps) = mains-bit ps
mains-bit (Fixed kind fs ∷ ps) = mains-bit ps
mains-bit (End kind byte start ∷ ps) = ap₂ (λ (b : Bool) (bs : List Bool). b ∷ bs) (sym (main-again byte)) (mains-bit ps)

mains-told : (m : List Rec) → flat_map (λ r. mains_of r.contents) m ≡ flat_map piece_mains (main_pieces m)
mains-told m = mains-from [] m ∙ sym (table-single piece_mains (λ kind fs. refl) (pieces m)) ∙ mains-bit (single_pieces m)

-- The end of a module.
abbrev pub EndsIn : List Rec → Type 0
EndsIn m = (front : List Rec) × (end : Rec) × (m ≡ front ++ end ∷ []) × (is_module_end end.contents ≡ true) × All (λ r. is_module_end r.contents ≡ false) front

last-from : (o : Option Rec) (front : List Rec) (end : Rec) → last_or o (front ++ end ∷ []) ≡ Some end
last-from o [] end = refl
last-from o (r ∷ front) end = last-from (Some r) front end

pub last-is : (m : List Rec) (e : EndsIn m) → last m ≡ Some e.1
last-is m e = ap last e.2 ∙ last-from None e.0 e.1

none-of : (c : Contents) → is_module_end c ≡ false → mains_of c ≡ []
none-of (ModEnd byte start) e = absurd (true≢false e)
none-of _ e = refl

none-in : (front : List Rec) → All (λ r. is_module_end r.contents ≡ false) front → flat_map (λ r. mains_of r.contents) front ≡ []
none-in [] h = refl
none-in (r ∷ front) h =
    ap₂ (λ (xs ys : List Bool). xs ++ ys) (none-of r.contents (All-head (λ (r : Rec). is_module_end r.contents ≡ false) r front h)) (none-in front (All-tail (λ (r : Rec). is_module_end r.contents ≡ false) r front h))

one-in : (m : List Rec) (e : EndsIn m) → flat_map (λ r. mains_of r.contents) m ≡ mains_of e.1.contents ++ []
one-in m e =
    ap (flat_map (λ (r : Rec). mains_of r.contents)) e.2
    ∙ flat_map-append (λ (r : Rec). mains_of r.contents) e.0 (e.1 ∷ [])
    ∙ ap (λ (xs : List Bool). xs ++ (mains_of e.1.contents ++ [])) (none-in e.0 e.4)

-- A test of the contents of the last record that is the main bit of a MODEND.
module _ (test : Contents → Bool) (says : (byte : ℕ) (start : Option Reference) → test (ModEnd byte start) ≡ nat_le 128 byte) where
  tested : (c : Contents) → is_module_end c ≡ true → mains_of c ++ [] ≡ test c ∷ []
  tested (ModEnd byte start) e = ap (λ (b : Bool). b ∷ []) (sym (says byte start))
  tested (Names items) e = absurd (true≢false (sym e))
  tested _ e = absurd (true≢false (sym e))

  only-one : (a b : Bool) → a ∷ [] ≡ b ∷ [] → a ≡ b
  only-one a b e = cc

  pub main-same : (m n : List Rec) (e : EndsIn m) (f : EndsIn n) → main_pieces m ≡ main_pieces n → test e.1.contents ≡ test f.1.contents
  main-same m n e f h = only-one (test e.1.contents) (test f.1.contents)
      (sym (one-in m e ∙ tested e.1.contents e.3) ∙ (mains-told m ∙ ap (flat_map piece_mains) h ∙ sym (mains-told n)) ∙ (one-in n f ∙ tested f.1.contents f.3))
