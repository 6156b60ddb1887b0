-- The modules of a file, one after another.
use Rattle.std.proofs.Common.{◌≡◌, ℕ, suc, ◌+◌, ◌-◌, List, [], ◌∷◌, ◌++◌, length, drop, Bool, true, false, refl, sym, ap, subst, ◌∙◌, arith, length-append}
use Rattle.std.specs.Prelude.{flat_map, ◌||◌, Option}
use Rattle.std.specs.Io.KnownBytes.{Appends}
use Rattle.std.specs.List.{list_any}
use Rattle.std.proofs.KnownBytes.{Appends-trans}
use Rattle.std.proofs.lemmas.List.{append-nil}
use Rattle.omf_frame.specs.Framing.{is_header}
use Rattle.omf_dump.specs.Later.{front_kind}
use Rattle.omf_dump.specs.Library.{AreNext, IsFileText, IsLeftShown, IsModuleText, IsNextShown, Member, Shows, after_module, end_at, first_end, module_title}
use Rattle.omf_dump.specs.declared.format.Mode.{Mode}
use Rattle.omf_dump.proofs.LibraryLaws.{any_more, texts_more}

-- the modules before the offset `at` are shown
pub record AreRead (mode : Mode) (bytes : List ℕ) (number at : ℕ) (is_refused : Bool) (old now : Option (List ℕ)) : Type 0 where
  pub first : Member
  pub first_is : IsModuleText mode bytes first.is_refused first.text
  pub others : List Member
  pub are : AreNext mode bytes 1 (first_end bytes) others at
  pub counted : number ≡ 1 + length others
  pub refused : is_refused ≡ list_any (λ m. m.is_refused) (first ∷ others)
  pub written : Appends old now (flat_map (λ m. m.text) (first ∷ others))

alone : (b : Bool) → b ≡ (b || false)
alone true = refl
alone false = refl

-- the first one
pub first_read : (mode : Mode) (bytes : List ℕ) (at : ℕ) (is_refused : Bool) (old new : Option (List ℕ)) → at ≡ first_end bytes → Shows old new (IsModuleText mode bytes is_refused) → AreRead mode bytes 1 at is_refused old new
first_read mode bytes at is_refused old new e s = record {
  first = record { is_refused = is_refused; text = s.0 };
  first_is = s.1;
  others = [];
  are = sym e;
  counted = refl;
  refused = alone is_refused;
  written = subst (Appends old new) (sym (append-nil s.0)) s.2;
}

next_more : (mode : Mode) (bytes : List ℕ) (number at : ℕ) (ms : List Member) (to : ℕ) (m : Member) → AreNext mode bytes number at ms to → is_header (front_kind (drop to bytes)) ≡ true
    → IsNextShown mode (number + length ms) to (drop to bytes) m.is_refused m.text → AreNext mode bytes number at (ms ++ m ∷ []) (end_at bytes to)
next_more mode bytes number at [] to m h e s =
    let n : number + 0 ≡ number = omega arith in
    rw h (e, subst (λ (k : ℕ). IsNextShown mode k to (drop to bytes) m.is_refused m.text) n s, refl)
next_more mode bytes number at (x ∷ ms) to m h e s =
    let n : number + suc (length ms) ≡ number + 1 + length ms = omega arith in
    (h.0, h.1, next_more mode bytes (number + 1) (end_at bytes at) ms to m h.2 e (subst (λ (k : ℕ). IsNextShown mode k to (drop to bytes) m.is_refused m.text) n s))

-- one more
pub next_turn : (mode : Mode) (bytes rest : List ℕ) (number at next : ℕ) (is_refused is_faulty either : Bool) (old mid new : Option (List ℕ)) → AreRead mode bytes number at is_refused old mid
    → rest ≡ drop at bytes → is_header (front_kind rest) ≡ true → Shows mid new (IsNextShown mode number at rest is_faulty) → next ≡ length bytes - length (after_module rest)
    → either ≡ (is_refused || is_faulty) → AreRead mode bytes (number + 1) next either old new
next_turn mode bytes rest number at next is_refused is_faulty either old mid new w r h m n b =
    let headed : is_header (front_kind (drop at bytes)) ≡ true = subst (λ (x : List ℕ). is_header (front_kind x) ≡ true) r h in
    let s = subst (λ (x : List ℕ). Shows mid new (IsNextShown mode number at x is_faulty)) r m in
    let one : Member = record { is_refused = is_faulty; text = s.0 } in
    let to : next ≡ end_at bytes at = n ∙ ap (λ (x : List ℕ). length bytes - length (after_module x)) r in
    let all : List Member = w.first ∷ w.others in
    let more : length (w.others ++ one ∷ []) ≡ length w.others + 1 = length-append w.others (one ∷ []) in
    let count = w.counted in
    record {
      first = w.first;
      first_is = w.first_is;
      others = w.others ++ one ∷ [];
      are = subst (AreNext mode bytes 1 (first_end bytes) (w.others ++ one ∷ [])) (sym to)
          (next_more mode bytes 1 (first_end bytes) w.others at one w.are headed (subst (λ (k : ℕ). IsNextShown mode k at (drop at bytes) is_faulty s.0) w.counted s.1));
      counted = omega (arith, more, count);
      refused = b ∙ ap (λ (x : Bool). x || is_faulty) w.refused ∙ sym (any_more all one);
      written = subst (Appends old new) (sym (texts_more all one)) (Appends-trans old mid new (flat_map (λ x. x.text) all) s.0 w.written s.2);
    }

-- and what is left
pub left_turn : (mode : Mode) (bytes rest : List ℕ) (number at : ℕ) (is_refused : Bool) (old mid new : Option (List ℕ)) → AreRead mode bytes number at is_refused old mid → rest ≡ drop at bytes
    → is_header (front_kind rest) ≡ false → Shows mid new (IsLeftShown mode at rest) → Shows old new (IsFileText mode bytes is_refused)
left_turn mode bytes rest number at is_refused old mid new w r h m =
    let s = subst (λ (x : List ℕ). Shows mid new (IsLeftShown mode at x)) r m in
    let front : List ℕ = flat_map (λ x. x.text) (w.first ∷ w.others) in (
      front ++ s.0,
      record {
        first = w.first;
        first_is = w.first_is;
        others = w.others;
        to = at;
        others_are = w.are;
        ended = subst (λ (x : List ℕ). is_header (front_kind x) ≡ false) r h;
        refused = w.refused;
        whole = ap (λ (t : List ℕ). front ++ t) s.1;
      },
      Appends-trans old mid new front s.0 w.written s.2,
    )

-- a title and a module
pub titled : (mode : Mode) (number at : ℕ) (bytes : List ℕ) (is_refused : Bool) (old mid new : Option (List ℕ)) (title : List ℕ) → title ≡ module_title mode.style.format number at bytes → Appends old mid title
    → Shows mid new (IsModuleText mode bytes is_refused) → Shows old new (IsNextShown mode number at bytes is_refused)
titled mode number at bytes is_refused old mid new title e w m = (title ++ m.0, (m.0, m.1, ap (λ (t : List ℕ). t ++ m.0) e), Appends-trans old mid new title m.0 w m.2)
