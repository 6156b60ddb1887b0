-- The members of a library, one after another.
use Rattle.std.proofs.Common.{◌≡◌, ℕ, suc, ◌+◌, ◌-◌, ◌/◌, ◌<◌, List, [], ◌∷◌, ◌++◌, length, drop, Bool, true, false, refl, sym, ap, ap₂, subst, ◌∙◌, arith, append_assoc, length-append}
use Rattle.std.specs.Prelude.{flat_map, ◌||◌, Option, Err}
use Rattle.std.specs.Io.KnownBytes.{Appends}
use Rattle.std.specs.List.{list_any}
use Rattle.std.proofs.KnownBytes.{Appends-nil, Appends-trans}
use Rattle.std.proofs.lemmas.List.{append-nil}
use Rattle.omf_frame.specs.Framing.{is_header}
use Rattle.omf_library.specs.Library.{HasHeader, IsHeaderRead, header_of, next_page, page_size}
use Rattle.omf_library.specs.declared.header.Header.{Header}
use Rattle.omf_library.specs.declared.fault.LibraryFault.{LibraryFault}
use Rattle.omf_library.specs.declared.fault.LibraryFault.TheVariants as fault
use Rattle.omf_dump.specs.Later.{front_kind}
use Rattle.omf_dump.specs.Library.{AreMembers, ArePagesText, IsEndShown, IsFileText, IsLibraryText, IsMemberShown, IsModuleText, IsShown, Member, Shows, after_member, end_text, header_text, title_text}
use Rattle.omf_dump.specs.declared.format.Mode.{Mode}
use Rattle.omf_dump.specs.declared.spot.Spot.{Spot}

or_swaps : (a b c : Bool) → (a || (b || c)) ≡ ((a || b) || c)
or_swaps true b c = refl
or_swaps false b c = refl

-- the members before the offset `at` are shown
pub record AreShown (mode : Mode) (bytes : List ℕ) (number at : ℕ) (is_refused : Bool) (old now : Option (List ℕ)) : Type 0 where
  pub members : List Member
  pub are : AreMembers mode bytes 0 (page_size bytes) members at
  pub counted : number ≡ length members
  pub refused : is_refused ≡ list_any (λ m. m.is_refused) members
  pub written : Appends old now (flat_map (λ m. m.text) members)

-- the spot of a member, and the page after it
abbrev pub spot : List ℕ → ℕ → ℕ → Spot
spot bytes number at = record { number = number; page = at / page_size bytes; offset = at }

abbrev pub next_at : List ℕ → ℕ → ℕ
next_at bytes at = next_page (page_size bytes) (length bytes - length (after_member 0 (drop at bytes)))

pub none_shown : (mode : Mode) (bytes : List ℕ) (old : Option (List ℕ)) → AreShown mode bytes 0 (page_size bytes) false old old
none_shown mode bytes old = record { members = []; are = refl; counted = refl; refused = refl; written = Appends-nil old }

members_more : (mode : Mode) (bytes : List ℕ) (number at : ℕ) (ms : List Member) (to : ℕ) (m : Member) → AreMembers mode bytes number at ms to → is_header (front_kind (drop to bytes)) ≡ true
    → IsMemberShown mode (spot bytes (number + length ms) to) (drop to bytes) m.is_refused m.text → AreMembers mode bytes number at (ms ++ m ∷ []) (next_at bytes to)
members_more mode bytes number at [] to m h e s =
    let n : number + 0 ≡ number = omega arith in
    rw h (e, subst (λ (k : ℕ). IsMemberShown mode (spot bytes k to) (drop to bytes) m.is_refused m.text) n s, refl)
members_more mode bytes number at (x ∷ ms) to m h e s =
    let n : number + suc (length ms) ≡ number + 1 + length ms = omega arith in
    (h.0, h.1, members_more mode bytes (number + 1) (next_at bytes at) ms to m h.2 e (subst (λ (k : ℕ). IsMemberShown mode (spot bytes k to) (drop to bytes) m.is_refused m.text) n s))

pub any_more : (ms : List Member) (m : Member) → list_any (λ x. x.is_refused) (ms ++ m ∷ []) ≡ (list_any (λ x. x.is_refused) ms || m.is_refused)
any_more [] m = by m.is_refused
  where
    by : (b : Bool) → (b || false) ≡ b
    by true = refl
    by false = refl
any_more (x ∷ ms) m = ap (λ (b : Bool). x.is_refused || b) (any_more ms m) ∙ or_swaps x.is_refused (list_any (λ y. y.is_refused) ms) m.is_refused

pub texts_more : (ms : List Member) (m : Member) → flat_map (λ x. x.text) (ms ++ m ∷ []) ≡ flat_map (λ x. x.text) ms ++ m.text
texts_more [] m = append-nil m.text
texts_more (x ∷ ms) m = ap (λ (t : List ℕ). x.text ++ t) (texts_more ms m) ∙ sym (append_assoc x.text (flat_map (λ y. y.text) ms) m.text)

zero_more : (n : ℕ) → n ≡ 0 + n
zero_more n = omega arith

-- one more is shown
pub one_more_shown : (mode : Mode) (bytes : List ℕ) (number at : ℕ) (is_refused is_faulty : Bool) (old mid new : Option (List ℕ)) → AreShown mode bytes number at is_refused old mid
    → is_header (front_kind (drop at bytes)) ≡ true → Shows mid new (IsMemberShown mode (spot bytes number at) (drop at bytes) is_faulty)
    → AreShown mode bytes (number + 1) (next_at bytes at) (is_refused || is_faulty) old new
one_more_shown mode bytes number at is_refused is_faulty old mid new w e s =
    let m : Member = record { is_refused = is_faulty; text = s.0 } in
    let n : number + 1 ≡ length (w.members ++ m ∷ []) = ap (λ (k : ℕ). k + 1) w.counted ∙ sym (length-append w.members (m ∷ [])) in
    record {
      members = w.members ++ m ∷ [];
      are = members_more mode bytes 0 (page_size bytes) w.members at m w.are e (subst (λ (k : ℕ). IsMemberShown mode (spot bytes k at) (drop at bytes) is_faulty s.0) (w.counted ∙ zero_more (length w.members)) s.1);
      counted = n;
      refused = ap (λ (b : Bool). b || is_faulty) w.refused ∙ sym (any_more w.members m);
      written = subst (Appends old new) (sym (texts_more w.members m)) (Appends-trans old mid new (flat_map (λ x. x.text) w.members) s.0 w.written s.2);
    }

-- all are shown, and what is there after the last of them
pub all_shown : (mode : Mode) (bytes : List ℕ) (number at : ℕ) (is_refused is_faulty : Bool) (old mid new : Option (List ℕ)) → AreShown mode bytes number at is_refused old mid
    → is_header (front_kind (drop at bytes)) ≡ false → Shows mid new (IsEndShown mode (spot bytes number at) (drop at bytes) is_faulty)
    → Shows old new (ArePagesText mode bytes (is_refused || is_faulty))
all_shown mode bytes number at is_refused is_faulty old mid new w e s =
    let front : List ℕ = flat_map (λ m. m.text) w.members in (
      front ++ s.0,
      record {
        members = w.members;
        to = at;
        members_are = w.are;
        ended = e;
        refused = ap₂ (λ (a b : Bool). a || b) w.refused s.1.0;
        whole = ap (λ (t : List ℕ). front ++ t) s.1.1 ∙ ap (λ (n : ℕ). front ++ end_text mode.style.format n at (drop at bytes)) w.counted;
      },
      Appends-trans old mid new front s.0 w.written s.2,
    )

-- the same of what the calls of a turn return
called_spot : (bytes : List ℕ) (page number at : ℕ) (s : Spot) → page ≡ page_size bytes → s ≡ record { number = number; page = at / page; offset = at } → s ≡ spot bytes number at
called_spot bytes page number at s p e = e ∙ ap (λ (n : ℕ). placed number at n) p
  where
    placed : ℕ → ℕ → ℕ → Spot
    placed number at n = record { number = number; page = at / n; offset = at }

pub member_turn : (mode : Mode) (bytes rest : List ℕ) (page number at next : ℕ) (s : Spot) (is_refused is_faulty either : Bool) (old mid new : Option (List ℕ)) → AreShown mode bytes number at is_refused old mid
    → page ≡ page_size bytes → rest ≡ drop at bytes → is_header (front_kind rest) ≡ true → s ≡ record { number = number; page = at / page; offset = at }
    → Shows mid new (IsMemberShown mode s rest is_faulty) → next ≡ next_page page (length bytes - length (after_member 0 rest)) → either ≡ (is_refused || is_faulty)
    → AreShown mode bytes (number + 1) next either old new
member_turn mode bytes rest page number at next s is_refused is_faulty either old mid new w p r h e m n b =
    let shown = subst (λ (x : List ℕ). Shows mid new (IsMemberShown mode (spot bytes number at) x is_faulty)) r (subst (λ (x : Spot). Shows mid new (IsMemberShown mode x rest is_faulty)) (called_spot bytes page number at s p e) m) in
    let one = one_more_shown mode bytes number at is_refused is_faulty old mid new w (subst (λ (x : List ℕ). is_header (front_kind x) ≡ true) r h) shown in
    let to : next ≡ next_at bytes at = n ∙ ap₂ (λ (k : ℕ) (x : List ℕ). next_page k (length bytes - length (after_member 0 x))) p r in
    rw (to, b) one

pub end_turn : (mode : Mode) (bytes rest : List ℕ) (page number at : ℕ) (s : Spot) (is_refused is_faulty either : Bool) (old mid new : Option (List ℕ)) → AreShown mode bytes number at is_refused old mid
    → page ≡ page_size bytes → rest ≡ drop at bytes → is_header (front_kind rest) ≡ false → s ≡ record { number = number; page = at / page; offset = at }
    → Shows mid new (IsEndShown mode s rest is_faulty) → either ≡ (is_refused || is_faulty) → Shows old new (ArePagesText mode bytes either)
end_turn mode bytes rest page number at s is_refused is_faulty either old mid new w p r h e m b =
    let shown = subst (λ (x : List ℕ). Shows mid new (IsEndShown mode (spot bytes number at) x is_faulty)) r (subst (λ (x : Spot). Shows mid new (IsEndShown mode x rest is_faulty)) (called_spot bytes page number at s p e) m) in
    rw b (all_shown mode bytes number at is_refused is_faulty old mid new w (subst (λ (x : List ℕ). is_header (front_kind x) ≡ false) r h) shown)

-- a page that begins a member is inside
pub header_inside : (at : ℕ) (bytes : List ℕ) → is_header (front_kind (drop at bytes)) ≡ true → 0 < length (drop at bytes)
header_inside at bytes e = by (drop at bytes) e
  where
    by : (rest : List ℕ) → is_header (front_kind rest) ≡ true → 0 < length rest
    by [] h = absurd cc
    by (b ∷ rest) h = omega arith

-- a title and a module
pub titled : (mode : Mode) (s : Spot) (bytes : List ℕ) (is_refused : Bool) (old mid new : Option (List ℕ)) (title : List ℕ) → title ≡ title_text mode.style.format s bytes → Appends old mid title
    → Shows mid new (IsModuleText mode bytes is_refused) → Shows old new (IsMemberShown mode s bytes is_refused)
titled mode s bytes is_refused old mid new title e w m = (title ++ m.0, (m.0, m.1, ap (λ (t : List ℕ). t ++ m.0) e), Appends-trans old mid new title m.0 w m.2)

-- the line of the header, and the pages
pub headed : (mode : Mode) (bytes : List ℕ) (h : Header) (is_refused : Bool) (old mid new : Option (List ℕ)) (line : List ℕ) → h ≡ header_of bytes → line ≡ header_text mode.style.format h → Appends old mid line
    → Shows mid new (ArePagesText mode bytes is_refused) → Shows old new (IsLibraryText mode bytes is_refused)
headed mode bytes h is_refused old mid new line k e w m =
    (line ++ m.0, (m.0, m.1, ap (λ (t : List ℕ). t ++ m.0) (e ∙ ap (header_text mode.style.format) k)), Appends-trans old mid new line m.0 w m.2)

pub header_exclusive : (bytes : List ℕ) (f : LibraryFault) → IsHeaderRead bytes (Err f) → HasHeader bytes → ⊥
header_exclusive bytes fault.NoHeader r h = r h.begun
header_exclusive bytes fault.HeaderCut r h = let low = r.1 in let high = h.whole in absurd (omega (arith, low, high))
header_exclusive bytes (fault.PageSize size) r h = let x : true ≡ false = sym h.paged ∙ r.3 in absurd cc
header_exclusive bytes fault.Memory r h = r
header_exclusive bytes (fault.Refused member offset why place) r h = r
header_exclusive bytes (fault.NoEnd member offset) r h = r

pub is_library : (mode : Mode) (bytes : List ℕ) (is_refused : Bool) (old new : Option (List ℕ)) → HasHeader bytes → Shows old new (IsLibraryText mode bytes is_refused) → IsShown mode bytes is_refused old new
is_library mode bytes is_refused old new h s = record { library = λ _. s; others = λ n. absurd (n h) }

pub is_module : (mode : Mode) (bytes : List ℕ) (is_refused : Bool) (old new : Option (List ℕ)) (f : LibraryFault) → IsHeaderRead bytes (Err f) → Shows old new (IsFileText mode bytes is_refused) → IsShown mode bytes is_refused old new
is_module mode bytes is_refused old new f r s = record { library = λ h. absurd (header_exclusive bytes f r h); others = λ _. s }
