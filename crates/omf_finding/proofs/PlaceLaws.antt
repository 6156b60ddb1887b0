-- The places of a segment: all of them, or those before the one at which the search was cut.
use Rattle.std.proofs.Common.{◌≡◌, inl, inr, ℕ, ◌+◌, ◌-◌, ◌*◌, ◌<◌, ◌≤◌, ◌^◌, Bool, true, false, List, length, Option, Some, sym, ap, subst, ◌∙◌, arith}
use Rattle.std.specs.Prelude.{Contains, get_or}
use Rattle.std.proofs.lemmas.Bool.Decides.{leb_tells}
use Rattle.std.proofs.lemmas.Option.{slice_get-get_or}
use Rattle.omf_finding.specs.Agrees.{Agrees}
use Rattle.omf_finding.specs.Finding.{IsCut}
use Rattle.omf_finding.specs.Fours.{AreAt, four_closed}
use Rattle.omf_finding.specs.Inner.Shaping.{AreIntervals, ArePlaces, AreWindows, IsRareOf, is_at, offset_in, tried_with}
use Rattle.omf_finding.specs.declared.patterning.Interval.{Interval}
use Rattle.omf_finding.specs.declared.patterning.PatternByte.{PatternByte}
use Rattle.omf_finding.specs.declared.shapes.Rare.{Rare}
use Rattle.omf_finding.specs.declared.shapes.Tried.{Tried}
use Rattle.omf_finding.specs.declared.shapes.Tried.TheVariants as tried
use Rattle.omf_finding.proofs.AgreesLaws.{agrees-from, agrees-to}
use Rattle.omf_finding.proofs.FourLaws.{front-at, key-closed}
use Rattle.omf_finding.proofs.RareLaws.{rare-seen}
use Rattle.omf_finding.proofs.WindowLaws.{AreSoFar, IsFirst, end-none, offset-found, offset-here, offset-there, offsets-rise, on-some, places-pass, range-begins, range-ends, tried-at, tried-is, tried-passes, trying}

pub window-again : (sorted : List ℕ) (k window : ℕ) → k < length sorted → get_or sorted k window ≡ window → get_or sorted k 0 ≡ window
window-again sorted k window low e =
    let one = slice_get-get_or sorted k 0 low in
    let other = slice_get-get_or sorted k window low in
    let both : Some (get_or sorted k 0) ≡ Some window = sym one ∙ other ∙ ap Some e in
    cc

-- ---- windows with one number, one after another

-- the offset of the i-th window from one on
abbrev pub offset-from : List ℕ → ℕ → ℕ → ℕ → ℕ
offset-from sorted key first i = get_or sorted (first + i) 0 - key * 2 ^ 32

pub offset-as : (sorted : List ℕ) (key first i at : ℕ) → offset_in sorted (first + i) key ≡ Some at → offset_in sorted (first + i) key ≡ Some (offset-from sorted key first i)
offset-as sorted key first i at e =
    let window = (offset-found sorted key (first + i) at e).window in
    let same : at ≡ offset-from sorted key first i = omega (arith, window) in
    e ∙ ap Some same

pub windows-at : {kept : ℕ → Bool} (program sorted : List ℕ) → AreWindows kept program sorted → (key first n : ℕ) → ((i : ℕ) → i < n → offset_in sorted (first + i) key ≡ Some (offset-from sorted key first i)) → AreAt program key n
windows-at program sorted windows key first n each = record {
  at = offset-from sorted key first;
  rising = λ i j less low. offsets-rise sorted key windows.increases (first + i) (first + j) (offset-from sorted key first i) (offset-from sorted key first j) (omega (arith, less)) (each i (omega (arith, less, low))) (each j low);
  each = λ i low. sym (front-at program (offset-from sorted key first i)) ∙ offset-there program sorted windows key (first + i) (offset-from sorted key first i) (each i low);
}

-- The window that shows a place.
pub record IsShownAt (sorted : List ℕ) (base : ℕ) (r : Rare) (first : ℕ) (try : ℕ → Tried) (address : ℕ) : Type 0 where
  pub k : ℕ
  pub at : ℕ
  pub from : first ≤ k
  pub offset : offset_in sorted k r.key ≡ Some at
  pub place : address + r.offset ≡ base + at
  pub tries : try k ≡ tried.Place address

module _ (byte : ℕ → Option PatternByte) (is : List Interval) (are : AreIntervals byte is) (program : List ℕ) (base : ℕ) (kept : ℕ → Bool) (sorted : List ℕ) (windows : AreWindows kept program sorted) (r : Rare) (is-kept : kept r.key ≡ true) (rare : IsRareOf is r) (first : ℕ) (begun : IsFirst sorted r.key first) where
  abbrev test : ℕ → Bool
  test = is_at program base is

  abbrev try : ℕ → Tried
  try = trying test base r.offset sorted r.key

  abbrev SoFar : ℕ → List ℕ → Type 0
  SoFar number places = AreSoFar try first number places

  pub places-agree : (number : ℕ) (places : List ℕ) → SoFar number places → (address : ℕ) → Contains places address → Agrees byte program base address
  places-agree number places h address c = agrees-from byte program base is are address (places-pass test base r.offset sorted r.key first number places h address c)

  -- there may be more
  pub places-some : (number : ℕ) (places : List ℕ) → SoFar number places → ArePlaces byte program base places true
  places-some number places h = record { agree = places-agree number places h; all = λ e. absurd (let w : true ≡ false = e in cc); rising = h.rising }

  -- ---- the window that shows a place

  abbrev IsShown : ℕ → Type 0
  IsShown address = IsShownAt sorted base r first try address

  abbrev IsThere : ℕ → Type 0
  IsThere address = Agrees byte program base address

  shown-at : base + length program ≤ 2 ^ 32 → (address : ℕ) → IsThere address → IsShown address
  shown-at fits address agrees =
      let seen = rare-seen byte is are program base address agrees r rare in
      let above = seen.above in
      let inside = seen.inside in
      let at = address + r.offset - base in
      let short : at < 2 ^ 32 = omega (arith, above, inside, fits) in
      let found = windows.has at r.key inside short seen.window is-kept in
      let k = found.0 in
      let window = r.key * 2 ^ 32 + at in
      let value : get_or sorted k 0 ≡ window = window-again sorted k window found.1 found.2 in
      let offset : offset_in sorted k r.key ≡ Some at = offset-here sorted r.key k at found.1 value short in
      let place : address + r.offset ≡ base + at = omega (arith, above) in
      record {
        k = k;
        at = at;
        from = range-begins sorted r.key first begun k at value;
        offset = offset;
        place = place;
        tries = ap (tried_with test base r.offset) offset ∙ tried-is test base at r.offset address (omega (arith, above, inside, fits)) place (agrees-to byte program base is are address agrees);
      }

  -- ---- all places

  pub places-all : (number : ℕ) → try number ≡ tried.End → (places : List ℕ) → SoFar number places → ArePlaces byte program base places false
  places-all number end places h = record {
    agree = places-agree number places h;
    all = λ e fits address agrees.
        let s = shown-at fits address agrees in
        let found = offset-found sorted r.key s.k s.at s.offset in
        let none = end-none test base r.offset (offset_in sorted number r.key) end in
        h.has s.k address s.from (range-ends sorted r.key first begun windows.rises number h.from none s.k s.at found.within found.window found.low) s.tries;
    rising = h.rising;
  }

  -- ---- those before the one at which the search was cut

  closed : four_closed byte r.offset ≡ Some r.key
  closed =
      let one = rare.2.1 in
      subst (λ (x : ℕ). four_closed byte x ≡ Some r.key) (sym one.offset) (key-closed byte rare.0 (are.each rare.0 rare.1) rare.2.0 r.key one.key)

  not-after : (number last : ℕ) → offset_in sorted number r.key ≡ Some last → (address : ℕ) → (s : IsShown address) → address + r.offset ≤ base + last → s.k ≤ number
  not-after number last e address s most = elim (leb_tells s.k number) [
    | inl t ↦ t.1
    | inr t ↦ absurd (let later = offsets-rise sorted r.key windows.increases number s.k last s.at t.1 e s.offset in let place = s.place in omega (arith, later, place, most))
  ]

  before : (number last : ℕ) → offset_in sorted number r.key ≡ Some last → (address : ℕ) → (s : IsShown address) → address + r.offset < base + last → s.k < number
  before number last e address s low =
      let most = not-after number last e address s (omega (arith, low)) in
      elim (leb_tells (s.k + 1) number) [
        | inl t ↦ omega (arith, t.1)
        | inr t ↦
            let same : s.k ≡ number = omega (arith, t.1, most) in
            let both : Some s.at ≡ Some last = sym s.offset ∙ ap (λ (n : ℕ). offset_in sorted n r.key) same ∙ e in
            let one : s.at ≡ last = cc in
            let place = s.place in
            absurd (omega (arith, one, place, low))
      ]

  -- the list is full, and there is one more
  pub cut-full : (number most place : ℕ) (places : List ℕ) → try number ≡ tried.Place place → most ≤ length places → SoFar number places → IsCut byte program base most places
  cut-full number most place places e full h =
      let t = tried-at test base r.offset (offset_in sorted number r.key) place e in
      record {
        x = r.offset;
        key = r.key;
        end = t.0;
        closed = closed;
        listed = λ fits address agrees low. let s = shown-at fits address agrees in h.has s.k address s.from (before number t.0 t.1 address s low) s.tries;
        cause = inl (record {
          address = place;
          agrees = agrees-from byte program base is are place (tried-passes test base r.offset (offset_in sorted number r.key) place e);
          place = t.2;
          full = full;
        });
      }

  -- as many windows as may be were tried
  module _ (number most : ℕ) (tried-all : number ≡ first + 64) (places : List ℕ) (h : SoFar number places) where
    abbrev offset : ℕ → ℕ
    offset = offset-from sorted r.key first

    offset-at : (i : ℕ) → i < 64 → offset_in sorted (first + i) r.key ≡ Some (offset i)
    offset-at i low =
        let got = on-some test base r.offset (offset_in sorted (first + i) r.key) (h.on (first + i) (omega arith) (omega (arith, low, tried-all))) in
        offset-as sorted r.key first i got.0 got.1

    are-at : AreAt program r.key 64
    are-at = windows-at program sorted windows r.key first 64 offset-at

    abbrev end : ℕ
    end = offset 63 + 1

    all-before : (i : ℕ) → i < 64 → are-at.at i < end
    unfolding are-at windows-at
    all-before i low = elim (leb_tells (i + 1) 63) [
      | inl t ↦ let less : offset i < offset 63 = are-at.rising i 63 (omega (arith, t.1)) (omega arith) in omega (arith, less)
      | inr t ↦ let same : i ≡ 63 = omega (arith, t.1, low) in let one : offset i ≡ offset 63 = ap offset same in omega (arith, one)
    ]

    pub cut-common : IsCut byte program base most places
    cut-common = record {
      x = r.offset;
      key = r.key;
      end = end;
      closed = closed;
      listed = λ fits address agrees low.
          let s = shown-at fits address agrees in
          let last = not-after (first + 63) (offset 63) (offset-at 63 (omega arith)) address s (omega (arith, low)) in
          h.has s.k address s.from (omega (arith, last, tried-all)) s.tries;
      cause = inr (record { are = are-at; before = all-before });
    }
