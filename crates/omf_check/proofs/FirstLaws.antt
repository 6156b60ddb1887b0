-- The first fault of a record is the least one that is computed, if its contents are bytes.
use Rattle.std.proofs.Common.{◌≡◌, ℕ, zero, suc, ◌+◌, ◌<◌, Bool, true, false, List, [], ◌∷◌, ◌++◌, Result, Ok, Err, refl, sym, ◌∙◌, ap, ap₂, subst, arith, get_or, inl, inr}
use Rattle.std.specs.Prelude.{All, Contains, IsTrue, ◌⊎◌, nat_le, nat_lt, ◌||◌, ◌&&◌, ◌==◌}
use Rattle.std.proofs.lemmas.Bool.{leb-true, leb-false, le-leb, eqb-true, eq-eqb, ne_eqb}
use Rattle.std.proofs.lemmas.Bool.Decides.{leb_tells}
use Rattle.std.proofs.lemmas.List.Elements.{All-contains, Contains-get_or}
use Rattle.omf_frame.specs.Bytes.{AreBytes}
use Rattle.omf_frame.specs.Fault.{Fault, IsLeast, least_or, first_step, is_before, reason_number, broken, rule}
use Rattle.omf_frame.specs.Framing.{Raw, frame_steps, front_record}
use Rattle.omf_frame.specs.declared.fault.Reason.TheVariants as reason
use Rattle.omf_frame.proofs.FaultLaws.{least_is_least}
use Rattle.omf_frame.proofs.StepLaws.{first_one, first_parts}
use Rattle.omf_records.specs.Inner.LawProofs.{are_typed, meet}
use Rattle.omf_records.specs.Inner.Reading.{typed, read_body, fault_list, contents_or}
use Rattle.omf_records.specs.Inner.RecordReaders.{contents_whole}
use Rattle.omf_records.specs.Inner.Steps.{before_itself}
use Rattle.omf_records.specs.Layout.{Meets, fault}
use Rattle.omf_records.specs.Records.{contents, IsTyped}
use Rattle.omf_records.specs.Values.{Rec, Contents, Header, Iterated, width}
use Rattle.omf_records.proofs.LaidOut.{laid-out}
use Rattle.omf_image.proofs.LengthLaws.{blocks_read}
use Rattle.omf_image.specs.Blocks.{Blocks, blocks, blocks_size}
use Rattle.omf_image.specs.Inner.BlockReaders.{blocks_whole}
use Rattle.omf_image.specs.Inner.Expanding.{read_blocks, faults_of, blocks_or_none}
use Rattle.omf_image.specs.Laws.{IsLeastOf}
use Rattle.omf_image.specs.declared.limits.Limits.{Limits}
use Rattle.omf_check.specs.Inner.Faults.{faults_after, record_steps}
use Rattle.omf_check.specs.Inner.Names.{is_empty, moved, short_or_deep, too_long}
use Rattle.omf_check.specs.Refusal.{IsFirstFault, IsFirstOf, IsLayoutFault, IsTooLong, IsRuleFault, IsBlockFault, IsLengthFault, fault_from}
use Rattle.omf_check.specs.Rules.{rules}
use Rattle.omf_check.specs.WellFormed.{IsRecOf, recs}
use Rattle.omf_check.specs.declared.profile.Profile.{Profile}
use Rattle.omf_check.proofs.TreeLaws.{blocks_in, small_blocks}
use Rattle.omf_check.proofs.UniqueLaws.{nothing_least, first_once}
use Rattle.omf_check.proofs.WellLaws.{read-once, zipped}

-- Lists of faults.
some_none : (f : Fault) (fs : List Fault) → f ∷ fs ≡ [] → ⊥
some_none f fs e = cc

none_in : (fs : List Fault) → fs ≡ [] → (e : Fault) → Contains fs e → ⊥
none_in [] h e (k, low, is) = omega (arith, low)
none_in (f ∷ fs) h e c = some_none f fs h

pub no_fault : (fs : List Fault) → ((e : Fault) → Contains fs e → ⊥) → fs ≡ []
no_fault [] h = refl
no_fault (f ∷ fs) h = absurd (h f (0, omega arith, refl))

of_list : (fs : List Fault) (f : Fault) → IsLeast fs f → IsLeastOf (Contains fs) f
of_list fs f h = (h.0, λ g c. All-contains (λ x. IsTrue (is_before f x)) fs g h.1 c)

pub list_of : (fs : List Fault) (f : Fault) → IsLeastOf (Contains fs) f → IsLeast fs f
list_of fs f h = (h.0, λ k d low. h.1 (get_or fs k d) (Contains-get_or fs k d low))

only_one : (f g : Fault) → IsLeast (f ∷ []) g → f ≡ g
only_one f g ((zero, low, is), a) = is
only_one f g ((suc k, low, is), a) = absurd (omega (arith, low))

-- a fault later in the record by as much
clash : (b : Bool) → b ≡ true → b ≡ false → ⊥
clash b e h = cc

lt_same : (k a b : ℕ) → nat_lt (k + a) (k + b) ≡ nat_lt a b
lt_same k a b = elim (leb_tells (suc a) b) [
  | inl t ↦ le-leb (suc (k + a)) (k + b) (omega (arith, t.1)) ∙ sym t.0
  | inr t ↦ elim (leb_tells (suc (k + a)) (k + b)) [ inl s ↦ absurd (omega (arith, s.1, t.1)) | inr s ↦ s.0 ∙ sym t.0 ]
]

eq_same : (k a b : ℕ) (c : Bool) → a == b ≡ c → k + a == k + b ≡ a == b
eq_same k a b true e = let same = eqb-true a b e in eq-eqb (k + a) (k + b) (omega (arith, same)) ∙ sym e
eq_same k a b false e = ne_eqb (k + a) (k + b) (λ h. let same : a ≡ b = omega (arith, h) in clash (a == b) (eq-eqb a b same) e) ∙ sym e

shifted : (at : ℕ) (f g : Fault) → IsTrue (is_before f g) → IsTrue (is_before (fault_from at f) (fault_from at g))
shifted at f g h =
    ap₂ (λ x y. x || (y && nat_le (reason_number f.reason) (reason_number g.reason))) (lt_same at f.within g.within) (eq_same at f.within g.within (f.within == g.within) refl) ∙ h

moved_none : (at : ℕ) (fs : List Fault) → moved at fs ≡ [] → fs ≡ []
moved_none at [] h = refl
moved_none at (f ∷ fs) h = absurd (some_none (fault_from at f) (moved at fs) h)

front_first : (xs ys : List (List Fault)) (f : Fault) (fs : List Fault) → first_step xs ≡ f ∷ fs → first_step (xs ++ ys) ≡ f ∷ fs
front_first [] ys f fs e = absurd cc
front_first ([] ∷ xs) ys f fs e = front_first xs ys f fs e
front_first ((g ∷ gs) ∷ xs) ys f fs e = e

later_first : (xs ys : List (List Fault)) → first_step xs ≡ [] → first_step (xs ++ ys) ≡ first_step ys
later_first [] ys e = refl
later_first ([] ∷ xs) ys e = later_first xs ys e
later_first ((g ∷ gs) ∷ xs) ys e = absurd (some_none g gs e)

ok_err : {A : Type 0} (x : A) (e : Fault) → ◌≡◌ {A = Result A Fault} (Ok x) (Err e) → ⊥
ok_err x e h = cc

-- Blocks.
module _ (limits : Limits) (width at : ℕ) (bytes : List ℕ) (small : AreBytes bytes) where
  abbrev Deep : Fault → Type 0
  Deep e = (f : Fault) × (blocks width limits.nesting).Faults 0 bytes f × (e ≡ fault_from at f)

  abbrev Long : Fault → Type 0
  Long e = (trees : Blocks) × (blocks width limits.nesting).Spells 0 bytes trees × (limits.expanded < blocks_size trees) × (e ≡ fault_from at (fault 0 reason.DataTooLong))

  abbrev long_list : Result Blocks Fault → List Fault
  long_list q = moved at (broken (rule (nat_le (blocks_size (blocks_or_none q)) limits.expanded) 0 reason.DataTooLong ∷ []))

  deep-by : (q : Result Blocks Fault) → Meets (blocks width limits.nesting) 0 bytes q → (f : Fault) → IsLeast (moved at (faults_of q)) f → IsLeastOf Deep f
  deep-by (Ok trees) m f h = absurd (nothing_least f h)
  deep-by (Err g) m f h =
      subst (IsLeastOf Deep) (only_one (fault_from at g) f h)
      ((g, m.faulty, refl), λ e d. subst (λ x. IsTrue (is_before (fault_from at g) x)) (sym d.2) (shifted at g d.0 (m.first d.0 d.1)))

  deep-least : (f : Fault) → IsLeast (moved at (faults_of (read_blocks width limits.nesting bytes))) f → IsLeastOf Deep f
  deep-least f h = deep-by (read_blocks width limits.nesting bytes) (blocks_read width limits.nesting bytes small) f h

  trees-by : (q : Result Blocks Fault) → read_blocks width limits.nesting bytes ≡ q → faults_of q ≡ [] → (trees : Blocks) × (read_blocks width limits.nesting bytes ≡ Ok trees)
  trees-by (Ok trees) e h = (trees, e)
  trees-by (Err g) e h = absurd (some_none g [] h)

  trees-there : moved at (faults_of (read_blocks width limits.nesting bytes)) ≡ [] → (trees : Blocks) × (read_blocks width limits.nesting bytes ≡ Ok trees)
  trees-there h = trees-by (read_blocks width limits.nesting bytes) refl (moved_none at (faults_of (read_blocks width limits.nesting bytes)) h)

  deep-none : moved at (faults_of (read_blocks width limits.nesting bytes)) ≡ [] → (e : Fault) → Deep e → ⊥
  deep-none h e d =
      let t = trees-there h in
      let r = (blocks_whole width limits.nesting).refuses 0 bytes d.0 small d.1 in
      ok_err t.0 r.given (sym t.1 ∙ r.is)

  long-by : (trees : Blocks) → (blocks width limits.nesting).Spells 0 bytes trees → (b : Bool) → nat_le (blocks_size trees) limits.expanded ≡ b → (f : Fault)
      → IsLeast (moved at (broken (rule b 0 reason.DataTooLong ∷ []))) f → IsLeastOf Long f
  long-by trees sp true e f h = absurd (nothing_least f h)
  long-by trees sp false e f h =
      let low = leb-false (blocks_size trees) limits.expanded e in
      let d = fault_from at (fault 0 reason.DataTooLong) in
      subst (IsLeastOf Long) (only_one d f h) ((trees, sp, omega (arith, low), refl), λ x l. subst (λ y. IsTrue (is_before d y)) (sym l.3) (before_itself d))

  long-least : moved at (faults_of (read_blocks width limits.nesting bytes)) ≡ [] → (f : Fault) → IsLeast (long_list (read_blocks width limits.nesting bytes)) f → IsLeastOf Long f
  long-least none f h =
      let t = trees-there none in
      long-by t.0 ((blocks_whole width limits.nesting).ok 0 bytes t.0 small t.1) (nat_le (blocks_size t.0) limits.expanded) refl f (subst (λ q. IsLeast (long_list q) f) t.1 h)

module _ (limits : Limits) (width at : ℕ) (bytes : List ℕ) where
  abbrev within_list : Bool → List Fault
  within_list b = moved at (broken (rule b 0 reason.DataTooLong ∷ []))

  within-by : (b : Bool) → within_list b ≡ [] → b ≡ true
  within-by true h = refl
  within-by false h = absurd (some_none _ [] h)

  long-none : (q : Result Blocks Fault) → read_blocks width limits.nesting bytes ≡ q → within_list (nat_le (blocks_size (blocks_or_none q)) limits.expanded) ≡ []
      → (trees : Blocks) → (blocks width limits.nesting).Spells 0 bytes trees → limits.expanded < blocks_size trees → ⊥
  long-none q e h trees sp low =
      let same : q ≡ Ok trees = sym e ∙ (blocks_whole width limits.nesting).again 0 bytes trees sp in
      let short = leb-true (blocks_size trees) limits.expanded (within-by (nat_le (blocks_size trees) limits.expanded) (subst (λ x. within_list (nat_le (blocks_size (blocks_or_none x)) limits.expanded) ≡ []) same h)) in
      omega (arith, low, short)

module _ (limits : Limits) (kind : ℕ) where
  block-least : (c : Contents) → AreBytes (blocks_in c) → (f : Fault) → IsLeast (short_or_deep limits kind c) f → IsLeastOf (IsBlockFault limits kind c) f
  block-least (Iterated d) small f h = deep-least limits (width kind) (d.offset.within + width kind) d.bytes small f h
  block-least (Header n) small f h = absurd (nothing_least f h)
  block-least _ small f h = absurd (nothing_least f h)

  block-none : (c : Contents) → AreBytes (blocks_in c) → short_or_deep limits kind c ≡ [] → (e : Fault) → IsBlockFault limits kind c e → ⊥
  block-none (Iterated d) small h e b = deep-none limits (width kind) (d.offset.within + width kind) d.bytes small h e b
  block-none (Header n) small h e b = b
  block-none _ small h e b = b

  length-least : (c : Contents) → AreBytes (blocks_in c) → short_or_deep limits kind c ≡ [] → (f : Fault) → IsLeast (too_long limits kind c) f → IsLeastOf (IsLengthFault limits kind c) f
  length-least (Iterated d) small none f h = long-least limits (width kind) (d.offset.within + width kind) d.bytes small none f h
  length-least (Header n) small none f h = absurd (nothing_least f h)
  length-least _ small none f h = absurd (nothing_least f h)

  length-none : (c : Contents) → too_long limits kind c ≡ [] → (e : Fault) → IsLengthFault limits kind c e → ⊥
  length-none (Iterated d) h e l = long-none limits (width kind) (d.offset.within + width kind) d.bytes (read_blocks (width kind) limits.nesting d.bytes) refl h l.0 l.1 l.2
  length-none (Header n) h e l = l
  length-none _ h e l = l

-- The layout of a record.
module _ (limits : Limits) (r : Raw) where
  abbrev layout_list : Result Contents Fault → List Fault
  layout_list q = fault_list q ++ short_or_deep limits r.kind (contents_or r.body q)

  typed-is : (t : Rec) → IsRecOf t r → t ≡ typed r
  typed-is t is = (are_typed r t is.0 is.1).0

  not-typed : (t : Rec) → IsRecOf t r → (g : Fault) → read_body r.kind r.body ≡ Err g → ⊥
  not-typed t is g e = some_none g [] (sym (ap fault_list e) ∙ (are_typed r t is.0 is.1).1)

  abbrev typed_by : Result Contents Fault → Rec
  typed_by q = record { kind = r.kind; contents = contents_or r.body q }

  module _ (small : AreBytes r.body) where
    met : (q : Result Contents Fault) → read_body r.kind r.body ≡ q → Meets (contents r.kind) 3 r.body q
    met q e = subst (Meets (contents r.kind) 3 r.body) e (meet r.kind r.body small)

    small-in : (c : Contents) → (contents r.kind).Spells 3 r.body c → AreBytes (blocks_in c)
    small-in c sp = small_blocks r.kind 3 r.body c small (laid-out r.kind 3 r.body c sp)

    no-layout-fault : (c : Contents) → read_body r.kind r.body ≡ Ok c → (e : Fault) → (contents r.kind).Faults 3 r.body e → ⊥
    no-layout-fault c e x q = let w = (contents_whole r.kind).refuses 3 r.body x small q in ok_err c w.given (sym e ∙ w.is)

    block-of : (c : Contents) → read_body r.kind r.body ≡ Ok c → (t : Rec) → IsRecOf t r → (e : Fault) → IsBlockFault limits t.kind t.contents e → IsBlockFault limits r.kind c e
    block-of c e t is x b = subst (λ y. IsBlockFault limits y.kind y.contents x) (typed-is t is ∙ ap typed_by e) b

    layout-by : (q : Result Contents Fault) → read_body r.kind r.body ≡ q → (f : Fault) → IsLeast (layout_list q) f → IsLeastOf (IsLayoutFault limits r) f
    layout-by (Err g) e f h =
        let m = met (Err g) e in
        subst (IsLeastOf (IsLayoutFault limits r)) (only_one g f h)
        ((small, inl m.faulty), λ x l. elim l.1 [ inl q ↦ m.first x q | inr b ↦ absurd (not-typed b.0 b.1 g e) ])
    layout-by (Ok c) e f h =
        let sp = (met (Ok c) e).spelled in
        let d = block-least limits r.kind c (small-in c sp) f h in
        ((small, inr (typed_by (Ok c), (refl, sp), d.0)), λ x l. elim l.1 [ inl q ↦ absurd (no-layout-fault c e x q) | inr b ↦ d.1 x (block-of c e b.0 b.1 x b.2) ])

    layout-least : (f : Fault) → IsLeast (layout_list (read_body r.kind r.body)) f → IsLeastOf (IsLayoutFault limits r) f
    layout-least f h = layout-by (read_body r.kind r.body) refl f h

    none-by : (q : Result Contents Fault) → read_body r.kind r.body ≡ q → layout_list q ≡ [] → (e : Fault) → (contents r.kind).Faults 3 r.body e ⊎ ((t : Rec) × IsRecOf t r × IsBlockFault limits t.kind t.contents e) → ⊥
    none-by (Err g) e h x l = some_none g [] h
    none-by (Ok c) e h x (inl q) = no-layout-fault c e x q
    none-by (Ok c) e h x (inr b) = block-none limits r.kind c (small-in c (met (Ok c) e).spelled) h x (block-of c e b.0 b.1 x b.2)

    spelled-by : (q : Result Contents Fault) → read_body r.kind r.body ≡ q → layout_list q ≡ [] → IsTyped (typed_by q) r.body × (short_or_deep limits r.kind (contents_or r.body q) ≡ [])
    spelled-by (Err g) e h = absurd (some_none g [] h)
    spelled-by (Ok c) e h = ((met (Ok c) e).spelled, h)

    spelled-here : layout_list (read_body r.kind r.body) ≡ [] → IsTyped (typed r) r.body × (short_or_deep limits r.kind (typed r).contents ≡ [])
    spelled-here h = spelled-by (read_body r.kind r.body) refl h

  layout-none : layout_list (read_body r.kind r.body) ≡ [] → (e : Fault) → IsLayoutFault limits r e → ⊥
  layout-none h e l = none-by l.0 (read_body r.kind r.body) refl h e l.1

  abbrev long_faults : List Fault
  long_faults = too_long limits r.kind (typed r).contents

  too-long-of : (t : Rec) → IsRecOf t r → (e : Fault) → IsLengthFault limits t.kind t.contents e → IsLengthFault limits r.kind (typed r).contents e
  too-long-of t is e l = subst (λ y. IsLengthFault limits y.kind y.contents e) (typed-is t is) l

  too-long-least : AreBytes r.body → layout_list (read_body r.kind r.body) ≡ [] → (f : Fault) → IsLeast long_faults f → IsLeastOf (IsTooLong limits r) f
  too-long-least small none f h =
      let sp = spelled-here small none in
      let l = length-least limits r.kind (typed r).contents (small-in small (typed r).contents sp.0) sp.1 f h in
      ((typed r, (refl, sp.0), l.0), λ x b. l.1 x (too-long-of b.0 b.1 x b.2))

  too-long-none : long_faults ≡ [] → (e : Fault) → IsTooLong limits r e → ⊥
  too-long-none h e b = length-none limits r.kind (typed r).contents h e (too-long-of b.0 b.1 e b.2)

abbrev pub IsSpelled : Raw → Type 0
IsSpelled r = IsTyped (typed r) r.body

module _ (profile : Profile) (limits : Limits) (before : List Raw) where
  abbrev broken_of : Raw → List Fault
  broken_of r = broken (rules profile limits (recs before) (typed r))

  rule-of : (r : Raw) (e : Fault) → IsRuleFault profile limits before r e → Contains (broken_of r) e
  rule-of r e b =
      subst (λ t. Contains (broken (rules profile limits (recs before) t)) e) (typed-is limits r b.1 b.3)
      (subst (λ m. Contains (broken (rules profile limits m b.1)) e) (read-once b.0 before b.2) b.4)

  rule-least : (r : Raw) → All IsSpelled before → IsSpelled r → (f : Fault) → IsLeast (broken_of r) f → IsLeastOf (IsRuleFault profile limits before r) f
  rule-least r spelled is f h =
      ((recs before, typed r, zipped before spelled, (refl, is), h.0), λ x b. All-contains (λ y. IsTrue (is_before f y)) (broken_of r) x h.1 (rule-of r x b))

  rule-none : (r : Raw) → broken_of r ≡ [] → (e : Fault) → IsRuleFault profile limits before r e → ⊥
  rule-none r h e b = none_in (broken_of r) h e (rule-of r e b)

  module _ (bytes : List ℕ) where
    abbrev r : Raw
    r = front_record bytes

    abbrev framing : List Fault
    framing = first_step (frame_steps (is_empty before) bytes)

    abbrev layout : List Fault
    layout = layout_list limits r (read_body r.kind r.body)

    abbrev Later : Fault → Type 0
    Later = IsFirstOf (IsTooLong limits r) (IsLeastOf (IsRuleFault profile limits before r))

    by-rules : (cs : List Fault) → broken_of r ≡ cs → All IsSpelled before → IsSpelled r → (f : Fault) → IsLeast (first_step (cs ∷ [])) f → IsLeastOf (IsRuleFault profile limits before r) f
    by-rules [] e spelled is f h = absurd (nothing_least f h)
    by-rules (c ∷ cs) e spelled is f h = rule-least r spelled is f (subst (λ fs. IsLeast fs f) (sym e) h)

    by-length : (bs : List Fault) → long_faults limits r ≡ bs → AreBytes r.body → layout ≡ [] → All IsSpelled before → (f : Fault) → IsLeast (first_step (bs ∷ broken_of r ∷ [])) f → Later f
    by-length [] e small none spelled f h = inr (too-long-none limits r e, by-rules (broken_of r) refl spelled (spelled-here limits r small none).0 f h)
    by-length (b ∷ bs) e small none spelled f h = inl (too-long-least limits r small none f (subst (λ fs. IsLeast fs f) (sym e) h))

    by-layout : (ls : List Fault) → layout ≡ ls → AreBytes r.body → All IsSpelled before → (f : Fault) → IsLeast (first_step (ls ∷ long_faults limits r ∷ broken_of r ∷ [])) f
        → IsFirstOf (IsLayoutFault limits r) Later f
    by-layout [] e small spelled f h = inr (layout-none limits r e, by-length (long_faults limits r) refl small e spelled f h)
    by-layout (l ∷ ls) e small spelled f h = inl (layout-least limits r small f (subst (λ fs. IsLeast fs f) (sym e) h))

    by-framing : (fs : List Fault) → framing ≡ fs → (framing ≡ [] → AreBytes r.body) → All IsSpelled before → (f : Fault) → IsLeast (faults_after profile limits before bytes) f → IsFirstFault profile limits before bytes f
    by-framing [] e small spelled f h =
        inr (none_in framing e, by-layout layout refl (small e) spelled f (subst (λ fs. IsLeast fs f) (later_first (frame_steps (is_empty before) bytes) (record_steps profile limits before r) e) h))
    by-framing (g ∷ gs) e small spelled f h =
        let same = front_first (frame_steps (is_empty before) bytes) (record_steps profile limits before r) g gs e in
        inl (of_list framing f (subst (λ fs. IsLeast fs f) (same ∙ sym e) h))

    -- The least fault that is computed is the first.
    pub first-fault : (framing ≡ [] → AreBytes r.body) → All IsSpelled before → (f : Fault) → IsLeast (faults_after profile limits before bytes) f → IsFirstFault profile limits before bytes f
    first-fault small spelled f h = by-framing framing refl small spelled f h

    -- Where none is computed there is none.
    pub none-first : faults_after profile limits before bytes ≡ [] → (f : Fault) → IsFirstFault profile limits before bytes f → ⊥
    none-first e f h =
        let parts = first_parts (frame_steps (is_empty before) bytes) (record_steps profile limits before r) e in
        let one = first_one layout (long_faults limits r ∷ broken_of r ∷ []) parts.1 in
        let two = first_one (long_faults limits r) (broken_of r ∷ []) one.1 in
        let three = first_one (broken_of r) [] two.1 in
        elim h [
          | inl x ↦ none_in framing parts.0 f x.0
          | inr x ↦ elim x.1 [
            | inl y ↦ layout-none limits r one.0 f y.0
            | inr y ↦ elim y.1 [ inl z ↦ too-long-none limits r two.0 f z.0 | inr z ↦ rule-none r three.0 f z.1.0 ]
          ]
        ]

    -- and the first is the least that is computed
    least-by : (fs : List Fault) → faults_after profile limits before bytes ≡ fs → (framing ≡ [] → AreBytes r.body) → All IsSpelled before → (f : Fault) → IsFirstFault profile limits before bytes f → IsLeast fs f
    least-by [] e small spelled f h = absurd (none-first e f h)
    least-by (g ∷ gs) e small spelled f h =
        let l = least_is_least g gs in
        subst (IsLeast (g ∷ gs)) (first_once profile limits before bytes (least_or g gs) f (first-fault small spelled (least_or g gs) (subst (λ fs. IsLeast fs (least_or g gs)) (sym e) l)) h) l

    pub least-fault : (framing ≡ [] → AreBytes r.body) → All IsSpelled before → (f : Fault) → IsFirstFault profile limits before bytes f → IsLeast (faults_after profile limits before bytes) f
    least-fault small spelled f h = least-by (faults_after profile limits before bytes) refl small spelled f h

    none-by-first : (fs : List Fault) → faults_after profile limits before bytes ≡ fs → (framing ≡ [] → AreBytes r.body) → All IsSpelled before
        → ((f : Fault) → IsFirstFault profile limits before bytes f → ⊥) → fs ≡ []
    none-by-first [] e small spelled h = refl
    none-by-first (g ∷ gs) e small spelled h = absurd (h (least_or g gs) (first-fault small spelled (least_or g gs) (subst (λ fs. IsLeast fs (least_or g gs)) (sym e) (least_is_least g gs))))

    -- where there is none, none is computed
    pub none-computed : (framing ≡ [] → AreBytes r.body) → All IsSpelled before → ((f : Fault) → IsFirstFault profile limits before bytes f → ⊥) → faults_after profile limits before bytes ≡ []
    none-computed small spelled h = none-by-first (faults_after profile limits before bytes) refl small spelled h

    -- and its contents are spelled
    framed-by : (fs : List Fault) → framing ≡ fs → ((f : Fault) → IsFirstFault profile limits before bytes f → ⊥) → fs ≡ []
    framed-by [] e h = refl
    framed-by (g ∷ gs) e h = absurd (h (least_or g gs) (inl (subst (λ fs. IsLeastOf (Contains fs) (least_or g gs)) (sym e) (of_list (g ∷ gs) (least_or g gs) (least_is_least g gs)))))

    laid-by : (fs : List Fault) → layout ≡ fs → AreBytes r.body → framing ≡ [] → ((f : Fault) → IsFirstFault profile limits before bytes f → ⊥) → fs ≡ []
    laid-by [] e small none h = refl
    laid-by (g ∷ gs) e small none h =
        absurd (h (least_or g gs) (inr (none_in framing none, inl (layout-least limits r small (least_or g gs) (subst (λ fs. IsLeast fs (least_or g gs)) (sym e) (least_is_least g gs))))))

    pub clean-spelled : AreBytes r.body → ((f : Fault) → IsFirstFault profile limits before bytes f → ⊥) → IsSpelled r
    clean-spelled small h = (spelled-here limits r small (laid-by layout refl small (framed-by framing refl h) h)).0
