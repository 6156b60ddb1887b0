-- The memory that segments take, one segment after the other.
use Rattle.std.proofs.Common.{◌≡◌, ℕ, ◌+◌, ◌⊎◌, ◌<◌, ◌≤◌, List, [], ◌∷◌, Bool, true, false, cond, map, max, min, refl, sym, ◌∙◌, ap, ap₂, ⊎_elim, inl, inr, arith}
use Rattle.std.specs.Prelude.{Option, Some, None, ◌&&◌, filter, filter_map, fold, nat_lt, not, sum_by, zip}
use Rattle.std.specs.Option.{option_or}
use Rattle.std.proofs.Math.Nat.{min-eq_left, min-eq_right}
use Rattle.std.proofs.lemmas.Bool.{cases_lt}
use Rattle.std.proofs.lemmas.List.Sums.{fold-append}
use Rattle.omf_records.specs.Values.{SegmentItem}
use Rattle.omf_placement.specs.declared.frame.Placed.{Placed}
use Rattle.omf_output.specs.declared.exe.room.Stack.{Stack}
use Rattle.omf_output.specs.Inner.Rooms.{Room, no_room, with_portion, with_stack}
use Rattle.omf_output.specs.Exe.Com.{size_of, without_stack}
use Rattle.omf_output.specs.Exe.Members.{Member, Portion, has_byte, joined, lower, of_parts, portion, portions, portions_in, stack}

abbrev grown : Option Stack → Portion → Option Stack
grown o p = Some (with_stack o p)

-- One part more is the lowest so far, or is not.
part-more : (l : Portion) (n : ℕ) (p : Portion) → with_stack (Some (of_parts l n)) p ≡ of_parts (lower l p) (max n p.end)
part-more l n p = by (nat_lt p.place.address l.place.address)
  where
    by : (b : Bool) → cond b (of_parts p (max n p.end)) (of_parts l (max n p.end)) ≡ of_parts (cond b p l) (max n p.end)
    by true = refl
    by false = refl

parts-grown : (l : Portion) (n : ℕ) (ps : List Portion) → fold grown (Some (of_parts l n)) ps ≡ Some (of_parts (fold lower l ps) (fold max n (map (λ p. p.end) ps)))
parts-grown l n [] = refl
parts-grown l n (p ∷ ps) = ap (λ s. fold grown (Some s) ps) (part-more l n p) ∙ parts-grown (lower l p) (max n p.end) ps

stack-joined : (ps : List Portion) → fold grown None ps ≡ joined ps
stack-joined [] = refl
stack-joined (p ∷ ps) = parts-grown p p.end ps

pub ends-fold : (room : Room) (ps : List Portion) → (fold with_portion room ps).end ≡ fold max room.end (map (λ p. p.end) ps)
ends-fold room [] = refl
ends-fold room (p ∷ ps) = ends-fold (with_portion room p) ps

pub own-fold : (room : Room) (ps : List Portion) → (fold with_portion room ps).own_end ≡ fold max room.own_end (map (λ p. p.end) (without_stack ps))
own-fold room [] = refl
own-fold room (p ∷ ps) = own-fold (with_portion room p) ps ∙ by p.is_stack
  where
    by : (b : Bool) → fold max (cond b room.own_end (max room.own_end p.end)) (map (λ q. q.end) (without_stack ps))
        ≡ fold max room.own_end (map (λ q. q.end) (cond (not b) (p ∷ without_stack ps) (without_stack ps)))
    by true = refl
    by false = refl

grown-by : (b : Bool) (o : Option Stack) (p : Portion) (ps : List Portion) → fold grown (cond b (Some (with_stack o p)) o) ps ≡ fold grown o (cond b (p ∷ ps) ps)
grown-by true o p ps = refl
grown-by false o p ps = refl

filled-fold : (room : Room) (ps : List Portion) → (fold with_portion room ps).filled ≡ fold grown room.filled (filter (λ p. p.is_stack && has_byte p) ps)
filled-fold room [] = refl
filled-fold room (p ∷ ps) = filled-fold (with_portion room p) ps ∙ grown-by (p.is_stack && has_byte p) room.filled p (filter (λ q. q.is_stack && has_byte q) ps)

empty-fold : (room : Room) (ps : List Portion) → (fold with_portion room ps).empty ≡ fold grown room.empty (filter (λ p. p.is_stack && not (has_byte p)) ps)
empty-fold room [] = refl
empty-fold room (p ∷ ps) = empty-fold (with_portion room p) ps ∙ grown-by (p.is_stack && not (has_byte p)) room.empty p (filter (λ q. q.is_stack && not (has_byte q)) ps)

pub stack-is : (ps : List Portion) → option_or (fold with_portion no_room ps).filled (fold with_portion no_room ps).empty ≡ stack ps
stack-is ps = ap₂ (λ (a : Option Stack) b. option_or a b)
    (filled-fold no_room ps ∙ stack-joined (filter (λ p. p.is_stack && has_byte p) ps))
    (empty-fold no_room ps ∙ stack-joined (filter (λ p. p.is_stack && not (has_byte p)) ps))

abbrev stack_length : ℕ → Portion → ℕ
stack_length n p = min (n + size_of p) 65536

-- A sum that is cut at each step is the sum, cut once.
cut-again : (a b c : ℕ) → min (min a c + b) c ≡ min (a + b) c
cut-again a b c = ⊎_elim
    (λ (h : a ≤ c). ap (λ x. min (x + b) c) (min-eq_left h))
    (λ (h : c < a).
    let under : c ≤ a = omega (arith, h) in
    let one : c ≤ c + b = omega arith in
    let both : c ≤ a + b = omega (arith, h) in
    ap (λ x. min (x + b) c) (min-eq_right under) ∙ min-eq_right one ∙ sym (min-eq_right both))
    (by_size a c)
  where
    by_size : (a c : ℕ) → (a ≤ c) ⊎ (c < a)
    by_size a c = ⊎_elim (λ h. inr h) (λ h. inl h) (cases_lt c a)

cut-sum : (a n : ℕ) (ps : List Portion) → a ≡ min n 65536 → fold stack_length a ps ≡ min (fold (λ s p. s + size_of p) n ps) 65536
cut-sum a n [] e = e
cut-sum a n (p ∷ ps) e = cut-sum (stack_length a p) (n + size_of p) ps (ap (λ x. min (x + size_of p) 65536) e ∙ cut-again n (size_of p) 65536)

length-fold : (room : Room) (ps : List Portion) → (fold with_portion room ps).stack_len ≡ fold stack_length room.stack_len (filter (λ p. p.is_stack) ps)
length-fold room [] = refl
length-fold room (p ∷ ps) = length-fold (with_portion room p) ps ∙ by p.is_stack
  where
    by : (b : Bool) → fold stack_length (cond b (stack_length room.stack_len p) room.stack_len) (filter (λ q. q.is_stack) ps)
        ≡ fold stack_length room.stack_len (cond b (p ∷ filter (λ q. q.is_stack) ps) (filter (λ q. q.is_stack) ps))
    by true = refl
    by false = refl

pub length-summed : (ps : List Portion) → (fold with_portion no_room ps).stack_len ≡ min (sum_by size_of (filter (λ p. p.is_stack) ps)) 65536
length-summed ps = length-fold no_room ps ∙ cut-sum 0 0 (filter (λ p. p.is_stack) ps) refl

-- One module more, and none.
pub room-more : (m : Member) (rest ms : List Member) (room more whole : Room) → ms ≡ m ∷ rest → more ≡ fold with_portion room (portions_in m) → fold with_portion room (portions ms) ≡ whole
    → fold with_portion more (portions rest) ≡ whole
room-more m rest ms room more whole e f h =
    ap (λ r. fold with_portion r (portions rest)) f ∙ sym (ap (λ l. fold with_portion room (portions l)) e ∙ fold-append with_portion room (portions_in m) (portions rest)) ∙ h

pub whole-room : (ms left : List Member) (room : Room) → left ≡ [] → fold with_portion room (portions left) ≡ fold with_portion no_room (portions ms) → room ≡ fold with_portion no_room (portions ms)
whole-room ms left room e h = sym (ap (λ l. fold with_portion room (portions l)) e) ∙ h

pub zip-none : (xs : List Placed) (ds : List (ℕ × SegmentItem)) → ds ≡ [] → filter_map portion (zip xs ds) ≡ []
zip-none [] ds e = refl
zip-none (x ∷ xs) [] e = refl
zip-none (x ∷ xs) (d ∷ ds) e = absurd cc
