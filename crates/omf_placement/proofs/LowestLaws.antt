-- The computed lowest place is the defined one.
use Rattle.std.proofs.Common.{◌≡◌, ℕ, ◌<◌, ◌≤◌, List, [], ◌∷◌, ◌++◌, refl, sym, ap, ap₂, ◌∙◌, subst, inl, inr, arith}
use Rattle.std.specs.Prelude.{All, Option, Some, None, option_map, option_and_then, map}
use Rattle.std.proofs.lemmas.Bool.{le-leb, lt-leb}
use Rattle.std.proofs.lemmas.Bool.Decides.{leb_tells}
use Rattle.std.proofs.lemmas.List.Elements.{All-nil, All-cons, All-head, All-tail, All-append, All-same, All-weaker}
use Rattle.std.proofs.lemmas.Option.{none-some, same_Some, option_and_then_some}
use Rattle.omf_records.specs.Values.{At, GroupItem, Rec}
use Rattle.omf_check.specs.Tables.{groups, entry}
use Rattle.omf_placement.specs.declared.frame.Frame.{Frame}
use Rattle.omf_placement.specs.Laws.{IsLowest, TakesFrame}
use Rattle.omf_placement.specs.Placement.{Placed, lowest, members_placed, real_group}
use Rattle.omf_placement.specs.Inner.Names.{lower}
use Rattle.omf_placement.proofs.GroupLaws.{if_low, if_high}

-- A function's result for some value.
map_some : {A B P : Type 0} (f : A → B) (o : Option A) (y : B) → option_map f o ≡ Some y → ((x : A) → o ≡ Some x → f x ≡ y → P) → P
map_some f None y h k = absurd (none-some y h)
map_some f (Some x) y h k = k x refl (same_Some (f x) y h)

abbrev Above : ℕ → List Placed → Type 0
Above n ps = All (λ q. n ≤ q.address) ps

-- no place is below the lowest
all_above : (ps : List Placed) (p : Placed) → IsLowest ps p → Above p.address ps
all_above ps p h =
    All-same (λ q. p.address ≤ q.address) ps _ h.all (All-append (λ q. p.address ≤ q.address) h.before (p ∷ h.after)
    (All-weaker (λ q. p.address < q.address) (λ q. p.address ≤ q.address) (λ q k. omega arith) h.before h.higher)
    (All-cons (λ q. p.address ≤ q.address) p h.after (omega arith) h.not_lower))

above_more : (a b : ℕ) (ps : List Placed) → a ≤ b → Above b ps → Above a ps
above_more a b ps h k = All-weaker (λ q. b ≤ q.address) (λ q. a ≤ q.address) (λ q l. omega arith) ps k

none_lowest : (ps : List Placed) → lowest ps ≡ None → ps ≡ []
none_lowest [] e = refl
none_lowest (p ∷ ps) e = absurd cc

front_lowest : (p q : Placed) (ps : List Placed) → p ≡ q → Above q.address ps → IsLowest (q ∷ ps) p
front_lowest p q ps e h = subst (λ x. IsLowest (q ∷ ps) x) (sym e) (record { before = []; after = ps; all = refl; higher = All-nil (λ x. q.address < x.address); not_lower = h })

lower-from : (q : Placed) (ps : List Placed) (p : Placed) (o : Option Placed) → lowest ps ≡ o → lower q o ≡ p → ((r : Placed) → lowest ps ≡ Some r → IsLowest ps r) → IsLowest (q ∷ ps) p
lower-from q ps p None n e k = front_lowest p q ps (sym e) (subst (λ x. Above q.address x) (sym (none_lowest ps n)) (All-nil (λ x. q.address ≤ x.address)))
lower-from q ps p (Some r) n e k =
    let h = k r n in
    elim (leb_tells q.address r.address) [
      | inl t ↦ front_lowest p q ps (sym e ∙ if_low q r t.0) (above_more q.address r.address ps t.1 (all_above ps r h))
      | inr t ↦ subst (λ x. IsLowest (q ∷ ps) x) (sym (if_high q r t.0) ∙ e) (record {
        before = q ∷ h.before;
        after = h.after;
        all = ap (λ xs. q ∷ xs) h.all;
        higher = All-cons (λ x. r.address < x.address) q h.before t.1 h.higher;
        not_lower = h.not_lower;
      })
    ]

lowest-from : (ps : List Placed) (p : Placed) → lowest ps ≡ Some p → IsLowest ps p
lowest-from [] p e = absurd (none-some p e)
lowest-from (q ∷ ps) p e = lower-from q ps p (lowest ps) refl (same_Some _ p e) (λ r n. lowest-from ps r n)

-- And back: a place that is no higher than those after it, and lower than those before it, is the lowest.
within : (b : List Placed) (r : Placed) (a ps : List Placed) (n : ℕ) → ps ≡ b ++ r ∷ a → Above n ps → n ≤ r.address
within [] r a ps n e h = All-head (λ q. n ≤ q.address) r a (All-same (λ q. n ≤ q.address) _ ps (sym e) h)
within (q ∷ b) r a ps n e h = within b r a (b ++ r ∷ a) n refl (All-tail (λ x. n ≤ x.address) q (b ++ r ∷ a) (All-same (λ x. n ≤ x.address) _ ps (sym e) h))

stays : (p : Placed) (ps : List Placed) (o : Option Placed) → lowest ps ≡ o → Above p.address ps → lower p o ≡ p
stays p ps None n h = refl
stays p ps (Some r) n h = let k = lowest-from ps r n in if_low p r (le-leb p.address r.address (within k.before r k.after ps p.address k.all h))

lowest-to : (before after : List Placed) (p : Placed) → All (λ q. p.address < q.address) before → Above p.address after → lowest (before ++ p ∷ after) ≡ Some p
lowest-to [] after p h k = ap Some (stays p after (lowest after) refl k)
lowest-to (q ∷ before) after p h k =
    ap (λ o. Some (lower q o)) (lowest-to before after p (All-tail (λ x. p.address < x.address) q before h) k)
    ∙ ap Some (if_high q p (lt-leb q.address p.address (All-head (λ x. p.address < x.address) q before h)))

-- Members that all have a place.
placed-from : (xs : List Placed) (ms : List (At (At ℕ))) (ps : List Placed) → members_placed xs ms ≡ Some ps → map (λ x. entry xs x.item.item) ms ≡ map Some ps
placed-from xs [] ps e = subst (λ t. [] ≡ map Some t) (same_Some [] ps e) refl
placed-from xs (m ∷ ms) ps e =
    option_and_then_some _ (entry xs m.item.item) ps e (λ p found more. map_some _ (members_placed xs ms) ps more (λ rest placed same.
    subst (λ t. entry xs m.item.item ∷ map (λ x. entry xs x.item.item) ms ≡ map Some t) same (ap₂ (λ a b. a ∷ b) found (placed-from xs ms rest placed))))

placed-to : (xs : List Placed) (ms : List (At (At ℕ))) (ps : List Placed) → map (λ x. entry xs x.item.item) ms ≡ map Some ps → members_placed xs ms ≡ Some ps
placed-to xs [] [] e = refl
placed-to xs [] (p ∷ ps) e = absurd cc
placed-to xs (m ∷ ms) [] e = absurd cc
placed-to xs (m ∷ ms) (p ∷ ps) e =
    let found : entry xs m.item.item ≡ Some p = cc in
    let rest : map (λ x. entry xs x.item.item) ms ≡ map Some ps = cc in
    ap (option_and_then (λ q. option_map (λ t. q ∷ t) (members_placed xs ms))) found ∙ ap (option_map (λ t. p ∷ t)) (placed-to xs ms ps rest)

pub takes-from : (m : List Rec) (xs : List Placed) (i : ℕ) (f : Frame) → real_group m xs i ≡ Some f → TakesFrame m xs i f
takes-from m xs i f e =
    map_some (λ (p : Placed). p.frame) (option_and_then lowest (option_and_then (λ (g : GroupItem). members_placed xs g.members) (entry (groups m) i))) f e (λ p low same.
    option_and_then_some lowest (option_and_then (λ (g : GroupItem). members_placed xs g.members) (entry (groups m) i)) p low (λ ps placed lowest_of.
    option_and_then_some (λ (g : GroupItem). members_placed xs g.members) (entry (groups m) i) ps placed (λ g defined members. record {
      group = g;
      defined = defined;
      members = ps;
      each_placed = placed-from xs g.members ps members;
      member = p;
      is_lowest = lowest-from ps p lowest_of;
      frame = same;
    })))

pub takes-to : (m : List Rec) (xs : List Placed) (i : ℕ) (f : Frame) → TakesFrame m xs i f → real_group m xs i ≡ Some f
takes-to m xs i f h =
    let low = h.is_lowest in
    ap (λ o. option_map (λ (p : Placed). p.frame) (option_and_then lowest (option_and_then (λ (g : GroupItem). members_placed xs g.members) o))) h.defined
    ∙ ap (λ o. option_map (λ (p : Placed). p.frame) (option_and_then lowest o)) (placed-to xs h.group.members h.members h.each_placed)
    ∙ ap (λ ps. option_map (λ (p : Placed). p.frame) (lowest ps)) low.all
    ∙ ap (option_map (λ (p : Placed). p.frame)) (lowest-to low.before low.after h.member low.higher low.not_lower)
    ∙ ap Some h.frame
