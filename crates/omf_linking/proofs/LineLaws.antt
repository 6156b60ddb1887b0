-- The lines of a text that are left.
use denote.Ref.{Bor}
use Rattle.std.proofs.Common.{◌≡◌, ℕ, ◌+◌, ◌<◌, ◌≤◌, List, [], ◌∷◌, ◌++◌, length, refl, sym, ap, ◌∙◌, arith}
use Rattle.std.specs.Prelude.{map, filter_map, slice_get, Option, Some, None, option_map, Result, Ok, Err, IfSome}
use Rattle.std.specs.List.{enumerate_from}
use Rattle.omf_records.specs.Values.{Rec}
use Rattle.omf_records.specs.Inner.Seen.{map_ok}
use Rattle.omf_linking.specs.Inner.Walking.{AreLines, IsTaken}
use Rattle.omf_linking.specs.Locator.Items.{Item, items_of, items_after}
use Rattle.omf_linking.specs.Locator.LinkEntries.{LinkEntry, Line, bad_line, link_entry_on, link_lines}
use Rattle.omf_linking.specs.Locator.Sparse.{IsOutcome}
use Rattle.omf_linking.specs.Locator.Sparse.{Sparse, bad_lines, sparse_all, unless_bad}
use Rattle.omf_linking.specs.declared.locator.fault.LineFault.{LineFault}
use Rattle.omf_linking.specs.declared.locator.fault.LineFault.TheVariants as why
use Rattle.omf_linking.specs.declared.locator.fault.LocatorFault.{LocatorFault}
use Rattle.omf_linking.specs.declared.locator.fault.LocatorFault.TheVariants as fault
use Rattle.omf_linking.specs.declared.locator.lines.Lines.{Lines}

-- lines with their entries, of which the first has this number
abbrev pub lines_from : ℕ → List (List ℕ) → List Line
lines_from n ls = map (λ l. (l.0, link_entry_on l.1)) (enumerate_from n ls)

-- the length of the text that is left, its end included
abbrev pub left_len : Option (List ℕ) → ℕ
left_len None = 0
left_len (Some text) = length text + 1

pub left_shorter : (o : Option (Bor (List ℕ))) (n : ℕ) → IfSome o (λ t. length t.now < n) → left_len (option_map (λ t. t.now) o) ≤ n
left_shorter None n h = omega arith
left_shorter (Some t) n h = omega (arith, h)

-- ---- the first line that is no entry

abbrev pub IsFine : List ℕ → List Line → Type 0
IsFine text left = slice_get (filter_map bad_line left) 0 ≡ slice_get (bad_lines text) 0

pub line_fine : (text : List ℕ) (n : ℕ) (line : List ℕ) (lines rest : List (List ℕ)) (e : LinkEntry) → IsFine text (lines_from n lines) → lines ≡ line ∷ rest → link_entry_on line ≡ Some e → IsFine text (lines_from (n + 1) rest)
line_fine text n line lines rest e h s r = let g = rw s at h in rw r at g

pub line_bad : (text : List ℕ) (n : ℕ) (line : List ℕ) (lines rest : List (List ℕ)) → IsFine text (lines_from n lines) → lines ≡ line ∷ rest → link_entry_on line ≡ None → Some n ≡ slice_get (bad_lines text) 0
line_bad text n line lines rest h s r = let g = rw s at h in rw r at g

-- ---- the items of lines

abbrev pub AreTaken : List (List Rec) → List ℕ → Lines → List Line → Type 0
AreTaken ms text s left = (items : List Item) × AreLines ms s items × (items_after ms items left ≡ items_after ms [] (link_lines text))

abbrev by_item : List (List Rec) → List Item → Line → List Line → Result (List Item) LineFault → Result (List Item) LocatorFault
by_item ms items l ls r = elim r [ Ok xs ↦ items_after ms (items ++ xs) ls | Err w ↦ Err (fault.Line l.0 w) ]

one_item : (ms : List (List Rec)) (items : List Item) (l : Line) (ls : List Line) (xs : List Item) → items_of ms items l.1 ≡ Ok xs → items_after ms items (l ∷ ls) ≡ items_after ms (items ++ xs) ls
one_item ms items l ls xs e = ap (by_item ms items l ls) e

no_item : (ms : List (List Rec)) (items : List Item) (l : Line) (ls : List Line) (w : LineFault) → items_of ms items l.1 ≡ Err w → items_after ms items (l ∷ ls) ≡ Err (fault.Line l.0 w)
no_item ms items l ls w e = ap (by_item ms items l ls) e

pub line_taken : (ms : List (List Rec)) (text : List ℕ) (n : ℕ) (line : List ℕ) (lines rest : List (List ℕ)) (s new : Lines) (r : Result (Unit {0}) LocatorFault)
    → (a : AreTaken ms text s (lines_from n lines)) → lines ≡ line ∷ rest → IsTaken ms new a.0 n (items_of ms a.0 (link_entry_on line)) r → (u : Unit {0}) → r ≡ Ok u → AreTaken ms text new (lines_from (n + 1) rest)
line_taken ms text n line lines rest s new r a e t u o =
    let g : IsTaken ms new a.0 n (items_of ms a.0 (link_entry_on line)) (Ok u) = rw o at t in
    let left : items_after ms a.0 ((n, link_entry_on line) ∷ lines_from (n + 1) rest) ≡ items_after ms [] (link_lines text) = ap (λ (ls : List (List ℕ)). items_after ms a.0 (lines_from n ls)) (sym e) ∙ a.2 in
    let step : items_after ms a.0 ((n, link_entry_on line) ∷ lines_from (n + 1) rest) ≡ items_after ms (a.0 ++ g.0) (lines_from (n + 1) rest) = one_item ms a.0 (n, link_entry_on line) (lines_from (n + 1) rest) g.0 g.1 in
    (a.0 ++ g.0, g.2, sym step ∙ left)

taken_fails : (ms : List (List Rec)) (items : List Item) (n : ℕ) (o : Option LinkEntry) (ls : List Line) (new : Lines) (f : LocatorFault) (all : Result (List Item) LocatorFault)
    → IsTaken ms new items n (items_of ms items o) (Err f) → items_after ms items ((n, o) ∷ ls) ≡ all → IsOutcome (map_ok (sparse_all ms) all) (Err f)
taken_fails ms items n o ls new fault.Memory all t h = tt
taken_fails ms items n o ls new (fault.Line k w) all t h =
    let fails : items_after ms items ((n, o) ∷ ls) ≡ Err (fault.Line n w) = no_item ms items (n, o) ls w t.1 in
    ap (map_ok (sparse_all ms)) (sym h ∙ fails) ∙ ap (λ (i : ℕ). Err (fault.Line i w)) (sym t.0)

pub line_refused : (ms : List (List Rec)) (text : List ℕ) (n : ℕ) (line : List ℕ) (lines rest : List (List ℕ)) (s new : Lines) (r : Result (Unit {0}) LocatorFault) (f : LocatorFault)
    → (a : AreTaken ms text s (lines_from n lines)) → lines ≡ line ∷ rest → IsTaken ms new a.0 n (items_of ms a.0 (link_entry_on line)) r → r ≡ Err f → IsOutcome (map_ok (sparse_all ms) (items_after ms [] (link_lines text))) (Err f)
line_refused ms text n line lines rest s new r f a e t o =
    taken_fails ms a.0 n (link_entry_on line) (lines_from (n + 1) rest) new f (items_after ms [] (link_lines text)) (rw o at t)
    (ap (λ (ls : List (List ℕ)). items_after ms a.0 (lines_from n ls)) (sym e) ∙ a.2)

pub lines_done : (ms : List (List Rec)) (text : List ℕ) (n : ℕ) (s : Lines) → AreTaken ms text s (lines_from n []) → map_ok (sparse_all ms) (items_after ms [] (link_lines text)) ≡ Ok s.given.items
lines_done ms text n s a = ap (map_ok (sparse_all ms)) (sym a.2) ∙ ap Ok (sym a.1.given_is)

-- ---- the whole text

no_bad : {A : Type 0} (ns : List ℕ) (r : Result A LocatorFault) → None ≡ slice_get ns 0 → unless_bad ns r ≡ r
no_bad [] r e = refl
no_bad (n ∷ ns) r e = absurd cc

pub some_bad : {A : Type 0} (ns : List ℕ) (n : ℕ) (r : Result A LocatorFault) → Some n ≡ slice_get ns 0 → unless_bad ns r ≡ Err (fault.Line n why.NotUnderstood)
some_bad [] n r e = absurd cc
some_bad (k ∷ ns) n r e = let same : k ≡ n = cc in ap (λ (i : ℕ). Err (fault.Line i why.NotUnderstood)) same

pub none_bad : (ns : List ℕ) → None ≡ slice_get ns 0 → ns ≡ []
none_bad [] e = refl
none_bad (n ∷ ns) e = absurd cc

pub outcome_of : (ns : List ℕ) (r s : Result (List Sparse) LocatorFault) → None ≡ slice_get ns 0 → IsOutcome r s → IsOutcome (unless_bad ns r) s
outcome_of ns r s e h = rw (no_bad ns r e) h
