-- The lines of a link text that are left, and the lines of a fault in it.
use Rattle.std.proofs.Common.{◌≡◌, ℕ, zero, suc, ◌+◌, ◌-◌, ◌<◌, List, [], ◌∷◌, ◌++◌, Result, Ok, Err, Global, String, Vec, arith, drop, get_or, length, refl, sym, subst, ap, ◌∙◌, take, true, false}
use Rattle.std.specs.Prelude.{IfOk, Option, Some, None, string_bytes, filter_map, option_map, bytes_eq, if◌then◌else◌}
use Rattle.std.specs.List.{cons_option, last_or}
use Rattle.std.specs.Option.{option_or}
use Rattle.omf_check.specs.Module.{Module, recs_of, typed_modules}
use Rattle.omf_records.specs.Inner.Seen.{map_ok}
use Rattle.omf_records.specs.Values.{Rec}
use Rattle.omf_placement.specs.Quoted.{quoted}
use Rattle.omf_linking.specs.Inner.LineParsing.{key_seen}
use Rattle.omf_linking.specs.Locator.Keys.{module_name}
use Rattle.omf_linking.specs.Locator.LinkEntries.{Key, link_entry_on}
use Rattle.omf_linking.specs.declared.locator.entry.Key as written
use Rattle.omf_linking.specs.declared.fault.LinkFault.{LinkFault}
use Rattle.omf_linking.specs.declared.locator.fault.LineFault.{LineFault}
use Rattle.omf_linking.specs.declared.locator.fault.LineFault.TheVariants as why
use Rattle.omf_lines.specs.Named.{HasLines}
use Rattle.omf_lines.specs.TextLines.{opened_by_name, opening_on, subject, what, why_words}
use Rattle.omf_externals.proofs.NameLaws.{next-one}

-- the key of the last `M` line among the first lines, or one from before
abbrev pub opened_from : Option Key → ℕ → List (List ℕ) → Option Key
opened_from key count lines = last_or key (filter_map opening_on (take count lines))

last_key : (o key : Option Key) (ks : List Key) → last_or key (cons_option o ks) ≡ last_or (option_or o key) ks
last_key None key ks = refl
last_key (Some k) key ks = refl

pub key_or : (o p : Option written.Key) → option_map key_seen (option_or o p) ≡ option_or (option_map key_seen o) (option_map key_seen p)
key_or None p = refl
key_or (Some k) p = refl

-- a line more
pub opened_next : (key : Option Key) (left : ℕ) (line : List ℕ) (lines rest : List (List ℕ)) → 0 < left → lines ≡ line ∷ rest
    → opened_from key left lines ≡ opened_from (option_or (opening_on line) key) (left - 1) rest
opened_next key zero line lines rest some e = absurd (omega (arith, some))
opened_next key (suc n) line lines rest some e =
    let less : n ≡ suc n - 1 = omega arith in
    ap (opened_from key (suc n)) e ∙ last_key (opening_on line) key (filter_map opening_on (take n rest)) ∙ ap (λ k. opened_from (option_or (opening_on line) key) k rest) less

-- ---- the module of a name

module _ (ms : List Module) (j : ℕ) (m : Module) (key : List ℕ) (is : m ≡ get_or ms j m) (inside : j < length ms) where
  found_by : opened_by_name (typed_modules (drop j ms)) key ≡ (if bytes_eq (quoted (module_name (recs_of m.bytes))) key then Some (recs_of m.bytes) else opened_by_name (typed_modules (drop (j + 1) ms)) key)
  found_by = ap (λ xs. opened_by_name xs key) (next-one ms j m is inside)

  pub named_here : bytes_eq (quoted (module_name (recs_of m.bytes))) key ≡ true → opened_by_name (typed_modules (drop j ms)) key ≡ Some (recs_of m.bytes)
  named_here h = found_by ∙ ap (λ b. if b then Some (recs_of m.bytes) else opened_by_name (typed_modules (drop (j + 1) ms)) key) h

  pub not_named : bytes_eq (quoted (module_name (recs_of m.bytes))) key ≡ false → opened_by_name (typed_modules (drop j ms)) key ≡ opened_by_name (typed_modules (drop (j + 1) ms)) key
  not_named h = found_by ∙ ap (λ b. if b then Some (recs_of m.bytes) else opened_by_name (typed_modules (drop (j + 1) ms)) key) h

-- ---- what is wrong with a line

pub told_alone : (ms : List (List Rec)) (at : Option Key) (line : List ℕ) (w : LineFault) → (w ≡ why.NotUnderstood → ⊥) → (w ≡ why.Unknown → ⊥) → what ms at line w ≡ why_words w ++ subject at (link_entry_on line)
told_alone ms at line why.NotUnderstood read known = absurd (read refl)
told_alone ms at line why.NoModule read known = refl
told_alone ms at line why.Unknown read known = absurd (known refl)
told_alone ms at line why.Several read known = refl
told_alone ms at line why.Twice read known = refl
told_alone ms at line why.NothingBefore read known = refl
told_alone ms at line why.NoRoom read known = refl
told_alone ms at line why.Unshared read known = refl

-- ---- the bytes of lines

pub by_lines : {E : Type 0} (labels : List (List ℕ)) (ms : List (List Rec)) (text : List ℕ) (f : LinkFault) (r : Result (Vec ℕ Global) E) (s : Result (String Global) E)
    → map_ok (λ v. v.items) r ≡ map_ok string_bytes s → IfOk s (λ l. HasLines labels ms text f (string_bytes l)) → IfOk r (λ l. HasLines labels ms text f l.items)
by_lines labels ms text f (Ok v) (Ok l) e h = let same : v.items ≡ string_bytes l = cc in subst (HasLines labels ms text f) (sym same) h
by_lines labels ms text f (Ok v) (Err x) e h = absurd cc
by_lines labels ms text f (Err x) s e h = tt
