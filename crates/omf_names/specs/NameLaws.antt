-- The order of names is total, and names are equal in it where their bytes are.
use Rattle.std.specs.Prelude.{◌≡◌, ◌==◌, ◌&&◌, ℕ, Bool, true, false, List, Some, nat_eq, refl}
use Rattle.std.specs.Ordering.{is_eq, nat_cmp}
use Rattle.std.specs.Cmp.{IsPartialOrder, IsTotalOrder, both_tied, nat_cmp_total, on_total, partial_order_from_agreeing_total, then_total, unsigned_ties}
use Rattle.std.specs.Cmp.Lexicographic.{bytes_decides, nat_list_cmp_total, pointwise, slice_cmp, texts_ties}
use Rattle.std.proofs.Common.{sym, ap, ◌∙◌}
use Rattle.std.proofs.lemmas.Bool.{eq-eqb}
use Rattle.omf_names.specs.Names.{name_cmp, name_number}

pub name_total : IsTotalOrder name_cmp
name_total = then_total (on_total name_number nat_cmp_total) nat_list_cmp_total

absorbed : (s t : Bool) → (t ≡ true → s ≡ true) → (s && t) ≡ t
absorbed true t h = refl
absorbed false true h = h refl
absorbed false false h = refl

pub names_tied : (xs ys : List ℕ) → pointwise nat_eq xs ys ≡ is_eq (name_cmp xs ys)
names_tied xs ys =
    let same : Bool = name_number xs == name_number ys in
    sym (absorbed same (pointwise nat_eq xs ys) (λ e. eq-eqb (name_number xs) (name_number ys) (ap name_number ((bytes_decides xs ys).0 e))))
    ∙ both_tied same (pointwise nat_eq xs ys) (nat_cmp (name_number xs) (name_number ys)) (slice_cmp nat_cmp xs ys) (unsigned_ties (name_number xs) (name_number ys)) (texts_ties xs ys)

pub name_order_laws : IsPartialOrder (pointwise nat_eq) (λ xs ys. Some (name_cmp xs ys))
name_order_laws = partial_order_from_agreeing_total name_cmp name_total (λ x y. refl) names_tied
