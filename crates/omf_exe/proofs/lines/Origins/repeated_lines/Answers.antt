use Rattle.std.proofs.Common.{◌≡◌, ℕ, List, [], Bool, true, false, rules, vec_len, length, sym, ap, ◌∙◌}
use Rattle.std.specs.Prelude.{◌==◌}
use Rattle.std.proofs.lemmas.Bool.{eqb-true, true≢false}
use Rattle.std.proofs.lemmas.List.{nil_from_length}
use Rattle.omf_exe.proofs.TwiceLaws.{none-twice, some-twice}
use Rattle.omf_exe.proofs.lines.Origins.repeated_lines.Goals as goal

-- text that is not empty, or is
some : (xs : List ℕ) (b : Bool) → b ≡ (length xs == 0) → b ≡ false → xs ≡ [] → ⊥
some xs b e n h = true≢false (sym (e ∙ ap (λ (ys : List ℕ). length ys == 0) h) ∙ n)

none : (xs : List ℕ) (b : Bool) → b ≡ (length xs == 0) → b ≡ true → xs ≡ []
none xs b e n = nil_from_length xs (eqb-true (length xs) 0 (sym e ∙ n))

pub returns-then-is_empty-clause-found : goal.returns-then-is_empty-clause-found
returns-then-is_empty-clause-found c =
    let text = c.in_ok-numbered.numbered.bytes in
    let many : vec_len text ≡ length text.items = search rules in
    let empty = c.is_empty.ensures ∙ ap (λ (n : ℕ). n == 0) many in
    none-twice c.args.self.now.modules.now [] text.items c.in_ok-numbered.ensures (none text.items c.is_empty.result empty c.if-is_empty.true)

pub returns-clause-found : goal.returns-clause-found
returns-clause-found c =
    let text = c.in_ok-numbered.numbered.bytes in
    let many : vec_len text ≡ length text.items = search rules in
    let empty = c.is_empty.ensures ∙ ap (λ (n : ℕ). n == 0) many in
    some-twice c.args.self.now.modules.now [] text.items c.in_ok-numbered.ensures (some text.items c.is_empty.result empty c.if-is_empty.false)
