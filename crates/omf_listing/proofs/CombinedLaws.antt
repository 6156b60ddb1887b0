-- Three lists that are added one after another.
use Rattle.std.proofs.Common.{◌≡◌, List, ◌++◌, ap, ◌∙◌, append_assoc}

pub three-added : {B : Type 0} (old a b c one two three : List B) → one ≡ old ++ a → two ≡ one ++ b → three ≡ two ++ c → three ≡ old ++ (a ++ (b ++ c))
three-added old a b c one two three f g h = h ∙ ap (λ t. t ++ c) (g ∙ ap (λ t. t ++ b) f) ∙ append_assoc (old ++ a) b c ∙ append_assoc old a (b ++ c)
