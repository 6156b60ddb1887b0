-- Lists that are related one by one.
use Rattle.std.proofs.Common.{◌≡◌, ℕ, ◌+◌, List, [], ◌∷◌, ◌++◌, refl, ◌∙◌, ap, ap₂}
use Rattle.std.specs.Prelude.{map, flat_map, filter_map, zip, Option}
use Rattle.std.specs.List.{AllZip, cons_option, enumerate_from}

pub map-ext : {A B : Type 0} (f g : A → B) → ((a : A) → f a ≡ g a) → (xs : List A) → map f xs ≡ map g xs
map-ext f g same [] = refl
map-ext {B} f g same (x ∷ xs) = ap₂ (λ (b : B) (bs : List B). b ∷ bs) (same x) (map-ext f g same xs)

pub filter-ext : {A B : Type 0} (f g : A → Option B) → ((a : A) → f a ≡ g a) → (xs : List A) → filter_map f xs ≡ filter_map g xs
filter-ext f g same [] = refl
filter-ext {B} f g same (x ∷ xs) = ap₂ (λ (b : Option B) (bs : List B). cons_option b bs) (same x) (filter-ext f g same xs)

pub flat-ext : {A B : Type 0} (f g : A → List B) → ((a : A) → f a ≡ g a) → (xs : List A) → flat_map f xs ≡ flat_map g xs
flat-ext f g same [] = refl
flat-ext {B} f g same (x ∷ xs) = ap₂ (λ (b bs : List B). b ++ bs) (same x) (flat-ext f g same xs)

-- A function that does not see what another changes.
pub map-through : {A B : Type 0} (v : A → A) (f : A → B) → ((a : A) → f a ≡ f (v a)) → (xs : List A) → map f xs ≡ map f (map v xs)
map-through v f same [] = refl
map-through {B} v f same (x ∷ xs) = ap₂ (λ (b : B) (bs : List B). b ∷ bs) (same x) (map-through v f same xs)

pub filter-through : {A B : Type 0} (v : A → A) (f : A → Option B) → ((a : A) → f a ≡ f (v a)) → (xs : List A) → filter_map f xs ≡ filter_map f (map v xs)
filter-through v f same [] = refl
filter-through {B} v f same (x ∷ xs) = ap₂ (λ (b : Option B) (bs : List B). cons_option b bs) (same x) (filter-through v f same xs)

pub flat-through : {A B : Type 0} (v : A → A) (f : A → List B) → ((a : A) → f a ≡ f (v a)) → (xs : List A) → flat_map f xs ≡ flat_map f (map v xs)
flat-through v f same [] = refl
flat-through {B} v f same (x ∷ xs) = ap₂ (λ (b : List B) (bs : List B). b ++ bs) (same x) (flat-through v f same xs)

module _ {X Y : Type 0} (R : X → Y → Type 0) where
  pub zip-map : {B : Type 0} (f : X → B) (g : Y → B) → ((x : X) (y : Y) → R x y → f x ≡ g y) → (xs : List X) (ys : List Y) → AllZip R xs ys → map f xs ≡ map g ys
  zip-map f g same [] [] h = refl
  zip-map f g same [] (y ∷ ys) h = absurd h
  zip-map f g same (x ∷ xs) [] h = absurd h
  zip-map {B} f g same (x ∷ xs) (y ∷ ys) h = ap₂ (λ (b : B) (bs : List B). b ∷ bs) (same x y h.0) (zip-map f g same xs ys h.1)

  pub zip-flat : {B : Type 0} (f : X → List B) (g : Y → List B) → ((x : X) (y : Y) → R x y → f x ≡ g y) → (xs : List X) (ys : List Y) → AllZip R xs ys → flat_map f xs ≡ flat_map g ys
  zip-flat f g same [] [] h = refl
  zip-flat f g same [] (y ∷ ys) h = absurd h
  zip-flat f g same (x ∷ xs) [] h = absurd h
  zip-flat {B} f g same (x ∷ xs) (y ∷ ys) h = ap₂ (λ (b : List B) (bs : List B). b ++ bs) (same x y h.0) (zip-flat f g same xs ys h.1)

  pub zip-filter : {B : Type 0} (f : X → Option B) (g : Y → Option B) → ((x : X) (y : Y) → R x y → f x ≡ g y) → (xs : List X) (ys : List Y) → AllZip R xs ys → filter_map f xs ≡ filter_map g ys
  zip-filter f g same [] [] h = refl
  zip-filter f g same [] (y ∷ ys) h = absurd h
  zip-filter f g same (x ∷ xs) [] h = absurd h
  zip-filter {B} f g same (x ∷ xs) (y ∷ ys) h = ap₂ (λ (b : Option B) (bs : List B). cons_option b bs) (same x y h.0) (zip-filter f g same xs ys h.1)

  -- The same of lists that are numbered.
  pub enum-map : {B : Type 0} (f : ℕ × X → B) (g : ℕ × Y → B) → ((j : ℕ) (x : X) (y : Y) → R x y → f (j, x) ≡ g (j, y)) → (j : ℕ) (xs : List X) (ys : List Y) → AllZip R xs ys
      → map f (enumerate_from j xs) ≡ map g (enumerate_from j ys)
  enum-map f g same j [] [] h = refl
  enum-map f g same j [] (y ∷ ys) h = absurd h
  enum-map f g same j (x ∷ xs) [] h = absurd h
  enum-map {B} f g same j (x ∷ xs) (y ∷ ys) h = ap₂ (λ (b : B) (bs : List B). b ∷ bs) (same j x y h.0) (enum-map f g same (j + 1) xs ys h.1)

  pub enum-flat : {B : Type 0} (f : ℕ × X → List B) (g : ℕ × Y → List B) → ((j : ℕ) (x : X) (y : Y) → R x y → f (j, x) ≡ g (j, y)) → (j : ℕ) (xs : List X) (ys : List Y) → AllZip R xs ys
      → flat_map f (enumerate_from j xs) ≡ flat_map g (enumerate_from j ys)
  enum-flat f g same j [] [] h = refl
  enum-flat f g same j [] (y ∷ ys) h = absurd h
  enum-flat f g same j (x ∷ xs) [] h = absurd h
  enum-flat {B} f g same j (x ∷ xs) (y ∷ ys) h = ap₂ (λ (b : List B) (bs : List B). b ++ bs) (same j x y h.0) (enum-flat f g same (j + 1) xs ys h.1)

  -- Each beside the same value.
  abbrev pub Beside : {Z : Type 0} → X × Z → Y × Z → Type 0
  Beside a b = R a.0 b.0 × (a.1 ≡ b.1)

  pub zip-beside : {Z : Type 0} (xs : List X) (ys : List Y) (zs : List Z) → AllZip R xs ys → AllZip (Beside {Z = Z}) (zip xs zs) (zip ys zs)
  zip-beside [] [] zs h = tt
  zip-beside [] (y ∷ ys) zs h = absurd h
  zip-beside (x ∷ xs) [] zs h = absurd h
  zip-beside (x ∷ xs) (y ∷ ys) [] h = tt
  zip-beside (x ∷ xs) (y ∷ ys) (z ∷ zs) h = ((h.0, refl), zip-beside xs ys zs h.1)

  -- What holds of each pair with one value holds of pairs with equal ones.
  pub by-value : {Z B : Type 0} (f : X × Z → B) (g : Y × Z → B) → ((x : X) (y : Y) (z : Z) → R x y → f (x, z) ≡ g (y, z)) → (a : X × Z) (b : Y × Z) → Beside a b → f a ≡ g b
  by-value {Z} f g same a b h = same a.0 b.0 a.1 h.0 ∙ ap (λ (z : Z). g (b.0, z)) h.1
