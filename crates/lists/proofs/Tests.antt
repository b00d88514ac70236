-- Tests on the entries of a list: some, every; and maps that agree. Assumes nothing.
use mathlib.Core.Path.{◌≡◌, refl, sym, ap, ap₂, ◌∙◌}
use mathlib.Core.Bool.{Bool, true, false, ◌&&◌, ◌||◌, true≢false, false≢true, or_assoc, and_assoc}
use mathlib.Core.List.Memᴰ
use mathlib.Core.List.{List, [], ◌∷◌, ◌++◌, map}
use mathlib.Core.Logic.{◌⊎◌, inl, inr}
use Rattle.std.specs.List.{list_all}
use Rattle.lists.specs.Entries.{◌∈◌, some, every}
use Rattle.lists.proofs.Bools.{and_both, or_neither, not_both}

module _ {A : Type 0} where
  -- `some`

  pub some_ext : (f g : A → Bool) (xs : List A) → ((x : A) → f x ≡ g x) → some f xs ≡ some g xs
  some_ext f g [] h = refl
  some_ext f g (x ∷ xs) h = ap₂ ◌||◌ (h x) (some_ext f g xs h)

  pub some_no : (f : A → Bool) (xs : List A) → ((x : A) → x ∈ xs → f x ≡ false) → some f xs ≡ false
  some_no f [] h = refl
  some_no f (x ∷ xs) h = rw (h x (Memᴰ.head refl)) (some_no f xs (λ y m. h y (Memᴰ.tail m)))

  some_with : (f : A → Bool) (x : A) (xs : List A) → x ∈ xs → f x ≡ true → some f xs ≡ true
  some_with f x xs (Memᴰ.head {x = y} {xs = ys} e) p = rw (← e) (ap (λ b. b || some f ys) p)
  some_with f x xs (Memᴰ.tail {x = y} {xs = ys} m) p = rw (some_with f x ys m p) (any (f y))
    where
      any : (b : Bool) → (b || true) ≡ true
      any true = refl
      any false = refl

  pub some_in : (f : A → Bool) (xs : List A) (x : A) → x ∈ xs → f x ≡ true → some f xs ≡ true
  some_in f xs x = some_with f x xs

  pub some_out : (f : A → Bool) (xs : List A) → some f xs ≡ true → (x : A) × (x ∈ xs) × (f x ≡ true)
  some_out f [] e = absurd (false≢true e)
  some_out f (x ∷ xs) e = go (f x) refl e (some_out f xs)
    where
      go : (b : Bool) → f x ≡ b → (b || some f xs) ≡ true → (some f xs ≡ true → (y : A) × (y ∈ xs) × (f y ≡ true)) → (y : A) × (y ∈ x ∷ xs) × (f y ≡ true)
      go true p q ih = (x, Memᴰ.head refl, p)
      go false p q ih = let r = ih q in (r.0, Memᴰ.tail r.1, r.2)

  pub some_append : (f : A → Bool) (xs ys : List A) → some f (xs ++ ys) ≡ some f xs || some f ys
  some_append f [] ys = refl
  some_append f (x ∷ xs) ys = ap (λ b. f x || b) (some_append f xs ys) ∙ sym (or_assoc (f x) (some f xs) (some f ys))

  -- `every`

  -- it is the library's `list_all`
  pub every_is : (f : A → Bool) (xs : List A) → list_all f xs ≡ every f xs
  every_is f [] = refl
  every_is f (x ∷ xs) = ap (λ b. f x && b) (every_is f xs)

  pub every_ext : (f g : A → Bool) (xs : List A) → ((x : A) → f x ≡ g x) → every f xs ≡ every g xs
  every_ext f g [] h = refl
  every_ext f g (x ∷ xs) h = ap₂ ◌&&◌ (h x) (every_ext f g xs h)

  pub every_yes : (f : A → Bool) (xs : List A) → ((x : A) → x ∈ xs → f x ≡ true) → every f xs ≡ true
  every_yes f [] h = refl
  every_yes f (x ∷ xs) h = rw (h x (Memᴰ.head refl)) (every_yes f xs (λ y m. h y (Memᴰ.tail m)))

  each_of : (f : A → Bool) (x : A) (xs : List A) → every f xs ≡ true → x ∈ xs → f x ≡ true
  each_of f x xs e (Memᴰ.head {x = y} {xs = ys} q) = ap f q ∙ (and_both (f y) (every f ys) e).0
  each_of f x xs e (Memᴰ.tail {x = y} {xs = ys} m) = each_of f x ys (and_both (f y) (every f ys) e).1 m

  pub every_at : (f : A → Bool) (xs : List A) → every f xs ≡ true → (x : A) → x ∈ xs → f x ≡ true
  every_at f xs e x = each_of f x xs e

  pub every_no : (f : A → Bool) (xs : List A) (x : A) → x ∈ xs → f x ≡ false → every f xs ≡ false
  every_no f xs x m e = go (every f xs) refl
    where
      go : (b : Bool) → every f xs ≡ b → b ≡ false
      go true q = absurd (not_both (f x) (every_at f xs q x m) e)
      go false q = refl

  pub every_fails : (f : A → Bool) (xs : List A) → every f xs ≡ false → (x : A) × (x ∈ xs) × (f x ≡ false)
  every_fails f [] e = absurd (true≢false e)
  every_fails f (x ∷ xs) e = go (f x) refl e (every_fails f xs)
    where
      go : (b : Bool) → f x ≡ b → (b && every f xs) ≡ false → (every f xs ≡ false → (y : A) × (y ∈ xs) × (f y ≡ false)) → (y : A) × (y ∈ x ∷ xs) × (f y ≡ false)
      go true p q ih = let r = ih q in (r.0, Memᴰ.tail r.1, r.2)
      go false p q ih = (x, Memᴰ.head refl, p)

  pub every_append : (f : A → Bool) (xs ys : List A) → every f (xs ++ ys) ≡ every f xs && every f ys
  every_append f [] ys = refl
  every_append f (x ∷ xs) ys = ap (λ b. f x && b) (every_append f xs ys) ∙ sym (and_assoc (f x) (every f xs) (every f ys))

  -- maps

  module _ {B : Type 0} where
    pub some_map : (test : B → Bool) (f : A → B) (xs : List A) → some test (map f xs) ≡ some (λ x. test (f x)) xs
    some_map test f [] = refl
    some_map test f (x ∷ xs) = ap (λ b. test (f x) || b) (some_map test f xs)

    -- two maps that agree on the entries
    pub map_on : (f g : A → B) (xs : List A) → ((x : A) → x ∈ xs → f x ≡ g x) → map f xs ≡ map g xs
    map_on f g [] h = refl
    map_on f g (x ∷ xs) h = ap₂ ◌∷◌ (h x (Memᴰ.head refl)) (map_on f g xs (λ y m. h y (Memᴰ.tail m)))

    pub map_ext : (f g : A → B) (xs : List A) → ((x : A) → f x ≡ g x) → map f xs ≡ map g xs
    map_ext f g xs h = map_on f g xs (λ x m. h x)

    -- and on those that fail a test that no entry passes
    pub map_unless : (f g : A → B) (test : A → Bool) (xs : List A) → ((x : A) → test x ≡ false → f x ≡ g x) → some test xs ≡ false → map f xs ≡ map g xs
    map_unless f g test [] h e = refl
    map_unless f g test (x ∷ xs) h e =
        let o = or_neither (test x) (some test xs) e in
        ap₂ ◌∷◌ (h x o.0) (map_unless f g test xs h o.1)

    -- an entry of a map comes from an entry
    mapped : (f : A → B) (x : A) (xs : List A) → x ∈ xs → f x ∈ map f xs
    mapped f x xs (Memᴰ.head {x = y} {xs = ys} e) = Memᴰ.head (ap f e)
    mapped f x xs (Memᴰ.tail {x = y} {xs = ys} m) = Memᴰ.tail (mapped f x ys m)

    pub in_map : (f : A → B) (xs : List A) (x : A) → x ∈ xs → f x ∈ map f xs
    in_map f xs x = mapped f x xs

    pub out_map : (f : A → B) (xs : List A) (y : B) → y ∈ map f xs → (x : A) × (x ∈ xs) × (y ≡ f x)
    out_map f [] y m = absurd (Memᴰ.not-nil m)
    out_map f (x ∷ xs) y m = go (out_map f xs y) (Memᴰ.cases_cons m)
      where
        go : (y ∈ map f xs → (z : A) × (z ∈ xs) × (y ≡ f z)) → (y ≡ f x) ⊎ (y ∈ map f xs) → (z : A) × (z ∈ x ∷ xs) × (y ≡ f z)
        go ih (inl e) = (x, Memᴰ.head refl, e)
        go ih (inr h) = let r = ih h in (r.0, Memᴰ.tail r.1, r.2)
