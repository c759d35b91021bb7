-- Parts of sums: the terms whose keys pass a test.
use Rattle.std.proofs.Common.{◌≡◌, ◌∙◌, Bool, true, false, cond, pos, ◌+ℤ◌, [], ◌∷◌, ◌++◌, refl, sym, ap, arith}
use Rattle.std.specs.List.{AllByRecursion}
use borrow.Author.Differences.{ints}
use Rattle.formal_sums.specs.FormalSum.{FormalSum, coefficient}
use Rattle.module_vec.specs.declared.places.Place.{Place}
use Rattle.module_vec.specs.Places.{same_place}
use Rattle.module_vec.proofs.Order.{test}

abbrev pub part : (Place → Bool) → FormalSum Place → FormalSum Place
part f [] = []
part f (t ∷ v) = cond (f t.1) (t ∷ part f v) (part f v)

pub part_at : (f : Place → Bool) (v : FormalSum Place) (x : Place) → coefficient same_place (part f v) x ≡ cond (f x) (coefficient same_place v x) (pos 0)
part_at f [] x = by (f x)
  where
    by : (b : Bool) → pos 0 ≡ cond b (pos 0) (pos 0)
    by true = refl
    by false = refl
part_at f (t ∷ v) x = by (f t.1) refl (same_place t.1 x) refl (f x) refl (part_at f v x)
  where
    -- keys that are the same pass alike
    alike : (a c : Bool) → f t.1 ≡ a → same_place t.1 x ≡ true → f x ≡ c → a ≡ c
    alike a c e s h = sym e ∙ ap f (test.sound t.1 x s) ∙ h

    by : (a : Bool) → f t.1 ≡ a → (b : Bool) → same_place t.1 x ≡ b → (c : Bool) → f x ≡ c
        → coefficient same_place (part f v) x ≡ cond c (coefficient same_place v x) (pos 0)
        → coefficient same_place (cond a (t ∷ part f v) (part f v)) x ≡ cond c (cond b t.0 (pos 0) +ℤ coefficient same_place v x) (pos 0)
    by true e true s true h rest = rw s (omega (arith, ints, rest))
    by true e true s false h rest = absurd (let wrong : true ≡ false = alike true false e s h in cc)
    by true e false s true h rest = rw s (omega (arith, ints, rest))
    by true e false s false h rest = rw s (omega (arith, ints, rest))
    by false e true s true h rest = absurd (let wrong : false ≡ true = alike false true e s h in cc)
    by false e true s false h rest = rest
    by false e false s true h rest = omega (arith, ints, rest)
    by false e false s false h rest = rest

pub part-append : (f : Place → Bool) (v w : FormalSum Place) → part f (v ++ w) ≡ part f v ++ part f w
part-append f [] w = refl
part-append f (t ∷ v) w = by (f t.1) (part-append f v w)
  where
    by : (b : Bool) → part f (v ++ w) ≡ part f v ++ part f w
        → cond b (t ∷ part f (v ++ w)) (part f (v ++ w)) ≡ cond b (t ∷ part f v) (part f v) ++ part f w
    by true rest = ap (λ u. t ∷ u) rest
    by false rest = rest

-- where each key passes, the part is all
pub part_all : (f : Place → Bool) (v : FormalSum Place) → AllByRecursion (λ t. f t.1 ≡ true) v → part f v ≡ v
part_all f [] all = refl
part_all f (t ∷ v) all = rw all.0 (ap (λ u. t ∷ u) (part_all f v all.1))

-- where none does, it is nothing
pub part_none : (f : Place → Bool) (v : FormalSum Place) → AllByRecursion (λ t. f t.1 ≡ false) v → part f v ≡ []
part_none f [] all = refl
part_none f (t ∷ v) all = rw all.0 (part_none f v all.1)
