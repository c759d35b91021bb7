-- Monomials as lists of exponents. The generator numbered g has two variables, each with its own exponent: x_g at 2g,
-- and y_g, which stands for the inverse of x_g, at 2g + 1.
use Rattle.std.specs.declared.cmp.Ordering.{Ordering}
use Rattle.std.specs.Ordering.{nat_cmp, ordering_then}
use Rattle.std.specs.Cmp.Lexicographic.{slice_cmp}
use Rattle.std.specs.Prelude.{◌≡◌, ℕ, suc, ℤ, pos, negsuc, ◌+◌, ◌-◌, ◌*◌, ◌<◌, ◌≤◌, max, Bool, true, false, ◌&&◌}
use Rattle.std.specs.Prelude.{nat_le, List, [], ◌∷◌, ◌++◌, sum, length, replicate, slice_set, Option, Some, None}
use Rattle.laurent_terms.specs.declared.TheConstants.{VARIABLES, DEGREE}

-- the sum of the exponents
abbrev pub degree : List ℕ → ℕ
degree s = sum s

-- what a Mono holds
pub record IsMonomial (s : List ℕ) : Type 0 where
  pub variables : length s ≡ VARIABLES
  pub most : degree s ≤ DEGREE

-- the two exponents of each variable put together by f
abbrev pub combined : (ℕ → ℕ → ℕ) → List ℕ → List ℕ → List ℕ
combined f [] t = []
combined f (a ∷ s) [] = []
combined f (a ∷ s) (b ∷ t) = f a b ∷ combined f s t

-- exponents add up
abbrev pub product : List ℕ → List ℕ → List ℕ
product s t = combined (λ a b. a + b) s t

-- the exponents of s less those of t, which divides s
abbrev pub quotient : List ℕ → List ℕ → List ℕ
quotient s t = combined (λ a b. a - b) s t

-- the greater exponent of each variable
abbrev pub common_multiple : List ℕ → List ℕ → List ℕ
common_multiple s t = combined (λ a b. max a b) s t

-- no exponent of s is above that of t
abbrev pub divides : List ℕ → List ℕ → Bool
divides [] t = true
divides (a ∷ s) [] = false
divides (a ∷ s) (b ∷ t) = nat_le a b && divides s t

-- the degree first, then the exponents at the first variable where they differ
abbrev pub mono_cmp : List ℕ → List ℕ → Ordering
mono_cmp s t = ordering_then (nat_cmp (degree s) (degree t)) (slice_cmp nat_cmp s t)

-- no variable
abbrev pub one : List ℕ
one = replicate VARIABLES 0

-- where the variables x_g and y_g stand
abbrev pub variable_of : ℕ → Bool → ℕ
variable_of g true = 2 * g
variable_of g false = 2 * g + 1

-- the variable that stands at `at`: exponent 1 there, and 0 elsewhere
abbrev pub variable : ℕ → List ℕ
variable at = slice_set one at 1

-- an integer as the exponents of x_g and y_g: one of the two is 0
abbrev pub positive_part : ℤ → ℕ
positive_part (pos n) = n
positive_part (negsuc n) = 0

abbrev pub negative_part : ℤ → ℕ
negative_part (pos n) = 0
negative_part (negsuc n) = suc n

abbrev pub both_parts : List ℤ → List ℕ
both_parts [] = []
both_parts (z ∷ p) = positive_part z ∷ negative_part z ∷ both_parts p

-- the monomial of an integer vector: generators that it does not reach have exponent 0
abbrev pub monomial_of : List ℤ → List ℕ
monomial_of p = both_parts p ++ replicate (VARIABLES - 2 * length p) 0

-- s, or None exactly where d, the degree that it has, passes the limit
abbrev pub MadeWithin : ℕ → List ℕ → Option (List ℕ) → Type 0
MadeWithin d s None = DEGREE < d
MadeWithin d s (Some made) = (d ≤ DEGREE) × (made ≡ s)
