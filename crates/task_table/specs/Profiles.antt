-- What an order of tasks looks at in a vector.
use Rattle.std.specs.Int.Count.{count_leading_zeros}
use Rattle.std.specs.Prelude.{ℕ, ◌-◌, ◌≤◌, max, nat_le, pos, ◌<ℤ◌, unsigned_abs, List, [], ◌∷◌, length, true}
use Rattle.laurent_terms.specs.Monomials.{IsMonomial}
use Rattle.module_vec.specs.declared.places.Term.{Term}
use Rattle.task_table.specs.declared.profiles.Profile.{Profile}

-- the number of binary digits of a number that has at most 128 of them
abbrev pub binary_digits : ℕ → ℕ
binary_digits n = 128 - count_leading_zeros 128 n

-- the greatest of n and the numbers of binary digits of the coefficients
abbrev pub most_from : ℕ → List Term → ℕ
most_from n [] = n
most_from n (t ∷ ts) = most_from (max (binary_digits (unsigned_abs t.k)) n) ts

-- the most binary digits of a coefficient's absolute value
abbrev pub most_digits : List Term → ℕ
most_digits v = most_from 0 v

-- the lead of a vector, its most digits, and whether it has at most two terms
abbrev pub profile_of : List Term → Profile
profile_of [] = record { lead = record { at = record { m = []; c = 0 }; k = pos 0 }; digits = 0; short = true }
profile_of (t ∷ ts) = record { lead = t; digits = most_digits (t ∷ ts); short = nat_le (length (t ∷ ts)) 2 }

-- the profile of a vector with a positive lead
pub record IsProfile (f : Profile) : Type 0 where
  pub monomial : IsMonomial f.lead.at.m
  pub positive : pos 0 <ℤ f.lead.k
  pub digits : f.digits ≤ 128
