-- The factors by which two numbers give their greatest common divisor.
use Rattle.std.specs.Prelude.{◌≡◌, ℕ, ◌+◌, ◌*◌, ◌<◌, ◌≤◌, ℤ, pos, ◌+ℤ◌, ◌*ℤ◌, ◌<ℤ◌, ◌≤ℤ◌, unsigned_abs}
use Rattle.std.specs.Int.{IsGcd}

-- d is the greatest common divisor of a and b, which u and v give, and u is as small as can be
pub record IsBezout (a b d u v : ℤ) : Type 0 where
  pub divisor : IsGcd (unsigned_abs a) (unsigned_abs b) (unsigned_abs d)
  pub positive : pos 0 <ℤ d
  pub sum : u *ℤ a +ℤ v *ℤ b ≡ d
  -- u is the least number from 0 on for which such a v is there at all
  pub natural : pos 0 ≤ℤ u
  pub least : (x y : ℤ) → pos 0 ≤ℤ x → x *ℤ a +ℤ y *ℤ b ≡ d → u ≤ℤ x
  -- so both stay in range: u is below b/d, and v at most a/d either way
  pub below : (u *ℤ d) <ℤ b
  pub within : unsigned_abs v * unsigned_abs d ≤ unsigned_abs a

-- u times a less w times b is d, the greatest common divisor of a and b, and neither factor is greater than it has to
-- be
pub record IsFactors (a b d u w : ℕ) : Type 0 where
  pub divisor : IsGcd a b d
  pub positive : 0 < d
  pub sum : u * a ≡ d + w * b
  pub first : u * d ≤ b
  pub second : w * d ≤ a
