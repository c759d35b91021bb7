-- What the order and the division of monomials are held to.
use Rattle.std.specs.Prelude.{◌≡◌, ℕ, List, length}
use Rattle.std.specs.declared.cmp.Ordering.TheVariants.{Less}
use Rattle.laurent_terms.specs.Monomials.{mono_cmp}

-- s stands below t, both with n exponents
abbrev pub Below : ℕ → List ℕ → List ℕ → Type 0
Below n s t = (length s ≡ n) × (length t ≡ n) × (mono_cmp s t ≡ Less)
