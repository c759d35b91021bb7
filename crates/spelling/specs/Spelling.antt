-- Spellings: functions from values to lists of bytes, and what a reader of one spelling answers.
use Rattle.std.specs.Prelude.{◌≡◌, ℕ, ◌<◌, ◌^◌, ◌==◌, if◌then◌else◌, ℤ, pos, negsuc, suc, List, [], ◌∷◌, Option, Some}
use Rattle.std.specs.Prelude.{None, option_map, decimal}

-- the first byte c cuts the text in two
abbrev pub cut : ℕ → List ℕ → Option (List ℕ × List ℕ)
cut c [] = None
cut c (b ∷ bs) = if b == c then Some ([], bs) else option_map (λ p. (b ∷ p.0, p.1)) (cut c bs)

-- what a reader answers: the valid value with this spelling, or None where no valid value has it
abbrev pub IsRead : {X : Type 0} → (X → List ℕ) → (X → Type 0) → List ℕ → Option X → Type 0
IsRead spelling IsValid text (Some x) = IsValid x × (text ≡ spelling x)
IsRead {X} spelling IsValid text None = (x : X) → IsValid x → text ≡ spelling x → ⊥

abbrev pub IsSmall : ℕ → Type 0
IsSmall n = n < 2 ^ 32

abbrev pub IsWide : ℕ → Type 0
IsWide n = n < 2 ^ 128

abbrev pub IsPositive : ℕ → Type 0
IsPositive n = (0 < n) × (n < 2 ^ 127)

-- a sign and the number
abbrev pub coefficient : ℤ → List ℕ
coefficient (pos n) = 43 ∷ decimal n
coefficient (negsuc n) = 45 ∷ decimal (suc n)

-- not 0, and from -(2^127 - 1) to 2^127 - 1
abbrev pub IsCoefficient : ℤ → Type 0
IsCoefficient (pos n) = (0 < n) × (n < 2 ^ 127)
IsCoefficient (negsuc n) = suc n < 2 ^ 127

-- what stands before the first byte c, which is the whole text where there is no such byte, and what stands behind it
abbrev pub parted : List ℕ → Option (List ℕ × List ℕ) → List ℕ × Option (List ℕ)
parted text None = (text, None)
parted text (Some p) = (p.0, Some p.1)

abbrev pub first_part : ℕ → List ℕ → List ℕ × Option (List ℕ)
first_part c text = parted text (cut c text)
