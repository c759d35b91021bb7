-- Texts that are written one behind another.
use Rattle.std.proofs.Common.{◌≡◌, ℕ, List, ◌++◌, map}
use Rattle.presentation.specs.Writing.{led_by}

-- what has been written and what is left make the whole
abbrev pub Left : {A : Type 0} → (A → List ℕ) → List ℕ → List ℕ → List A → List ℕ → Type 0
Left f separator out xs whole = out ++ led_by separator (map f xs) ≡ whole
