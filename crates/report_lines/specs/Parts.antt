-- Texts of two parts with a separator between them.
use Rattle.std.specs.Prelude.{◌≡◌, ℕ, ◌==◌, false, List, ◌++◌}
use Rattle.std.specs.List.{AllByRecursion}

-- a value, a separator, and any text behind it
abbrev pub headed : {X : Type 0} → (X → List ℕ) → List ℕ → X × List ℕ → List ℕ
headed spelling separator x = spelling x.0 ++ (separator ++ x.1)

abbrev pub IsHead : {X : Type 0} → (X → Type 0) → X × List ℕ → Type 0
IsHead IsValid x = IsValid x.0

-- two values with a separator between them
abbrev pub paired : {A B : Type 0} → (A → List ℕ) → List ℕ → (B → List ℕ) → A × B → List ℕ
paired first separator second x = first x.0 ++ (separator ++ second x.1)

abbrev pub AreBoth : {A B : Type 0} → (A → Type 0) → (B → Type 0) → A × B → Type 0
AreBoth IsA IsB x = IsA x.0 × IsB x.1

-- any text
abbrev pub itself : List ℕ → List ℕ
itself text = text

-- no colon stands in the text
abbrev pub HasNoColon : List ℕ → Type 0
HasNoColon text = AllByRecursion (λ b. (b == 58) ≡ false) text
