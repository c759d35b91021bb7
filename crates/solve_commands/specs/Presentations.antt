-- Presentations under names.
use Rattle.std.specs.Prelude.{◌≡◌, ◌≤◌, ℕ, List, length, Option, IfSome, Ok}
use Rattle.presentation.specs.Presented.{Presented}
use Rattle.presentation.specs.Reading.{presentation_text}
use Rattle.command_floor.specs.declared.TheConstants.{PRESENTATION_BYTES}
use Rattle.command_floor.specs.Files.{in_lines}

-- p is the presentation of the text under this name, where the shelf tells that
abbrev pub IsPresentedIn : (List ℕ → Option (List ℕ)) → List ℕ → Presented → Type 0
IsPresentedIn under name p = IfSome (under name) (λ bytes. (length bytes ≤ PRESENTATION_BYTES)
    × (in_lines presentation_text bytes ≡ Ok p))
