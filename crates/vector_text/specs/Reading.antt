-- What the readers answer.
use Rattle.std.specs.Prelude.{◌≡◌, List, ℕ, Result, Ok, Err}
use Rattle.vector_text.specs.declared.fault.SpellFault.{SpellFault}
use Rattle.vector_text.specs.declared.fault.SpellFault.TheVariants.{Spelling, NoMemory}

-- the valid value with this spelling; Spelling where no valid value has it; and of want of memory nothing is said
abbrev pub Reads : {X : Type 0} → (X → List ℕ) → (X → Type 0) → List ℕ → Result X SpellFault → Type 0
Reads spelling IsValid text (Ok x) = IsValid x × (text ≡ spelling x)
Reads {X} spelling IsValid text (Err Spelling) = (x : X) → IsValid x → text ≡ spelling x → ⊥
Reads spelling IsValid text (Err NoMemory) = Unit {0}

-- this value, or want of memory
abbrev pub ReadBack : {X : Type 0} → X → Result X SpellFault → Type 0
ReadBack x (Ok y) = y ≡ x
ReadBack x (Err Spelling) = ⊥
ReadBack x (Err NoMemory) = Unit {0}

-- a reader of this text answers x
abbrev pub IsReadBack : {X : Type 0} → (X → List ℕ) → (X → Type 0) → X → List ℕ → Type 0
IsReadBack {X} spelling IsValid x text = (read : Result X SpellFault) → Reads spelling IsValid text read
    → ReadBack x read
