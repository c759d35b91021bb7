-- What a whole read answers.
use Rattle.std.specs.Prelude.{◌≡◌, ℕ, ◌<◌, ◌≤◌, List, length, Option, IfSome, Result, Ok, Err, Vec}
use Rattle.std.specs.declared.alloc.Global.{Global}
use Rattle.mb_io.specs.Shelf.{CountRose}
use Rattle.mb_io.specs.declared.load.LoadFault.{LoadFault}
use Rattle.mb_io.specs.declared.load.LoadFault.TheVariants.{ReadFault, FileTooLong, NoMemory}

-- The bytes under a name were read, at most so many, where the shelf tells them; or there are more; or the shelf's
-- count rose from the one number to the other; or no memory was left.
abbrev pub Loads : ℕ → Option (List ℕ) → ℕ → ℕ → Result (Vec ℕ Global) LoadFault → Type 0
Loads limit told before now (Ok v) = (length v.items ≤ limit) × IfSome told (λ bytes. v.items ≡ bytes)
Loads limit told before now (Err (FileTooLong at)) = (at ≡ limit) × IfSome told (λ bytes. limit < length bytes)
Loads limit told before now (Err ReadFault) = CountRose before now
Loads limit told before now (Err NoMemory) = Unit {0}
