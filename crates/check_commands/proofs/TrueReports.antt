-- From a report that was read to the answer that is due.
use Rattle.std.proofs.Common.{◌≡◌, ℕ, ◌≤◌, List, length, Option, Some, None, Result, Ok, Err, inr, subst}
use Rattle.std.specs.Prelude.{IfSome, IfOk, IsOk}
use Rattle.presentation.specs.Presented.{Presented}
use Rattle.presentation.specs.Reading.{presentation_text}
use Rattle.cert_checker.specs.declared.checked.Checked.{Checked}
use Rattle.cert_checker.specs.declared.faults.CertFault.{CertFault}
use Rattle.cert_checker.specs.Truth.{IsTrueReport}
use Rattle.command_floor.specs.Files.{in_lines}

-- a report that holds is true
pub found_true : (p : Presented) (text : List ℕ) (found : Result Checked CertFault) → IsOk found → IfOk found (λ _. IsTrueReport p text) → IsTrueReport p text
found_true p text (Ok c) ok h = h
found_true p text (Err e) ok h = absurd cc

pub asked_true : (limit : ℕ) (told told' : Option (List ℕ)) (p : Presented) (items : List ℕ)
    → IfSome told (λ bytes. (length bytes ≤ limit) × (in_lines presentation_text bytes ≡ Ok p)) → IfSome told' (λ bytes. items ≡ bytes) → IsTrueReport p items
    → IfSome told (λ bytes. IfSome told' (λ report. (p : Presented) × (in_lines presentation_text bytes ≡ Ok p) × IsTrueReport p report))
asked_true limit None told' p items h is t = tt
asked_true limit (Some bytes) None p items h is t = tt
asked_true limit (Some bytes) (Some report) p items h is t = (p, h.1, subst (IsTrueReport p) is t)
