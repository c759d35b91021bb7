-- A text at hand that is refused.
use Rattle.std.proofs.Common.{List, ℕ, Result, Err, refl}
use Rattle.word_text.specs.declared.fault.Fault.{Fault}
use Rattle.word_text.specs.declared.fault.ReadFault.{ReadFault}
use Rattle.word_text.specs.declared.fault.ReadFault.TheVariants as faults
use Rattle.word_text.specs.Place.{ReadsText}
use Rattle.command_floor.specs.declared.answer.Halt.{Halt}
use Rattle.command_floor.specs.declared.answer.Halt.TheVariants.{Says, NoMemory}
use Rattle.command_floor.specs.Files.{at_lines, Refuses, TextGives}

pub text_refused : {X : Type 0} (name text : List ℕ) (read : Result X Fault) (e : ReadFault) (h : Halt)
    → ReadsText text read (Err e) → Refuses name e h → TextGives name (at_lines text read) (Err h)
text_refused name text read faults.NoMemory (Says a) reads refuses = absurd refuses
text_refused name text read faults.NoMemory NoMemory reads refuses = tt
text_refused name text read (faults.Text f) NoMemory reads refuses = tt
text_refused name text read (faults.Text f) (Says a) reads refuses = (f, rw (reads.1, reads.2) refl, refuses)
