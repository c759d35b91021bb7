-- How a run ends once its answer is known.
use Rattle.std.proofs.Common.{ℕ, List, Option, inl, inr, sym, subst, refl}
use Rattle.command_floor.specs.declared.status.Status.{Status}
use Rattle.command_floor.specs.declared.status.Status.TheVariants.{Done, Open, WordsRefused, TextRefused, ReadFault, WriteFault, NoMemory, Fails}
use Rattle.command_floor.specs.Answers.{Answer, IsSaid}
use Rattle.command_floor.specs.Ends.{Wrote, Ends, Delivers}

-- a status that an answer may have ends a run that wrote the answer whole
ends_said : (reports : Type 0) (due : Answer → Type 0) (counted : Type 0) (old new : Option (List ℕ)) (status : Status)
    → IsSaid status → Wrote due old new status → Ends reports due counted old new status
ends_said reports due counted old new Done said wrote = wrote
ends_said reports due counted old new Open said wrote = wrote
ends_said reports due counted old new WordsRefused said wrote = wrote
ends_said reports due counted old new TextRefused said wrote = wrote
ends_said reports due counted old new ReadFault said wrote = wrote
ends_said reports due counted old new WriteFault said wrote = absurd (said.0 refl)
ends_said reports due counted old new NoMemory said wrote = absurd (said.1 refl)
ends_said reports due counted old new Fails said wrote = wrote

-- a due answer that was delivered ends the run
pub ends_delivered : (reports : Type 0) (due : Answer → Type 0) (counted : Type 0) (old new : Option (List ℕ)) (a : Answer) (status : Status)
    → due a → IsSaid a.status → Delivers counted old new a status → Ends reports due counted old new status
ends_delivered reports due counted old new a status d said (inl whole) =
    subst (λ (s : Status). Ends reports due counted old new s) (sym whole.0) (ends_said reports due counted old new a.status said (a, d, refl, whole.1))
ends_delivered reports due counted old new a status d said (inr part) =
    subst (λ (s : Status). Ends reports due counted old new s) (sym part.0) (part.1, (a, part.2.0, d, part.2.1))
