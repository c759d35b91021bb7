-- What is written is read back.
use Rattle.std.proofs.Common.{◌≡◌, ℕ, List, length, Result, Ok, Err, sym, ◌∙◌}
use Rattle.presentation.specs.Presented.{Presented, IsPresented}
use Rattle.presentation.proofs.WritingBack.{names_of}
use Rattle.module_vec.specs.declared.steps.Step.{Step}
use Rattle.vector_text.specs.declared.fault.SpellFault.{SpellFault}
use Rattle.vector_text.specs.declared.fault.SpellFault.TheVariants.{Spelling, NoMemory}
use Rattle.vector_text.specs.Reading.{Reads, ReadBack, IsReadBack}
use Rattle.step_text.specs.Spelling.{steps_text}
use Rattle.step_text.specs.Over.{AreStepsOf}
use Rattle.step_text.proofs.StepLists.{steps_same}

pub back : {X : Type 0} (spelling : X → List ℕ) (IsValid : X → Type 0) → ((x y : X) → IsValid x → IsValid y → spelling x ≡ spelling y → x ≡ y)
    → (x : X) (text : List ℕ) → IsValid x → text ≡ spelling x → (read : Result X SpellFault) → Reads spelling IsValid text read → ReadBack x read
back spelling IsValid one x text h e (Ok y) r = one y x r.0 h (sym r.1 ∙ e)
back spelling IsValid one x text h e (Err Spelling) r = r x h e
back spelling IsValid one x text h e (Err NoMemory) r = tt

pub one_list : (p : Presented) (s t : List Step) → IsPresented p → AreStepsOf (length p.names) s → AreStepsOf (length p.names) t
    → steps_text p.names s ≡ steps_text p.names t → s ≡ t
one_list p s t known h k e = steps_same p.names (names_of p known) s t h k e

pub steps_back : (p : Presented) (s : List Step) (text : List ℕ) → IsPresented p → AreStepsOf (length p.names) s → text ≡ steps_text p.names s
    → IsReadBack (steps_text p.names) (AreStepsOf (length p.names)) s text
steps_back p s text known steps e =
    back (steps_text p.names) (AreStepsOf (length p.names)) (λ x y a b f. one_list p x y known a b f) s text steps e
