-- The texts of lists of steps, read step by step.
use Rattle.std.proofs.Common.{◌≡◌, ◌≢◌, ◌⊎◌, inl, inr, ℕ, zero, suc, ℤ, pos, negsuc, map, ◌<◌, List, [], ◌∷◌, ◌++◌, length, Option, Some, None, Result, Ok, Err}
use Rattle.std.proofs.Common.{decimal, refl, sym, ap, subst, ◌∙◌, arith, append_assoc}
use Rattle.spelling.specs.Spelling.{IsRead, first_part, coefficient}
use Rattle.presentation.specs.Writing.{led_by}
use Rattle.presentation.proofs.WritingBack.{AreNames}
use Rattle.module_vec.specs.declared.steps.Step.{Step}
use Rattle.module_vec.proofs.FallingTerms.{all_join}
use Rattle.vector_text.specs.declared.fault.SpellFault.{SpellFault}
use Rattle.vector_text.specs.declared.fault.SpellFault.TheVariants.{Spelling, NoMemory}
use Rattle.vector_text.specs.Spelling.{monomial_text}
use Rattle.vector_text.specs.Reading.{Reads}
use Rattle.vector_text.proofs.Parts.{Leaves, goes_on, unread, listed_same}
use Rattle.step_text.specs.Spelling.{step_text, steps_text, listed_text}
use Rattle.step_text.specs.Over.{IsStepOf, AreStepsOf, AreSomeStepsOf}
use Rattle.step_text.proofs.StepTexts.{steps_apart}

-- a list on its way: its steps so far, and what is left of the text
pub record Going (names : List (List ℕ)) (text : List ℕ) (steps : List Step) (left : Option (List ℕ)) : Type 0 where
  pub leaves : Leaves 32 (step_text names) text steps left
  pub each : AreStepsOf (length names) steps

pub begins : (names : List (List ℕ)) (text : List ℕ) → Going names text [] (Some text)
begins names text = record { leaves = refl; each = tt }

-- something is left
pub still : (names : List (List ℕ)) (text : List ℕ) (steps : List Step) (left : Option (List ℕ)) (rest : List ℕ) → left ≡ Some rest
    → Going names text steps left → Going names text steps (Some rest)
still names text steps left rest e h = let P : Option (List ℕ) → Type 0 = Going names text steps in subst P e h

-- no list's text goes on with this part
pub no_step : (names : List (List ℕ)) → AreNames names → (text rest front : List ℕ) (after : Option (List ℕ)) (steps : List Step)
    → Going names text steps (Some rest)
    → first_part 32 rest ≡ (front, after) → IsRead (step_text names) (IsStepOf (length names)) front None
    → (ss : List Step) → AreSomeStepsOf (length names) ss → text ≡ listed_text names ss → ⊥
no_step names known text rest front after steps h e bad = λ ss k is.
    unread 32 (step_text names) (IsStepOf (length names)) (steps_apart names known) text rest front after steps ss h.leaves e h.each bad k.steps k.some is

-- one more step
pub going_on : (names : List (List ℕ)) (text rest front : List ℕ) (after : Option (List ℕ)) (steps : List Step) (s : Step) → Going names text steps (Some rest)
    → first_part 32 rest ≡ (front, after) → IsRead (step_text names) (IsStepOf (length names)) front (Some s) → Going names text (steps ++ s ∷ []) after
going_on names text rest front after steps s h e good = record {
  leaves = goes_on 32 (step_text names) text rest front after steps s h.leaves e good.1;
  each = all_join (IsStepOf (length names)) steps (s ∷ []) h.each (good.0, tt);
}

-- the whole text is read
pub whole_read : (names : List (List ℕ)) (text : List ℕ) (steps : List Step) → Going names text steps None
    → AreSomeStepsOf (length names) steps × (text ≡ listed_text names steps)
whole_read names text steps h = (record { steps = h.each; some = h.leaves.0 }, h.leaves.1)

-- a list with a step, and the one without
listed_is : (names : List (List ℕ)) (ss : List Step) → 0 < length ss → steps_text names ss ≡ listed_text names ss
listed_is names [] some = absurd (omega arith)
listed_is names (s ∷ ss) some = refl

none_is : (names : List (List ℕ)) (ss : List Step) → length ss ≡ 0 → steps_text names ss ≡ 48 ∷ []
none_is names [] e = refl
none_is names (s ∷ ss) e = absurd (omega (arith, e))

some_or_none : (n : ℕ) → (n ≡ 0) ⊎ (0 < n)
some_or_none zero = inl refl
some_or_none (suc n) = inr (omega arith)

no_list : (names : List (List ℕ)) (text : List ℕ) → text ≢ 48 ∷ [] → ((ss : List Step) → AreSomeStepsOf (length names) ss → text ≡ listed_text names ss → ⊥)
    → (ss : List Step) → AreStepsOf (length names) ss → text ≡ steps_text names ss → ⊥
no_list names text other bad ss h e = by (some_or_none (length ss)) where
  by : (length ss ≡ 0) ⊎ (0 < length ss) → ⊥
  by (inl none) = other (e ∙ none_is names ss none)
  by (inr some) = bad ss (record { steps = h; some = some }) (e ∙ listed_is names ss some)

-- what the reader of some steps answers is the answer on all lists, where the text isn't `0`
pub list_read : (names : List (List ℕ)) (text : List ℕ) (r : Result (List Step) SpellFault) → text ≢ 48 ∷ []
    → Reads (listed_text names) (AreSomeStepsOf (length names)) text r → Reads (steps_text names) (AreStepsOf (length names)) text r
list_read names text (Ok ss) other h = (h.0.steps, h.1 ∙ sym (listed_is names ss h.0.some))
list_read names text (Err Spelling) other h = no_list names text other h
list_read names text (Err NoMemory) other h = tt

head_same : {a b : ℕ} {s t : List ℕ} → a ∷ s ≡ b ∷ t → a ≡ b
head_same e = cc

-- a coefficient doesn't begin with `0`
not_zero : (z : ℤ) (more : List ℕ) → 48 ∷ [] ≡ coefficient z ++ more → ⊥
not_zero (pos n) more e = omega (arith, head_same e)
not_zero (negsuc n) more e = omega (arith, head_same e)

-- behind the coefficient of the first step
abbrev tail_of : List (List ℕ) → Step → List Step → List ℕ
tail_of names s ss = (42 ∷ (monomial_text names s.t ++ 64 ∷ decimal s.by)) ++ led_by (32 ∷ []) (map (step_text names) ss)

no_zero : (names : List (List ℕ)) (s : Step) (ss : List Step) → 48 ∷ [] ≡ steps_text names (s ∷ ss) → ⊥
no_zero names s ss e =
    not_zero s.q (tail_of names s ss) (e ∙ append_assoc (coefficient s.q) (42 ∷ (monomial_text names s.t ++ 64 ∷ decimal s.by))
    (led_by (32 ∷ []) (map (step_text names) ss)))

-- a text is that of one list of steps
pub steps_same : (names : List (List ℕ)) → AreNames names → (ss us : List Step) → AreStepsOf (length names) ss → AreStepsOf (length names) us
    → steps_text names ss ≡ steps_text names us → ss ≡ us
steps_same names known [] [] h k e = refl
steps_same names known [] (u ∷ us) h k e = absurd (no_zero names u us e)
steps_same names known (s ∷ ss) [] h k e = absurd (no_zero names s ss (sym e))
steps_same names known (s ∷ ss) (u ∷ us) h k e =
    listed_same 32 (step_text names) (IsStepOf (length names)) (steps_apart names known) (s ∷ ss) (u ∷ us) h k (ap Some e)
