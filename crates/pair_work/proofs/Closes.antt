-- Outcomes as they are made.
use Rattle.std.proofs.Common.{◌≡◌, ◌≢◌, ℕ, true, false, List, [], ◌∷◌, length, refl, sym, ap, subst, ◌∙◌, ◌==◌, arith}
use Rattle.std.specs.Prelude.{Result, Ok, Err}
use Rattle.std.specs.Result.{IsErr, IsErrAnd}
use Rattle.pair_work.specs.declared.faults.WorkFault.{WorkFault}
use Rattle.pair_work.specs.declared.faults.WorkFault.TheVariants.{Stop, NoMemory}
use Rattle.std.proofs.lemmas.List.{length-map}
use Rattle.module_vec.specs.declared.places.Term.{Term}
use Rattle.module_vec.specs.declared.steps.Step.{Step}
use Rattle.module_vec.specs.Vectors.{coefficient_at}
use Rattle.outcomes.specs.declared.tasks.Task.{Task}
use Rattle.presentation.specs.Presented.{Presented}
use Rattle.reduce_cofactor.specs.Answers.{IsRest}
use Rattle.basis_entry.specs.Entries.{BasisEntry, vectors_of}
use Rattle.pair_work.specs.declared.outcome.Close.{Close}
use Rattle.pair_work.specs.Outcomes.{Worked, UsedEntry, AllThere, IsTrueOf, IsOutcome}
use Rattle.pair_work.specs.Works.{Works, ClosesAs, AreUsedFor, IsUncovered, IsCarriedOut, Reduces, AreUsed, HaltsBy}
use Rattle.strong_pairs.specs.Pairs.{IsPair}
use Rattle.pair_work.proofs.Seen.{pair_there}

zero_count : (n : ℕ) → true ≡ (n == 0) → n ≡ 0
zero_count n h = grind arith

pub empty_of : (xs ys : List Term) → xs ≡ ys → true ≡ (length xs == 0) → ys ≡ []
empty_of [] ys e h = sym e
empty_of (x ∷ xs) ys e h = absurd (let none : length (x ∷ xs) ≡ 0 = zero_count (length (x ∷ xs)) h in omega (arith, none))

pub some_of : (xs ys : List Term) → xs ≡ ys → false ≡ (length xs == 0) → ys ≢ []
some_of [] ys e h none = let wrong : false ≡ true = h in cc
some_of (x ∷ xs) ys e h none = let f = e ∙ none in cc

-- how many entries the list has
pub counted : (n : ℕ) (vs : List (List Term)) (es : List BasisEntry) → n ≡ length vs → vs ≡ vectors_of es → n ≡ length es
counted n vs es count same = count ∙ ap length same ∙ length-map es (λ (e : BasisEntry). e.vector)

pub outcome : (es : List BasisEntry) (t : Task) (steps : List Step) (used : List UsedEntry) (front : ℕ) (close : Close)
    → AreUsed es (t.i ∷ (t.j ∷ [])) steps used → IsPair (vectors_of es) t.i t.j →
    ((fs : List BasisEntry) → AllThere fs used → IsTrueOf (vectors_of fs) t close) → IsOutcome (record { task = t; front = front; used = used; close = close })
outcome es t steps used front close are pair true_there = record {
  rising = are.rising;
  pair = λ fs others. pair_there es t used are.there (are.numbered 0 t.i refl) (are.numbered 1 t.j refl) pair fs others;
  close = true_there;
}

pub works : (p : Presented) (es : List BasisEntry) (t : Task) (used : List UsedEntry) (front : ℕ) (close : Close) (o : Worked)
    → o ≡ record { task = t; front = front; used = used; close = close } → front ≡ length es → AllThere es used → ClosesAs p (vectors_of es) t close
    → AreUsedFor t close used → Works p es t (Ok o)
works p es t used front close o is count there closes for = subst (λ (w : Worked). Works p es t (Ok w)) (sym is) (refl, count, there, closes, for)

pub reduces : (b : List (List Term)) (t : Task) (first second : Step) (steps ss : List Step) (w v : List Term) → IsUncovered b t
    → IsCarriedOut b t first second steps w → ss ≡ steps → w ≡ v → Reduces b t ss v
reduces b t first second steps ss w v un done e f = record {
  uncovered = un;
  vector = done.vector;
  pair = done.pair;
  rest = subst (λ (z : List Term). IsRest b (coefficient_at done.vector) z ss) f
      (subst (λ (z : List Step). IsRest b (coefficient_at done.vector) w z) (sym e) done.rest);
}

-- the fault of a chain that isn't carried out is that of the work
faulty : (p : Presented) (es : List BasisEntry) (t : Task) (fault : WorkFault) → IsUncovered (vectors_of es) t → HaltsBy (vectors_of es) t fault
    → Works p es t (Err fault)
faulty p es t (Stop stop) un halts = (un, halts)
faulty p es t NoMemory un halts = tt

pub handed_on : (p : Presented) (es : List BasisEntry) (t : Task) (r : Result Worked WorkFault) (fault : WorkFault) → IsErr r → IsErrAnd r (λ e. e ≡ fault)
    → IsUncovered (vectors_of es) t → HaltsBy (vectors_of es) t fault → Works p es t r
handed_on p es t (Ok w) fault err is un halts = absurd (let wrong : false ≡ true = err in cc)
handed_on p es t (Err e) fault err is un halts = subst (λ (z : WorkFault). Works p es t (Err z)) (sym is) (faulty p es t fault un halts)
