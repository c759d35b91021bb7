-- A list of moves has one outcome, want of memory aside.
use Rattle.std.proofs.Common.{◌≡◌, ◌≢◌, ℕ, suc, ◌+◌, ◌<◌, List, [], ◌∷◌, ◌++◌, length, Result, Ok, Err, refl, sym, ◌∙◌, ap, subst, arith}
use Rattle.free_words.specs.declared.letter.Letter.{Letter}
use Rattle.word_text.specs.Place.{capped}
use Rattle.presentation.specs.Presented.{Presented}
use Rattle.derivation.specs.declared.moves.Move.{Move}
use Rattle.derivation.specs.declared.moves.MoveReason.{MoveReason}
use Rattle.derivation.specs.declared.moves.MoveFault.{MoveFault}
use Rattle.derivation.specs.declared.moves.MoveFault.TheVariants.{Refused}
use Rattle.derivation.specs.declared.moves.StepsFault.{StepsFault}
use Rattle.derivation.specs.declared.moves.StepsFault.TheVariants.{BadMove, NotEmpty}
use Rattle.derivation.specs.declared.moves.StepsFault.TheVariants as steps
use Rattle.derivation.specs.Making.{MoveGives, Runs, StepsGive}
use Rattle.derivation.proofs.OneAnswer.{one_answer}

-- a move that is made leads to one word
made_same : (p : Presented) (old : List Letter) (m : Move) (new next : List Letter) → MoveGives p old m (Ok new) → MoveGives p old m (Ok next) → new ≡ next
made_same p old m new next a b =
    let first : Result (List Letter) MoveFault = Ok new in
    let same : first ≡ Ok next = one_answer p old m (Ok new) (Ok next) (λ e. absurd cc) (λ e. absurd cc) a b in cc

-- a move that is refused isn't made
not_both : (p : Presented) (old : List Letter) (m : Move) (new : List Letter) (why : MoveReason) → MoveGives p old m (Ok new)
    → MoveGives p old m (Err (Refused why)) → ⊥
not_both p old m new why a b =
    let same : Ok new ≡ Err (Refused why) = one_answer p old m (Ok new) (Err (Refused why)) (λ e. absurd cc) (λ e. absurd cc) a b in absurd cc

-- a move is refused for one reason
why_same : (p : Presented) (old : List Letter) (m : Move) (why other : MoveReason) → MoveGives p old m (Err (Refused why))
    → MoveGives p old m (Err (Refused other)) → why ≡ other
why_same p old m why other a b =
    let first : Result (List Letter) MoveFault = Err (Refused why) in
    let same : first ≡ Err (Refused other) =
    one_answer p old m (Err (Refused why)) (Err (Refused other)) (λ e. absurd cc) (λ e. absurd cc) a b in cc

-- a run leads to one word
runs_same : (p : Presented) (old : List Letter) (ms : List Move) (new next : List Letter) → Runs p old ms new → Runs p old ms next → new ≡ next
runs_same p old [] new next a b = sym a ∙ b
runs_same p old (m ∷ ms) new next a b =
    runs_same p a.0 ms new next a.2 (subst (λ w. Runs p w ms next) (sym (made_same p old m a.0 b.0 a.1 b.1)) b.2)

-- where a move of the list is refused, the list isn't run to its end
runs_not : (p : Presented) (old : List Letter) (made later : List Move) (m : Move) (mid new : List Letter) (why : MoveReason)
    → Runs p old (made ++ m ∷ later) new → Runs p old made mid → MoveGives p mid m (Err (Refused why)) → ⊥
runs_not p old [] later m mid new why whole run refused =
    not_both p old m whole.0 why whole.1 (subst (λ w. MoveGives p w m (Err (Refused why))) (sym run) refused)
runs_not p old (x ∷ made) later m mid new why whole run refused =
    runs_not p whole.0 made later m mid new why whole.2 (subst (λ w. Runs p w made mid) (made_same p old x run.0 whole.0 run.1 whole.1) run.2) refused

-- a run that ends at a refused move
pub record Stopped (p : Presented) (old : List Letter) (moves made : List Move) (why : MoveReason) : Type 0 where
  pub m : Move
  pub later : List Move
  pub mid : List Letter
  pub whole : moves ≡ made ++ m ∷ later
  pub run : Runs p old made mid
  pub refused : MoveGives p mid m (Err (Refused why))

tail_same : (x y : Move) (xs ys : List Move) → x ∷ xs ≡ y ∷ ys → (x ≡ y) × (xs ≡ ys)
tail_same x y xs ys e = (cc, cc)

stopped_same : (p : Presented) (old : List Letter) (moves made other : List Move) (why because : MoveReason) → Stopped p old moves made why
    → Stopped p old moves other because → (length made ≡ length other) × (why ≡ because)
stopped_same p old moves [] [] why because a b =
    let heads = tail_same a.m b.m a.later b.later (sym a.whole ∙ b.whole) in (
      refl,
      why_same p old a.m why because (subst (λ w. MoveGives p w a.m (Err (Refused why))) (sym a.run) a.refused)
          (subst (λ (n : Move). MoveGives p old n (Err (Refused because))) (sym heads.0)
          (subst (λ w. MoveGives p w b.m (Err (Refused because))) (sym b.run) b.refused)),
    )
stopped_same p old moves [] (y ∷ other) why because a b =
    let heads = tail_same a.m y a.later (other ++ b.m ∷ b.later) (sym a.whole ∙ b.whole) in
    absurd (not_both p old a.m b.run.0 why (subst (λ (n : Move). MoveGives p old n (Ok b.run.0)) (sym heads.0) b.run.1)
    (subst (λ w. MoveGives p w a.m (Err (Refused why))) (sym a.run) a.refused))
stopped_same p old moves (x ∷ made) [] why because a b =
    let heads = tail_same b.m x b.later (made ++ a.m ∷ a.later) (sym b.whole ∙ a.whole) in
    absurd (not_both p old b.m a.run.0 because (subst (λ (n : Move). MoveGives p old n (Ok a.run.0)) (sym heads.0) a.run.1)
    (subst (λ w. MoveGives p w b.m (Err (Refused because))) (sym b.run) b.refused))
stopped_same p old moves (x ∷ made) (y ∷ other) why because a b =
    let heads = tail_same x y (made ++ a.m ∷ a.later) (other ++ b.m ∷ b.later) (sym a.whole ∙ b.whole) in
    let same : b.run.0 ≡ a.run.0 = made_same p old x b.run.0 a.run.0 (subst (λ (n : Move). MoveGives p old n (Ok b.run.0)) (sym heads.0) b.run.1) a.run.1 in
    let first : Stopped p a.run.0 (made ++ a.m ∷ a.later) made why =
    record { m = a.m; later = a.later; mid = a.mid; whole = refl; run = a.run.2; refused = a.refused } in
    let second : Stopped p a.run.0 (made ++ a.m ∷ a.later) other because =
    record { m = b.m; later = b.later; mid = b.mid; whole = heads.1; run = subst (λ w. Runs p w other b.mid) same b.run.2; refused = b.refused } in
    let rest = stopped_same p a.run.0 (made ++ a.m ∷ a.later) made other why because first second in
    (ap suc rest.0, rest.1)

-- what stands at a bad move
bad : (p : Presented) (w : List Letter) (moves : List Move) (number : ℕ) (why : MoveReason) (gives : StepsGive p w moves (Err (BadMove number why)))
    → Stopped p w moves gives.0 why
bad p w moves number why gives =
    record { m = gives.1; later = gives.2; mid = gives.3; whole = gives.4; run = gives.5; refused = gives.6 }

-- where a move is refused, no run of all goes on
bad_not : (p : Presented) (w : List Letter) (moves : List Move) (number : ℕ) (why : MoveReason) (end : List Letter)
    → StepsGive p w moves (Err (BadMove number why)) → Runs p w moves end → ⊥
bad_not p w moves number why end gives run =
    runs_not p w gives.0 gives.2 gives.1 gives.3 end why (subst (λ ms. Runs p w ms end) gives.4 run) gives.5 gives.6

some_left : (end : List Letter) → [] ≡ end → 0 < length end → ⊥
some_left [] e lt = omega (arith, lt)
some_left (x ∷ end) e lt = cc

pub one_outcome : (p : Presented) (w : List Letter) (moves : List Move) (r s : Result (Unit {0}) StepsFault)
    → r ≢ Err steps.NoMemory → s ≢ Err steps.NoMemory → StepsGive p w moves r → StepsGive p w moves s → r ≡ s
one_outcome p w moves (Err steps.NoMemory) s r_some s_some a b = absurd (r_some refl)
one_outcome p w moves r (Err steps.NoMemory) r_some s_some a b = absurd (s_some refl)
one_outcome p w moves (Ok done) (Ok over) r_some s_some a b = refl
one_outcome p w moves (Ok done) (Err (BadMove number why)) r_some s_some a b = absurd (bad_not p w moves number why [] b a)
one_outcome p w moves (Ok done) (Err (NotEmpty left)) r_some s_some a b =
    absurd (some_left b.0 (runs_same p w moves [] b.0 a b.1) (rw (← b.2) b.3))
one_outcome p w moves (Err (BadMove number why)) (Ok done) r_some s_some a b = absurd (bad_not p w moves number why [] a b)
one_outcome p w moves (Err (BadMove number why)) (Err (BadMove other because)) r_some s_some a b =
    let same = stopped_same p w moves a.0 b.0 why because (bad p w moves number why a) (bad p w moves other because b) in
    let numbers : number ≡ other = a.7 ∙ ap (λ n. capped (n + 1)) same.0 ∙ sym b.7 in
    rw (numbers, same.1) refl
one_outcome p w moves (Err (BadMove number why)) (Err (NotEmpty left)) r_some s_some a b = absurd (bad_not p w moves number why b.0 a b.1)
one_outcome p w moves (Err (NotEmpty left)) (Ok done) r_some s_some a b =
    absurd (some_left a.0 (runs_same p w moves [] a.0 b a.1) (rw (← a.2) a.3))
one_outcome p w moves (Err (NotEmpty left)) (Err (BadMove number why)) r_some s_some a b = absurd (bad_not p w moves number why a.0 b a.1)
one_outcome p w moves (Err (NotEmpty left)) (Err (NotEmpty rest)) r_some s_some a b =
    let same : left ≡ rest = a.2 ∙ ap length (runs_same p w moves a.0 b.0 a.1 b.1) ∙ sym b.2 in rw same refl
