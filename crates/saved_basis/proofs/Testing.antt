-- How the test of tasks goes on, and what its faults tell.
use Rattle.std.proofs.Common.{◌≡◌, ◌≢◌, ℕ, ◌+◌, ◌<◌, ◌≤◌, ◌⊎◌, inl, inr, Bool, true, false, List, [], length, refl, sym, subst, ◌∙◌, arith}
use Rattle.std.specs.Prelude.{IsTrue, ◌↔◌, ℤ, Result, Ok, Err, MatchResult}
use Rattle.module_vec.specs.declared.places.Term.{Term}
use Rattle.module_vec.specs.Vectors.{coefficient_at}
use Rattle.outcomes.specs.declared.kinds.PairKind.{PairKind}
use Rattle.outcomes.specs.declared.kinds.PairKind.TheVariants.{S, G}
use Rattle.outcomes.specs.declared.tasks.Task.{Task}
use Rattle.reduce_cofactor.specs.Answers.{IsRest}
use Rattle.strong_pairs.specs.Covering.{Divides}
use Rattle.strong_pairs.specs.Pairs.{IsPair}
use Rattle.strong_pairs.specs.Tasks.{IsClosedFromStart}
use Rattle.strong_pairs.proofs.Coverage.{order_of}
use Rattle.pair_work.specs.Works.{IsUncovered, Stops}
use Rattle.saved_basis.specs.declared.faults.BasisFault.{BasisFault}
use Rattle.saved_basis.specs.declared.faults.BasisFault.TheVariants.{Line, Open, Stopped, NoMemory}
use Rattle.saved_basis.specs.Tasks.{AddsNothing, LeavesRest, Passes, AllPass, IsEarlier, IsFirstToFail, IsAny, IsOfRow}
use Rattle.saved_basis.specs.Tasks.{IsOfPair, PassWhere, TellsFirst, TellsTask, EndsIn}

module _ (b : List (List Term)) where
  -- ---- one task

  pub adds_nothing : (t : Task) (w : List Term) → IsUncovered b t → EndsIn b t w → w ≡ [] → AddsNothing b t
  adds_nothing t w uncovered end none = inr (
    end.2.0,
    record {
      uncovered = uncovered;
      vector = end.0;
      pair = end.1;
      rest = subst (λ (z : List Term). IsRest b (coefficient_at end.0) z end.2.0) none end.2.1;
    },
  )

  pub leaves_rest : (t : Task) (w : List Term) → IsUncovered b t → EndsIn b t w → w ≢ []
      → TellsTask b t (Open t.i t.j t.kind)
  leaves_rest t w uncovered end some =
      (refl, (w, some, (end.2.0, record { uncovered = uncovered; vector = end.0; pair = end.1; rest = end.2.1 })))

  -- the fault of a task's work is that of the first of some tasks
  pub tells_first : (P : Task → Type 0) (t : Task) (fault : BasisFault) → IsFirstToFail P b t → TellsTask b t fault → TellsFirst P b fault
  tells_first P t (Line n k) first h = h
  tells_first P t (Open i j kind) first h = (subst (IsFirstToFail P b) (sym h.0) first, subst (λ (u : Task). LeavesRest b u) (sym h.0) h.1)
  tells_first P t (Stopped i j kind stop) first h = (subst (IsFirstToFail P b) (sym h.0) first, subst (λ (u : Task). Stops b u stop) (sym h.0) h.1)
  tells_first P t NoMemory first h = tt

  -- ---- more tasks

  module _ (P Q : Task → Type 0) (among : (t : Task) → P t → Q t)
      (earlier : (t u : Task) → P t → IsPair b u.i u.j → Q u → IsEarlier u t → Passes b u ⊎ P u) where
    still_first : (t : Task) → IsFirstToFail P b t → IsFirstToFail Q b t
    still_first t first = record {
      pair = first.pair;
      of = among t first.of;
      needed = first.needed;
      before = λ u pair of before. by u pair before (earlier t u first.of pair of before);
    }
      where
        by : (u : Task) → IsPair b u.i u.j → IsEarlier u t → Passes b u ⊎ P u → Passes b u
        by u pair before (inl passes) = passes
        by u pair before (inr one) = first.before u pair one before

    pub widened : (fault : BasisFault) → TellsFirst P b fault → TellsFirst Q b fault
    widened (Line n k) h = h
    widened (Open i j kind) h = (still_first (record { i = i; j = j; kind = kind }) h.0, h.1)
    widened (Stopped i j kind stop) h = (still_first (record { i = i; j = j; kind = kind }) h.0, h.1)
    widened NoMemory h = tt

-- ---- the tasks of a pair

same_task : (t : Task) (i j : ℕ) (kind : PairKind) → t.i ≡ i → t.j ≡ j → t.kind ≡ kind → t ≡ record { i = i; j = j; kind = kind }
same_task t i j kind e f g = λ n. record { i = e n; j = f n; kind = g n }

not_twice : G ≡ S → ⊥
not_twice e = cc

module _ (b : List (List Term)) (i j : ℕ) (pair : IsPair b i j) where
  pub first_fails : (IsClosedFromStart b G i j → ⊥) → (fault : BasisFault) → TellsTask b (record { i = i; j = j; kind = G }) fault
      → TellsFirst (IsOfPair i j) b fault
  first_fails unsettled fault h = tells_first b (IsOfPair i j) (record { i = i; j = j; kind = G }) fault (record {
    pair = pair;
    of = (refl, refl);
    needed = unsettled;
    before = λ u other of before. absurd (by u of before);
  }) h
    where
      by : (u : Task) → IsOfPair i j u → IsEarlier u (record { i = i; j = j; kind = G }) → ⊥
      by u of (inl lt) = omega (arith, lt, of.0)
      by u of (inr (same, inl lt)) = omega (arith, lt, of.1)
      by u of (inr (same, inr e)) = not_twice e.2

  pub second_fails : Passes b (record { i = i; j = j; kind = G }) → (fault : BasisFault)
      → TellsTask b (record { i = i; j = j; kind = S }) fault → TellsFirst (IsOfPair i j) b fault
  second_fails passes fault h = tells_first b (IsOfPair i j) (record { i = i; j = j; kind = S }) fault (record {
    pair = pair;
    of = (refl, refl);
    needed = λ never. never;
    before = λ u other of before. by u of before;
  }) h
    where
      by : (u : Task) → IsOfPair i j u → IsEarlier u (record { i = i; j = j; kind = S }) → Passes b u
      by u of (inl lt) = absurd (omega (arith, lt, of.0))
      by u of (inr (same, inl lt)) = absurd (omega (arith, lt, of.1))
      by u of (inr (same, inr e)) = subst (Passes b) (sym (same_task u i j G of.1 of.0 e.1)) passes

  pub pair_passes : Passes b (record { i = i; j = j; kind = G }) → AddsNothing b (record { i = i; j = j; kind = S }) → PassWhere (IsOfPair i j) b
  pair_passes one two t other of = by t.kind refl
    where
      by : (kind : PairKind) → t.kind ≡ kind → Passes b t
      by G e = subst (Passes b) (sym (same_task t i j G of.1 of.0 e)) one
      by S e = subst (Passes b) (sym (same_task t i j S of.1 of.0 e)) (inr two)

  -- what is answered of the one task and of the other
  pub first_result : (IsClosedFromStart b G i j → ⊥) → (r : Result (Unit {0}) BasisFault)
      → MatchResult r (λ _. AddsNothing b (record { i = i; j = j; kind = G })) (TellsTask b (record { i = i; j = j; kind = G }))
      → MatchResult r (λ _. Passes b (record { i = i; j = j; kind = G })) (TellsFirst (IsOfPair i j) b)
  first_result unsettled (Ok u) h = inr h
  first_result unsettled (Err e) h = first_fails unsettled e h

  pub second_result : Passes b (record { i = i; j = j; kind = G }) → (r : Result (Unit {0}) BasisFault)
      → MatchResult r (λ _. AddsNothing b (record { i = i; j = j; kind = S })) (TellsTask b (record { i = i; j = j; kind = S }))
      → MatchResult r (λ _. PassWhere (IsOfPair i j) b) (TellsFirst (IsOfPair i j) b)
  second_result passes (Ok u) h = pair_passes passes h
  second_result passes (Err e) h = second_fails passes e h

-- ---- a row, and all rows

-- the pairs of a row below i
abbrev pub IsInRow : ℕ → ℕ → Task → Type 0
IsInRow j i t = (t.j ≡ j) × (t.i < i)

-- the rows below j
abbrev pub IsInRows : ℕ → Task → Type 0
IsInRows j t = t.j < j

module _ (b : List (List Term)) where
  pub pair_fails : (i j : ℕ) → PassWhere (IsInRow j i) b → (fault : BasisFault) → TellsFirst (IsOfPair i j) b fault → TellsFirst (IsOfRow j) b fault
  pair_fails i j passed fault h = widened b (IsOfPair i j) (IsOfRow j) (λ t of. of.0) earlier fault h
    where
      earlier : (t u : Task) → IsOfPair i j t → IsPair b u.i u.j → IsOfRow j u → IsEarlier u t → Passes b u ⊎ IsOfPair i j u
      earlier t u of pair row (inl lt) = absurd (omega (arith, lt, row, of.0))
      earlier t u of pair row (inr (same, inl lt)) = inl (passed u pair (row, omega (arith, lt, of.1)))
      earlier t u of pair row (inr (same, inr e)) = inr (row, e.0 ∙ of.1)

  pub row_fails : (j : ℕ) → PassWhere (IsInRows j) b → (fault : BasisFault) → TellsFirst (IsOfRow j) b fault → TellsFirst IsAny b fault
  row_fails j passed fault h = widened b (IsOfRow j) IsAny (λ t of. tt) earlier fault h
    where
      earlier : (t u : Task) → IsOfRow j t → IsPair b u.i u.j → IsAny u → IsEarlier u t → Passes b u ⊎ IsOfRow j u
      earlier t u of pair any (inl lt) = inl (passed u pair (omega (arith, lt, of)))
      earlier t u of pair any (inr e) = inr (e.0 ∙ of)

  pub no_pairs : (j : ℕ) → PassWhere (IsInRow j 0) b
  no_pairs j t pair of = absurd (omega (arith, of.1))

  pub pairs_more : (i j : ℕ) → PassWhere (IsInRow j i) b → PassWhere (IsOfPair i j) b → PassWhere (IsInRow j (i + 1)) b
  pairs_more i j before here t pair of = by (order_of t.i i)
    where
      by : (t.i < i) ⊎ ((t.i ≡ i) ⊎ (i < t.i)) → Passes b t
      by (inl lt) = before t pair (of.0, lt)
      by (inr (inl e)) = here t pair (of.0, e)
      by (inr (inr gt)) = absurd (omega (arith, gt, of.1))

  pub no_pair : (i j : ℕ) → (IsPair b i j → ⊥) → PassWhere (IsOfPair i j) b
  no_pair i j none t pair of = absurd (none (subst (λ (k : ℕ). IsPair b k j) of.1 (subst (λ (k : ℕ). IsPair b t.i k) of.0 pair)))

  pub row_passes : (i j : ℕ) → j ≤ i → PassWhere (IsInRow j i) b → PassWhere (IsOfRow j) b
  row_passes i j all before t pair of = before t pair (of, (let o = pair.order in omega (arith, o, of, all)))

  pub no_rows : PassWhere (IsInRows 0) b
  no_rows t pair of = absurd (omega (arith, of))

  pub rows_more : (j : ℕ) → PassWhere (IsInRows j) b → PassWhere (IsOfRow j) b → PassWhere (IsInRows (j + 1)) b
  rows_more j before here t pair of = by (order_of t.j j)
    where
      by : (t.j < j) ⊎ ((t.j ≡ j) ⊎ (j < t.j)) → Passes b t
      by (inl lt) = before t pair lt
      by (inr (inl e)) = here t pair e
      by (inr (inr gt)) = absurd (omega (arith, gt, of))

  pub rows_pass : (j : ℕ) → length b ≤ j → PassWhere (IsInRows j) b → AllPass b
  rows_pass j all before t pair = before t pair (let w = pair.within in omega (arith, w, all))

-- ---- divisors

pub settled : (k l x y : ℤ) → k ≡ x → l ≡ y → (b d : Bool) → IsTrue b ↔ Divides k l → b ≡ false → IsTrue d ↔ Divides l k
    → IsTrue d ↔ (Divides x y ⊎ Divides y x)
settled k l x y e f b d one off two =
    subst (λ (u : ℤ). IsTrue d ↔ (Divides u y ⊎ Divides y u)) e (subst (λ (v : ℤ). IsTrue d ↔ (Divides k v ⊎ Divides v k)) f
    ((λ yes. inr (two.0 yes)), by))
  where
    by : Divides k l ⊎ Divides l k → IsTrue d
    by (inl h) = absurd (let wrong : false ≡ true = sym off ∙ one.1 h in cc)
    by (inr h) = two.1 h
