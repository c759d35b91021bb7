-- A row, as it is pushed state by state.
use Rattle.std.proofs.Common.{ℕ, zero, suc, ◌+◌, ◌≡◌, arith, refl, sym, ap, ◌∙◌, List, [], ◌∷◌, ◌++◌, length, drop, Some}
use Rattle.std.specs.List.{slice_get}
use Rattle.std.proofs.lemmas.Option.{slice_get_within}
use Rattle.task_table.specs.declared.rows.Settled.{Settled}
use Rattle.task_table.specs.declared.states.TaskState.{TaskState}
use Rattle.task_table.specs.Rows.{row_states, first_state}

pub row_length : (row : List Settled) → length (row_states row) ≡ length row + length row
row_length [] = refl
row_length (s ∷ ss) = let h = row_length ss in omega (arith, h)

pub two_more : (xs ys : List TaskState) (a b : TaskState) → ((xs ++ a ∷ []) ++ b ∷ []) ++ ys ≡ xs ++ (a ∷ (b ∷ ys))
two_more [] ys a b = refl
two_more (x ∷ xs) ys a b = ap (λ z. x ∷ z) (two_more xs ys a b)

pub row_ahead : (row : List Settled) (i : ℕ) (s : Settled) → slice_get row i ≡ Some s
    → row_states (drop i row) ≡ first_state s.g ∷ (first_state s.s ∷ row_states (drop (i + 1) row))
row_ahead [] i s h = absurd (omega (arith, slice_get_within [] i s h))
row_ahead (x ∷ row) zero s h = let e : x ≡ s = cc in λ k. first_state (e k).g ∷ (first_state (e k).s ∷ row_states row)
row_ahead (x ∷ row) (suc i) s h = let e : suc i + 1 ≡ suc (i + 1) = omega arith in rw e (row_ahead row i s h)

-- where both states of a pair are pushed, the row that is left is shorter by them
pub pair_pushed : (items one two all : List TaskState) (row : List Settled) (i : ℕ) (s : Settled) (g_state s_state : TaskState) → one ≡ items ++ g_state ∷ []
    → two ≡ one ++ s_state ∷ [] →
    g_state ≡ first_state s.g → s_state ≡ first_state s.s → slice_get row i ≡ Some s → items ++ row_states (drop i row) ≡ all
    → two ++ row_states (drop (i + 1) row) ≡ all
pair_pushed items one two all row i s g_state s_state p q a b h so_far =
    let rest = row_states (drop (i + 1) row) in
    let e : two ≡ (items ++ first_state s.g ∷ []) ++ first_state s.s ∷ [] = q ∙ (λ k. (p ∙ ap (λ x. items ++ x ∷ []) a) k ++ b k ∷ []) in
    ap (λ (xs : List TaskState). xs ++ rest) e ∙ (two_more items rest (first_state s.g) (first_state s.s)
    ∙ (ap (λ (xs : List TaskState). items ++ xs) (sym (row_ahead row i s h)) ∙ so_far))
