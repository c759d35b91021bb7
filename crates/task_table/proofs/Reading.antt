-- What calls on a table need.
use Rattle.std.proofs.Common.{ℕ, ◌-◌, ◌<◌, ◌≡◌, arith, ap, ◌∙◌, List, ◌++◌, length, map, get_or, take, drop}
use Rattle.std.proofs.lemmas.List.{length-map, length-take-le, get_or-drop}
use Rattle.std.proofs.Math.Seq.{get_or-append_right, take-append_seam}
use Rattle.std.proofs.lemmas.Option.{slice_get-get_or, get_or_from_slice_get}
use Rattle.outcomes.specs.declared.tasks.Task.{Task}
use Rattle.task_table.specs.declared.states.TaskState.{TaskState}
use Rattle.task_table.specs.declared.states.TaskState.TheVariants.{Never}
use Rattle.task_table.specs.Tasks.{number_of}
use Rattle.task_table.specs.Tables.{state_at}

-- what a loop that writes f over each element still finds ahead
pub read_ahead : {X : Type 0} (f : X → X) (xs ys : List X) (i : ℕ) (d : X) → i < length xs → ys ≡ map f (take i xs) ++ drop i xs → get_or ys i d ≡ get_or xs i d
read_ahead f xs ys i d h e =
    let l : length (map f (take i xs)) ≡ i = length-map (take i xs) f ∙ length-take-le i xs (omega (arith, h)) in
    ap (λ z. get_or z i d) e ∙ (get_or-append_right (map f (take i xs)) (drop i xs) i d (omega (arith, l))
    ∙ (get_or-drop i xs (i - length (map f (take i xs))) d ∙ ap (λ z. get_or xs z d) (omega (arith, l))))

-- a whole slice of a Vec written back
pub written_back : {X : Type 0} (n : ℕ) (xs ys : List X) → n ≡ length xs → take n (xs ++ ys) ≡ xs
written_back n xs ys e = rw e (take-append_seam xs ys)

pub any_default : {X : Type 0} (xs : List X) (i : ℕ) (d e : X) → i < length xs → get_or xs i d ≡ get_or xs i e
any_default xs i d e h = get_or_from_slice_get xs i (get_or xs i e) d (slice_get-get_or xs i e h)

-- what an index read is the task's state
pub is_state : (states : List TaskState) (t : Task) (at : ℕ) (x : TaskState) → at ≡ number_of t → at < length states → x ≡ get_or states at x
    → x ≡ state_at states (number_of t)
is_state states t at x e h r = r ∙ (any_default states at x Never h ∙ ap (λ k. state_at states k) e)
