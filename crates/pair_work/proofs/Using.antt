-- Which entries an outcome says were used: those that its pair and its close name.
use Rattle.std.proofs.Common.{◌≡◌, ◌≢◌, ◌⊎◌, ◌↔◌, inl, inr, ℕ, zero, suc, Bool, true, false, MatchBool, List, [], ◌∷◌, ◌++◌, map, Contains, Some, refl, sym, ap}
use Rattle.std.proofs.Common.{subst, ◌∙◌, arith}
use Rattle.std.proofs.lemmas.List.Elements.{Contains-append_cases, Contains-append_left, Contains-append_right}
use Rattle.std.proofs.lemmas.Option.{slice_get_within, slice_get-map, get_or_from_slice_get}
use Rattle.std.specs.List.{slice_get}
use Rattle.std.specs.Option.{option_map}
use Rattle.module_vec.specs.declared.places.Term.{Term}
use Rattle.module_vec.specs.declared.steps.Step.{Step}
use Rattle.outcomes.specs.declared.tasks.Task.{Task}
use Rattle.presentation.specs.Presented.{Presented}
use Rattle.strong_pairs.specs.Pairs.{ArePairSteps}
use Rattle.basis_entry.specs.declared.recipes.Recipe.{Recipe}
use Rattle.basis_entry.specs.declared.recipes.Recipe.TheVariants.{Sum}
use Rattle.basis_entry.specs.Base.{has_negative_lead}
use Rattle.basis_entry.specs.Entries.{BasisEntry}
use Rattle.pair_work.specs.declared.outcome.Close.{Close}
use Rattle.pair_work.specs.Recipes.{turned}
use Rattle.pair_work.specs.Outcomes.{UsedEntry}
use Rattle.pair_work.specs.Works.{IsAmong, AreUsed, AreUsedFor, AreMarked, IsOfRest, numbers_of, recipe_numbers, close_numbers, recipe_of}

-- ---- what a list contains stands at a place of it
pub contains_at : {X : Type 0} (xs : List X) (k : ℕ) (x : X) → slice_get xs k ≡ Some x → Contains xs x
contains_at xs k x get = (k, slice_get_within xs k x get, get_or_from_slice_get xs k x x get)

at_contained : {X : Type 0} (xs : List X) (x : X) → Contains xs x → (k : ℕ) × (slice_get xs k ≡ Some x)
at_contained [] x (k, lt, e) = absurd (omega (arith, lt))
at_contained (y ∷ xs) x (zero, lt, e) = (0, ap Some e)
at_contained {X} (y ∷ xs) x (suc k, lt, e) = later (at_contained xs x (k, omega (arith, lt), e))
  where
    later : (m : ℕ) × (slice_get xs m ≡ Some x) → (m : ℕ) × (slice_get (y ∷ xs) m ≡ Some x)
    later (m, get) = (suc m, get)

among : (used : List UsedEntry) (n : ℕ) → Contains (map (λ (u : UsedEntry). u.number) used) n → IsAmong used n
among [] n (k, lt, e) = absurd (omega (arith, lt))
among (u ∷ used) n (zero, lt, e) = (0, u, refl, e)
among (u ∷ used) n (suc k, lt, e) = later (among used n (k, omega (arith, lt), e))
  where
    later : IsAmong used n → IsAmong (u ∷ used) n
    later (m, v, get, same) = (suc m, v, get, same)

numbered : (used : List UsedEntry) (n : ℕ) → IsAmong used n → Contains (map (λ (u : UsedEntry). u.number) used) n
numbered used n (m, u, get, same) =
    let number : UsedEntry → ℕ = λ u. u.number in
    subst (Contains (map number used)) same (contains_at (map number used) m u.number (slice_get-map number used m ∙ ap (option_map number) get))

named : (steps : List Step) (n : ℕ) → Contains (numbers_of steps) n → (k : ℕ) × (s : Step) × (slice_get steps k ≡ Some s) × (s.by ≡ n)
named [] n (k, lt, e) = absurd (omega (arith, lt))
named (s ∷ steps) n (zero, lt, e) = (0, s, refl, e)
named (s ∷ steps) n (suc k, lt, e) = later (named steps n (k, omega (arith, lt), e))
  where
    later : (k : ℕ) × (r : Step) × (slice_get steps k ≡ Some r) × (r.by ≡ n) → (k : ℕ) × (r : Step) × (slice_get (s ∷ steps) k ≡ Some r) × (r.by ≡ n)
    later (m, r, get, same) = (suc m, r, get, same)

pub used_for : (es : List BasisEntry) (t : Task) (numbers : List ℕ) (steps : List Step) (used : List UsedEntry) (close : Close) → AreUsed es numbers steps used
    → ((n : ℕ) → Contains (numbers ++ numbers_of steps) n ↔ Contains (t.i ∷ (t.j ∷ close_numbers close)) n) → AreUsedFor t close used
used_for es t numbers steps used close are same = record { rising = are.rising; exactly = λ n. (there n, back n) }
  where
    there : (n : ℕ) → Contains (map (λ (u : UsedEntry). u.number) used) n → Contains (t.i ∷ (t.j ∷ close_numbers close)) n
    there n c = by (among used n c)
      where
        by : IsAmong used n → Contains (t.i ∷ (t.j ∷ close_numbers close)) n
        by (m, u, get, e) = (same n).0 (subst (Contains (numbers ++ numbers_of steps)) e (are.only m u get))

    back : (n : ℕ) → Contains (t.i ∷ (t.j ∷ close_numbers close)) n → Contains (map (λ (u : UsedEntry). u.number) used) n
    back n c = numbered used n (by (Contains-append_cases numbers (numbers_of steps) n ((same n).1 c)))
      where
        given : (k : ℕ) × (slice_get numbers k ≡ Some n) → IsAmong used n
        given (k, get) = are.numbered k n get

        stepped : (k : ℕ) × (s : Step) × (slice_get steps k ≡ Some s) × (s.by ≡ n) → IsAmong used n
        stepped (k, s, get, e) = subst (IsAmong used) e (are.stepped k s get)

        by : Contains numbers n ⊎ Contains (numbers_of steps) n → IsAmong used n
        by (inl h) = given (at_contained numbers n h)
        by (inr h) = stepped (named steps n h)

-- ---- the recipe of a rest names the two entries of the pair and those that the chain's steps name
turned_numbers : (steps : List Step) → numbers_of (map turned steps) ≡ numbers_of steps
turned_numbers [] = refl
turned_numbers (s ∷ steps) = ap (λ (ns : List ℕ). s.by ∷ ns) (turned_numbers steps)

signed_numbers : (b : Bool) (r : Recipe) (steps : List Step) → MatchBool b (r ≡ Sum (map turned steps)) (r ≡ Sum steps) → recipe_numbers r ≡ numbers_of steps
signed_numbers true r steps is = ap recipe_numbers is ∙ turned_numbers steps
signed_numbers false r steps is = ap recipe_numbers is

pub rest_numbers : (p : Presented) (b : List (List Term)) (t : Task) (first second : Step) (steps : List Step) (w : List Term) (e : BasisEntry)
    → ArePairSteps t.kind b t.i t.j first second
    → IsOfRest p w (recipe_of first second steps) e → recipe_numbers e.recipe ≡ t.i ∷ (t.j ∷ numbers_of steps)
rest_numbers p b t first second steps w e pair is =
    signed_numbers (has_negative_lead w) e.recipe (recipe_of first second steps) is.recipe
    ∙ (ap (λ (ns : List ℕ). first.by ∷ (second.by ∷ ns)) (turned_numbers steps)
    ∙ (ap (λ (i : ℕ). i ∷ (second.by ∷ numbers_of steps)) pair.first_number ∙ ap (λ (j : ℕ). t.i ∷ (j ∷ numbers_of steps)) pair.second_number))

first_or_later : (y n : ℕ) (ns : List ℕ) → Contains (y ∷ ns) n → (y ≡ n) ⊎ Contains ns n
first_or_later y n ns (zero, lt, e) = inl e
first_or_later y n ns (suc k, lt, e) = inr (k, omega (arith, lt), e)

later : (y n : ℕ) (ns : List ℕ) → Contains ns n → Contains (y ∷ ns) n
later y n ns (k, lt, e) = (suc k, omega (arith, lt), e)

-- the two entries of the pair may be named twice
twice : (i j n : ℕ) (ns : List ℕ) → Contains (i ∷ (j ∷ ns)) n ↔ Contains (i ∷ (j ∷ (i ∷ (j ∷ ns)))) n
twice i j n ns = (there, back)
  where
    there : Contains (i ∷ (j ∷ ns)) n → Contains (i ∷ (j ∷ (i ∷ (j ∷ ns)))) n
    there c = later i n (j ∷ (i ∷ (j ∷ ns))) (later j n (i ∷ (j ∷ ns)) c)

    back : Contains (i ∷ (j ∷ (i ∷ (j ∷ ns)))) n → Contains (i ∷ (j ∷ ns)) n
    back c = by (first_or_later i n (j ∷ (i ∷ (j ∷ ns))) c)
      where
        second : (j ≡ n) ⊎ Contains (i ∷ (j ∷ ns)) n → Contains (i ∷ (j ∷ ns)) n
        second (inl e) = (1, omega arith, e)
        second (inr h) = h

        by : (i ≡ n) ⊎ Contains (j ∷ (i ∷ (j ∷ ns))) n → Contains (i ∷ (j ∷ ns)) n
        by (inl e) = (0, omega arith, e)
        by (inr h) = second (first_or_later j n (i ∷ (j ∷ ns)) h)

pub same_numbers : (ms ns : List ℕ) → ms ≡ ns → (n : ℕ) → Contains ms n ↔ Contains ns n
same_numbers ms ns e n = (λ c. subst (λ (ks : List ℕ). Contains ks n) e c, λ c. subst (λ (ks : List ℕ). Contains ks n) (sym e) c)

pub named_twice : (t : Task) (ms ns rs : List ℕ) → ms ≡ t.i ∷ (t.j ∷ ns) → rs ≡ t.i ∷ (t.j ∷ ns) → (n : ℕ) → Contains ms n ↔ Contains (t.i ∷ (t.j ∷ rs)) n
named_twice t ms ns rs e f n = subst (λ (ks : List ℕ). Contains ms n ↔ Contains (t.i ∷ (t.j ∷ ks)) n) (sym f)
    (subst (λ (ks : List ℕ). Contains ks n ↔ Contains (t.i ∷ (t.j ∷ (t.i ∷ (t.j ∷ ns)))) n) (sym e) (twice t.i t.j n ns))

-- ---- what is marked was named
pub used_by_marks : (es : List BasisEntry) (numbers : List ℕ) (steps : List Step) (before mid marks : List Bool) (used : List UsedEntry)
    → ((n : ℕ) → slice_get before n ≢ Some true)
    → ((k n : ℕ) → slice_get numbers k ≡ Some n → slice_get mid n ≡ Some true)
    → ((n : ℕ) → slice_get mid n ≡ Some true → (slice_get before n ≡ Some true) ⊎ Contains numbers n)
    → ((k : ℕ) (s : Step) → slice_get steps k ≡ Some s → slice_get marks s.by ≡ Some true)
    → ((n : ℕ) → slice_get mid n ≡ Some true → slice_get marks n ≡ Some true)
    → ((n : ℕ) → slice_get marks n ≡ Some true → (slice_get mid n ≡ Some true) ⊎ Contains (numbers_of steps) n) → AreMarked es marks used
    → AreUsed es numbers steps used
used_by_marks es numbers steps before mid marks used none set only further kept others are = record {
  there = are.there;
  rising = are.rising;
  numbered = λ k n get. are.each n (kept n (set k n get));
  stepped = λ k s get. are.each s.by (further k s get);
  only = λ m u get. named_by u.number (others u.number (are.only m u get));
}
  where
    given : (n : ℕ) → (slice_get before n ≡ Some true) ⊎ Contains numbers n → Contains (numbers ++ numbers_of steps) n
    given n (inl is) = absurd (none n is)
    given n (inr c) = Contains-append_left numbers (numbers_of steps) n c

    named_by : (n : ℕ) → (slice_get mid n ≡ Some true) ⊎ Contains (numbers_of steps) n → Contains (numbers ++ numbers_of steps) n
    named_by n (inl is) = given n (only n is)
    named_by n (inr c) = Contains-append_right numbers (numbers_of steps) n c
