-- A recipe as it is put together.
use Rattle.std.proofs.Common.{◌≡◌, ℕ, suc, ◌+◌, ◌<◌, ◌≤◌, Bool, true, false, not, cond, ℤ, pos, negsuc, zero, neg_ℤ, List, [], ◌∷◌, ◌++◌, map, take, length}
use Rattle.std.proofs.Common.{refl, sym, ap, ◌∙◌, get_or}
use Rattle.std.proofs.lemmas.List.{map-append, take_more, take_all}
use Rattle.module_vec.specs.declared.steps.Step.{Step}
use Rattle.pair_work.specs.Recipes.{turned}
use Rattle.pair_work.specs.Works.{recipe_of, signed}

neg_twice : (z : ℤ) → neg_ℤ (neg_ℤ z) ≡ z
neg_twice (pos zero) = refl
neg_twice (pos (suc n)) = refl
neg_twice (negsuc n) = refl

turned_twice : (s : Step) → turned (turned s) ≡ s
turned_twice s = λ i. record { q = neg_twice s.q i; t = s.t; by = s.by }

pub begun : (negated : Bool) (first second one two : Step) (none made made' : List Step) → one ≡ cond negated (turned first) first
    → two ≡ cond negated (turned second) second → none ≡ [] → made ≡ none ++ one ∷ [] → made' ≡ made ++ two ∷ []
    → made' ≡ signed negated (recipe_of first second [])
begun true first second one two none made made' a b e f g = g ∙ λ i. (f ∙ λ j. e j ++ a j ∷ []) i ++ b i ∷ []
begun false first second one two none made made' a b e f g = g ∙ λ i. (f ∙ λ j. e j ++ a j ∷ []) i ++ b i ∷ []

one_more : (negated : Bool) (first second : Step) (xs : List Step) (s : Step)
    → signed negated (recipe_of first second xs) ++ cond (not negated) (turned s) s ∷ [] ≡ signed negated (recipe_of first second (xs ++ s ∷ []))
one_more true first second xs s = λ i. turned first ∷ (turned second ∷ twice i)
  where
    twice : map turned (map turned xs) ++ s ∷ [] ≡ map turned (map turned (xs ++ s ∷ []))
    twice = ap (λ (z : Step). map turned (map turned xs) ++ z ∷ []) (sym (turned_twice s)) ∙ sym (map-append turned (map turned xs) (turned s ∷ []))
        ∙ ap (map turned) (sym (map-append turned xs (s ∷ [])))
one_more false first second xs s = λ i. first ∷ (second ∷ sym (map-append turned xs (s ∷ [])) i)

pub composed : (negated : Bool) (first second : Step) (steps : List Step) (i : ℕ) (s a : Step) (made made' : List Step) → i < length steps
    → s ≡ get_or steps i s → a ≡ cond (not negated) (turned s) s →
    made ≡ signed negated (recipe_of first second (take i steps)) → made' ≡ made ++ a ∷ []
    → made' ≡ signed negated (recipe_of first second (take (i + 1) steps))
composed negated first second steps i s a made made' lt read is so push =
    push
    ∙ (λ n. so n ++ is n ∷ [])
    ∙ one_more negated first second (take i steps) s
    ∙ ap (λ (xs : List Step). signed negated (recipe_of first second xs)) (ap (λ (z : Step). take i steps ++ z ∷ []) read ∙ sym (take_more steps i s lt))

pub whole : (negated : Bool) (first second : Step) (steps made : List Step) (i : ℕ) → length steps ≤ i
    → made ≡ signed negated (recipe_of first second (take i steps)) → made ≡ signed negated (recipe_of first second steps)
whole negated first second steps made i long is = is ∙ ap (λ (xs : List Step). signed negated (recipe_of first second xs)) (take_all i steps long)
