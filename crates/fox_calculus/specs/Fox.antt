-- The Fox vector of a word: its free derivatives by the generators, as a formal sum of places. The derivative by x_g is
-- the coefficient of e_g, an element of the group ring of the free abelian group on the generators (Fox 1953).
use Rattle.std.specs.Prelude.{ℕ, ℤ, pos, negsuc, List, [], ◌∷◌, ◌++◌, map, if◌then◌else◌}
use Rattle.std.specs.List.{range_with_len}
use Rattle.free_words.specs.declared.letter.Letter.{Letter}
use Rattle.free_words.specs.declared.TheConstants.{GENERATORS}
use Rattle.free_words.specs.Words.{exponent_sum}
use Rattle.formal_sums.specs.FormalSum.{FormalSum}
use Rattle.laurent_terms.specs.Monomials.{monomial_of}
use Rattle.module_vec.specs.declared.places.Place.{Place}

-- the exponent sums of a word, one for each generator that there may be
abbrev pub exponent_sums : List Letter → List ℤ
exponent_sums u = map (λ g. exponent_sum g u) (range_with_len 0 GENERATORS)

-- [u], the monomial of the exponent sums of u
abbrev pub image : List Letter → List ℕ
image u = monomial_of (exponent_sums u)

-- the place [u]·e_g
abbrev pub place_of : List Letter → ℕ → Place
place_of u g = record { m = image u; c = g }

-- what a letter adds after the prefix u: +[u]·e_g for x_g, and -[u x_g^-1]·e_g for its inverse
abbrev pub letter_term : List Letter → Letter → ℤ × Place
letter_term u l = if l.inv then (negsuc 0, place_of (u ++ l ∷ []) l.g) else (pos 1, place_of u l.g)

-- the terms of the letters of w, which stand after the prefix u
abbrev pub fox_after : List Letter → List Letter → FormalSum Place
fox_after u [] = []
fox_after u (l ∷ w) = letter_term u l ∷ fox_after (u ++ l ∷ []) w

-- the Fox vector of w: a sum over the positions of w
abbrev pub fox : List Letter → FormalSum Place
fox w = fox_after [] w
