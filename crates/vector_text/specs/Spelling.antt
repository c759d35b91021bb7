-- The one spelling of monomials, places, terms and vectors, over the names of generators.
use Rattle.std.specs.Prelude.{ℕ, suc, ◌/◌, ◌%◌, ◌==◌, if◌then◌else◌, List, [], ◌∷◌, ◌++◌, map, codes, decimal}
use Rattle.spelling.specs.Spelling.{coefficient}
use Rattle.presentation.specs.Writing.{name_of, joined}
use Rattle.module_vec.specs.declared.places.Place.{Place}
use Rattle.module_vec.specs.declared.places.Term.{Term}
use Rattle.vector_text.specs.declared.factors.Factor.{Factor}

-- a variable: the generator's name for x_g, and an apostrophe behind it for y_g
abbrev pub variable_text : List (List ℕ) → ℕ → List ℕ
variable_text names v = name_of names (v / 2) ++ (if v % 2 == 0 then [] else codes "'")

-- an exponent: nothing for 1
abbrev pub exponent_text : ℕ → List ℕ
exponent_text e = if e == 1 then [] else codes "^" ++ decimal e

abbrev pub factor_text : List (List ℕ) → Factor → List ℕ
factor_text names f = variable_text names f.variable ++ exponent_text f.exponent

-- the factors of a monomial in the order of the variables, where the exponents are those of the variables from v on
abbrev pub factors_from : ℕ → List ℕ → List Factor
factors_from v [] = []
factors_from v (e ∷ s) = if e == 0 then factors_from (suc v) s else record {
  variable = v;
  exponent = e;
} ∷ factors_from (suc v) s

-- `1`, or the factors with points between them
abbrev pub product_text : List (List ℕ) → List ℕ
product_text [] = codes "1"
product_text (t ∷ ts) = joined (codes ".") (t ∷ ts)

-- a monomial, by the list of its exponents
abbrev pub monomial_text : List (List ℕ) → List ℕ → List ℕ
monomial_text names s = product_text (map (factor_text names) (factors_from 0 s))

-- the same without the `1`
abbrev pub factors_text : List (List ℕ) → List ℕ → List ℕ
factors_text names s = joined (codes ".") (map (factor_text names) (factors_from 0 s))

-- a place: its monomial, `@`, and the name of its component
abbrev pub place_text : List (List ℕ) → Place → List ℕ
place_text names p = monomial_text names p.m ++ (codes "@" ++ name_of names p.c)

-- a term: its coefficient, `*`, and its place
abbrev pub term_text : List (List ℕ) → Term → List ℕ
term_text names t = coefficient t.k ++ (codes "*" ++ place_text names t.at)

-- `0`, or the terms with spaces between them
abbrev pub vector_text : List (List ℕ) → List Term → List ℕ
vector_text names [] = codes "0"
vector_text names (t ∷ v) = joined (codes " ") (map (term_text names) (t ∷ v))

-- the same without the `0`
abbrev pub terms_text : List (List ℕ) → List Term → List ℕ
terms_text names v = joined (codes " ") (map (term_text names) v)
