-- Places: a monomial, as the list of its exponents, and a component.
use Rattle.std.specs.declared.cmp.Ordering.{Ordering}
use Rattle.std.specs.declared.cmp.Ordering.TheVariants.{Less}
use Rattle.std.specs.Ordering.{nat_cmp, ordering_then, eq_by_cmp}
use Rattle.std.specs.Prelude.{◌≡◌, ℕ, Bool, List}
use Rattle.laurent_terms.specs.Monomials.{mono_cmp, product, IsMonomial}
use Rattle.module_vec.specs.declared.places.Place.{Place}

-- the monomial first, then the component
abbrev pub place_cmp : Place → Place → Ordering
place_cmp p q = ordering_then (mono_cmp p.m q.m) (nat_cmp p.c q.c)

abbrev pub IsBelow : Place → Place → Type 0
IsBelow p q = place_cmp p q ≡ Less

-- whether two places are the same one
abbrev pub same_place : Place → Place → Bool
same_place p q = eq_by_cmp place_cmp p q

-- the place t·p
abbrev pub moved : List ℕ → Place → Place
moved t p = record { m = product t p.m; c = p.c }

-- a place as the program has it
abbrev pub IsPlace : Place → Type 0
IsPlace p = IsMonomial p.m
