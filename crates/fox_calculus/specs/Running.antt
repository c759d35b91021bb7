-- The terms of letters by the exponent sums of what stands before them.
use Rattle.std.specs.Prelude.{ℤ, pos, negsuc, ◌+ℤ◌, List, slice_set, slice_index_or, if◌then◌else◌}
use Rattle.free_words.specs.declared.letter.Letter.{Letter}
use Rattle.laurent_terms.specs.Monomials.{monomial_of}
use Rattle.module_vec.specs.declared.places.Term.{Term}

-- one more letter
abbrev pub added : List ℤ → Letter → List ℤ
added sums l = slice_set sums l.g (slice_index_or sums l.g (pos 0) +ℤ (if l.inv then negsuc 0 else pos 1))

-- the term of a letter behind letters with these sums
abbrev pub running_term : List ℤ → Letter → Term
running_term sums l =
    if l.inv then record { at = record { m = monomial_of (added sums l); c = l.g }; k = negsuc 0 }
    else record { at = record { m = monomial_of sums; c = l.g }; k = pos 1 }
