use Rattle.laurent_terms.proofs.IntegerVectors.{length-monomial_of, degree-monomial_of, positive_at, negative_at, difference, apart}
use Rattle.laurent_terms.proofs.laws.integer_vectors_are_kept.Goals as goal

pub returns : goal.returns
returns c = record {
  length = length-monomial_of;
  degree = degree-monomial_of;
  positive = positive_at;
  negative = negative_at;
  difference = difference;
  apart = apart;
}
