-- Numbers at the heads of texts.
use Rattle.std.proofs.Common.{◌≡◌, inl, decimal, codes, arith}
use Rattle.spelling.specs.Spelling.{IsSmall}
use Rattle.spelling.proofs.Numbers.{decimal_same}
use Rattle.spelling.proofs.Lacking.{decimal_lacks}
use Rattle.vector_text.proofs.Parts.{IsApart}
use Rattle.report_lines.proofs.Pairs.{IsFirst, first_by_cut}

pub numbers_apart : IsApart 32 decimal IsSmall
numbers_apart = record {
  lacks = λ n h. decimal_lacks 32 n (inl (omega arith)) (omega (arith, h));
  one = λ m n h k e. decimal_same m n (omega (arith, h)) (omega (arith, k)) e;
}

pub number_first : IsFirst decimal IsSmall (codes " ")
number_first = first_by_cut 32 decimal IsSmall numbers_apart

pub number_same : (m n : _) → IsSmall m → IsSmall n → decimal m ≡ decimal n → m ≡ n
number_same m n h k e = decimal_same m n (omega (arith, h)) (omega (arith, k)) e
