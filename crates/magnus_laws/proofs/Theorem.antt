-- Words are equal exactly where their Fox vectors are congruent, and trivial exactly where the Fox vector lies in the module.
use Rattle.std.proofs.Common.{◌≡◌, ℕ, negsuc, inl, inr, List, [], ◌++◌, length, sym, ap, subst, ◌∙◌, arith, append-nil}
use Rattle.free_words.specs.declared.letter.Letter.{Letter}
use Rattle.presentation.specs.Presented.{Presented, IsPresented, IsModulus}
use Rattle.derivation.specs.Moves.{IsWordOver, Reaches, Trivial, Equal}
use Rattle.derivation.proofs.Staying.{reaches_over}
use Rattle.derivation.proofs.TrivialLaws.{equal_reaches, reaches_equal}
use Rattle.formal_sums.specs.FormalSum.{FormalSum, scale, rename}
use Rattle.formal_sums.proofs.Coefficients.{rename-append, rename-scale}
use Rattle.fox_calculus.specs.Fox.{fox}
use Rattle.fox_calculus.specs.Module.{IsMember}
use Rattle.magnus_laws.specs.Congruence.{AreCongruent}
use Rattle.magnus_laws.proofs.LatticeFox.{Point, fox_in}
use Rattle.magnus_laws.proofs.LatticeModule.{InModule}
use Rattle.magnus_laws.proofs.FirstHalf.{reaches_congruent}
use Rattle.magnus_laws.proofs.SecondHalf.{congruent_reaches}
use Rattle.magnus_laws.proofs.Tuples.{tuples, sums_at_none}
use Rattle.magnus_laws.proofs.Writing.{write, write_over, write_exponents}
use Rattle.magnus_laws.proofs.Upward.{up, fox-up, module-up}
use Rattle.magnus_laws.proofs.Downward.{down, fox-down, module-down}

-- a presentation has not the modulus 1
not_one : (m : ℕ) → IsModulus m → m ≡ 1 → ⊥
not_one m (inl none) one = absurd (omega (arith, none, one))
not_one m (inr range) one = absurd (omega (arith, range.0, one))

-- the map of keys carries differences to differences
rename_difference : {K J : Type 0} (f : K → J) (v w : FormalSum K) → rename f (v ++ scale (negsuc 0) w) ≡ rename f v ++ scale (negsuc 0) (rename f w)
rename_difference f v w = rename-append f v (scale (negsuc 0) w) ∙ ap (λ z. rename f v ++ z) (rename-scale f (negsuc 0) w)

module _ (p : Presented) (known : IsPresented p) where
  abbrev pub n : ℕ
  n = length p.names

  pub reaches_fox : (u v : List Letter) → IsWordOver p u → Reaches p u v → AreCongruent p (fox u) (fox v)
  reaches_fox u v over way =
      let a : FormalSum (Point (tuples n)) = fox_in (tuples n) u in
      let b : FormalSum (Point (tuples n)) = fox_in (tuples n) v in
      subst (IsMember p)
      (rename_difference (up n) a b ∙ λ i. fox-up p known.few_names u over i ++ scale (negsuc 0)
      (fox-up p known.few_names v (reaches_over p u v known way over) i))
      (module-up p known.few_names known (a ++ scale (negsuc 0) b) (reaches_congruent (tuples n) p known u v way over))

  pub fox_reaches : (u v : List Letter) → IsWordOver p u → IsWordOver p v → AreCongruent p (fox u) (fox v) → Reaches p u v
  fox_reaches u v ou ov is =
      congruent_reaches (tuples n) p known (λ w over e. sums_at_none n w over e) (write n) (write_over n) (write_exponents n)
      (not_one p.modulus known.modulus) u v ou ov
      (subst (InModule (tuples n) p)
      (rename_difference (down n) (fox u) (fox v) ∙ λ i. fox-down p known u ou i ++ scale (negsuc 0) (fox-down p known v ov i))
      (module-down p known (fox u ++ scale (negsuc 0) (fox v)) is))

pub trivial_is_member : (p : Presented) (w : List Letter) → IsPresented p → IsWordOver p w → Trivial p w → IsMember p (fox w)
trivial_is_member p w known over way = subst (IsMember p) (append-nil (fox w)) (reaches_fox p known w [] over way)

pub member_is_trivial : (p : Presented) (w : List Letter) → IsPresented p → IsWordOver p w → IsMember p (fox w) → Trivial p w
member_is_trivial p w known over is = fox_reaches p known w [] over tt (subst (IsMember p) (sym (append-nil (fox w))) is)

pub equal_are_congruent : (p : Presented) (u v : List Letter) → IsPresented p → IsWordOver p u → IsWordOver p v → Equal p u v → AreCongruent p (fox u) (fox v)
equal_are_congruent p u v known ou ov equal = reaches_fox p known u v ou (equal_reaches p u v ov equal)

pub congruent_are_equal : (p : Presented) (u v : List Letter) → IsPresented p → IsWordOver p u → IsWordOver p v → AreCongruent p (fox u) (fox v) → Equal p u v
congruent_are_equal p u v known ou ov is = reaches_equal p u v ov (fox_reaches p known u v ou ov is)
