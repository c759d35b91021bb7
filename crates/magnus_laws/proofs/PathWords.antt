-- Words as values of Fox vectors. Each place (a, g) gets the word s(a) x_g s(a + x_g)^-1, where s(a) writes the representative of
-- a. The exponents of such a word lie in the lattice of the relators, so up to moves these words add up like vectors; the Fox vector of
-- a word u from a on has the value s(a) u s(a + [u])^-1, and each multiple of a generator the value 1.
use Rattle.std.proofs.Common.{◌≡◌, ℕ, suc, ◌<◌, Bool, true, false, ltb, ℤ, pos, negsuc, List, [], ◌∷◌, ◌++◌, length, refl, sym, ap, subst, ◌∙◌, arith}
use Rattle.std.proofs.Common.{append_assoc, append-nil}
use Rattle.std.proofs.lemmas.Bool.Decides.{nat_tests}
use Rattle.free_words.specs.declared.letter.Letter.{Letter}
use Rattle.free_words.specs.Words.{flipped, inverse, copies, exponent_sum}
use Rattle.free_words.proofs.WordLemmas.{inverse-append, inverse-inverse}
use Rattle.free_words.proofs.OverLemmas.{IsOver-append, IsOver-inverse}
use Rattle.presentation.specs.Presented.{Presented, IsPresented}
use Rattle.derivation.specs.Moves.{IsWordOver, Reaches, Trivial}
use Rattle.derivation.proofs.Reaching.{reaches_self, reaches_on, reaches_back, reaches_between, reaches_behind, reaches_both}
use Rattle.derivation.proofs.TrivialLaws.{trivial_nothing, trivial_relator, trivial_cancel, trivial_cancel_back}
use Rattle.formal_sums.specs.Evaluation.{Addition, IsAdditive, evaluate}
use Rattle.formal_sums.specs.FormalSum.{FormalSum}
use Rattle.magnus_laws.proofs.Lattices.{Lattice, plus-none, forth, less_and_more, minus_of_plus}
use Rattle.magnus_laws.proofs.LatticeFox.{Point, shift, step_by, step, exponents, term_by, fox_from, exponents-append, exponents-inverse, fox_from-at}
use Rattle.magnus_laws.proofs.LatticeModule.{IsLatticeGenerator, relator_vector, relator_binomial, modulus_vector}
use Rattle.magnus_laws.proofs.CommutatorProducts.{reaches_same}
use Rattle.magnus_laws.proofs.RelatorLattice.{InRelatorLattice, nothing, lattice_plus, lattice_minus, lattice_product, lattice_inverse, lattice_copies, Near}
use Rattle.magnus_laws.proofs.RelatorLattice.{lattice_words_commute, lattice_word_power}
use Rattle.magnus_laws.proofs.Representatives.{Joins, generator_pairs}
use Rattle.magnus_laws.proofs.Powers.{raised, over-raised, raised-add}
use Rattle.magnus_laws.proofs.Upward.{relator_over}

module _ (L : Lattice) (p : Presented) where
  -- a word over p whose exponents lie in the lattice of the relators
  pub record LatticeWord : Type 0 where
    pub word : List Letter
    pub over : IsWordOver p word
    pub level : InRelatorLattice L p (exponents L word)

  -- moves lead from the one to the other
  abbrev pub SameWord : LatticeWord → LatticeWord → Type 0
  SameWord a b = Reaches p a.word b.word

  pub level-raised : (q : ℤ) (w : List Letter) → InRelatorLattice L p (exponents L w) → InRelatorLattice L p (exponents L (raised q w))
  level-raised (pos k) w is = lattice_copies L p k w is
  level-raised (negsuc k) w is = lattice_copies L p (suc k) (inverse w) (lattice_inverse L p w is)

  abbrev pub word_addition : Addition LatticeWord
  word_addition = record {
    plus = λ a b. record {
      word = a.word ++ b.word;
      over = IsOver-append (length p.names) a.word b.word a.over b.over;
      level = lattice_product L p a.word b.word a.level b.level;
    };
    unit = record { word = []; over = tt; level = nothing };
    times = λ q a. record { word = raised q a.word; over = over-raised p q a.word a.over; level = level-raised q a.word a.level };
  }

  module _ (known : IsPresented p) (sums : (w : List Letter) → IsWordOver p w → exponents L w ≡ L.none → (g : ℕ) → exponent_sum g w ≡ pos 0) where
    pub words_additive : IsAdditive word_addition SameWord
    words_additive = record {
      reflexive = λ a. reaches_self p a.word;
      symmetric = λ a b way. reaches_back p a.word b.word way;
      transitive = λ a b c first second. reaches_on p a.word b.word c.word first second;
      plus_congruent = λ a b c d first second. reaches_both p a.word b.word c.word d.word first second;
      plus_assoc = λ a b c. subst (Reaches p ((a.word ++ b.word) ++ c.word)) (append_assoc a.word b.word c.word)
          (reaches_self p ((a.word ++ b.word) ++ c.word));
      plus_comm = λ a b. lattice_words_commute L p known sums a.word b.word a.over b.over a.level b.level;
      unit-plus = λ a. reaches_self p a.word;
      zero-times = λ a. trivial_nothing p;
      add-times = λ q s a. raised-add p q s a.word a.over;
    }

    -- ---- s(a): the word that writes the representative r(a), which is near a
    module _ (write : L.Z → List Letter) (write_over : (a : L.Z) → IsWordOver p (write a)) (write_exponents : (a : L.Z) → exponents L (write a) ≡ a)
        (r : L.Z → L.Z) (near : (a : L.Z) → Near L p (r a) a) where
      abbrev s : L.Z → List Letter
      s a = write (r a)

      abbrev generator : ℕ → Letter
      generator g = record { g = g; inv = false }

      -- s(a) u s(b)^-1
      abbrev pub walk : L.Z → List Letter → L.Z → List Letter
      walk a u b = write (r a) ++ (u ++ inverse (write (r b)))

      abbrev edge_word : L.Z → ℕ → List Letter
      edge_word a g = walk a (generator g ∷ []) (L.plus a (L.one_at g))

      edge_over : (a : L.Z) (g : ℕ) → g < length p.names → IsWordOver p (edge_word a g)
      edge_over a g below =
          let b : L.Z = L.plus a (L.one_at g) in
          IsOver-append (length p.names) (s a) (generator g ∷ inverse (s b)) (write_over (r a)) (
            below,
            IsOver-inverse (length p.names) (s b) (write_over (r b)),
          )

      -- the exponents are (d + a) + x + (-(d' + (a + x))) = d - d'
      edge_level : (a : L.Z) (g : ℕ) → InRelatorLattice L p (exponents L (edge_word a g))
      edge_level a g = by (near a) (near (L.plus a (L.one_at g)))
        where
          by : Near L p (r a) a → Near L p (r (L.plus a (L.one_at g))) (L.plus a (L.one_at g)) → InRelatorLattice L p (exponents L (edge_word a g))
          by (d, is, e) (d', is', e') =
              let x : L.Z = L.one_at g in
              let b : L.Z = L.plus a x in
              subst (InRelatorLattice L p)
              (sym (exponents-append L (s a) (generator g ∷ inverse (s b))
              ∙ ap (λ z. L.plus z (L.plus x (exponents L (inverse (s b))))) (write_exponents (r a) ∙ e)
              ∙ ap (λ z. L.plus (L.plus d a) (L.plus x z)) (exponents-inverse L (s b) ∙ ap L.minus (write_exponents (r b) ∙ e') ∙ minus_of_plus L d' b)
              ∙ L.plus_assoc d a (L.plus x (L.plus (L.minus b) (L.minus d')))
              ∙ ap (L.plus d) (sym (L.plus_assoc a x (L.plus (L.minus b) (L.minus d'))) ∙ forth L b (L.minus d'))))
              (lattice_plus L p d (L.minus d') is (lattice_minus L p d' is'))

      pub edge_at : (a : L.Z) (g : ℕ) (b : Bool) → ltb g (length p.names) ≡ b → LatticeWord
      edge_at a g true e = record { word = edge_word a g; over = edge_over a g (grind (arith, nat_tests)); level = edge_level a g }
      edge_at a g false e = record { word = []; over = tt; level = nothing }

      edge_is : (a : L.Z) (g : ℕ) (b : Bool) (e : ltb g (length p.names) ≡ b) → g < length p.names → (edge_at a g b e).word ≡ edge_word a g
      unfolding edge_at
      edge_is a g true e below = refl
      edge_is a g false e below = absurd (let h : ltb g (length p.names) ≡ true = grind (arith, nat_tests) in cc)

      -- the word of a place; that of a component which there is not is empty
      abbrev pub edge : Point L → LatticeWord
      edge m = edge_at m.0 m.1 (ltb m.1 (length p.names)) refl

      pub edge-word : (a : L.Z) (g : ℕ) → g < length p.names → (edge (a, g)).word ≡ edge_word a g
      edge-word a g below = edge_is a g (ltb g (length p.names)) refl below

      abbrev pub value : FormalSum (Point L) → List Letter
      value v = (evaluate word_addition edge v).word

      -- ---- the value of a Fox vector
      term_walk : (b : Bool) (a : L.Z) (g : ℕ) → g < length p.names
          → raised (term_by L b a g).0 (edge (term_by L b a g).1).word ≡ walk a (let l : Letter = record { g = g; inv = b }
          in l ∷ []) (L.plus a (step_by L b g))
      term_walk false a g below = edge-word a g below
      term_walk true a g below =
          let b : L.Z = L.plus a (L.minus (L.one_at g)) in
          ap inverse (edge-word b g below)
          ∙ ap (λ z. inverse (s b ++ (generator g ∷ inverse (s z)))) (less_and_more L a (L.one_at g))
          ∙ inverse-append (s b) (generator g ∷ inverse (s a))
          ∙ ap (λ z. z ++ inverse (s b)) (inverse-append (generator g ∷ []) (inverse (s a)) ∙ ap (λ z. z ++ flipped (generator g) ∷ []) (inverse-inverse (s a)))
          ∙ append_assoc (s a) (flipped (generator g) ∷ []) (inverse (s b))

      -- s(a) u s(b)^-1 and s(b) v s(c)^-1 come together
      join : (a b c : L.Z) (u v : List Letter) → Reaches p (walk a u b ++ walk b v c) (walk a (u ++ v) c)
      join a b c u v =
          let end : List Letter = v ++ inverse (s c) in
          reaches_same p ((s a ++ u) ++ ((inverse (s b) ++ s b) ++ end)) (walk a u b ++ walk b v c) ((s a ++ u) ++ end) (walk a (u ++ v) c) (simp append_assoc)
          (simp append_assoc)
          (reaches_between p (s a ++ u) end (inverse (s b) ++ s b) [] (trivial_cancel_back p (s b) (write_over (r b))))

      pub path : (a : L.Z) (u : List Letter) → IsWordOver p u → Reaches p (value (fox_from L a u)) (walk a u (L.plus a (exponents L u)))
      path a [] over =
          reaches_back p (s a ++ inverse (s (L.plus a L.none))) []
          (subst (λ z. Trivial p (s a ++ inverse (s z))) (sym (plus-none L a)) (trivial_cancel p (s a) (write_over (r a))))
      path a (l ∷ u) over =
          let b : L.Z = L.plus a (step L l) in
          let end : L.Z = L.plus b (exponents L u) in
          reaches_on p (value (fox_from L a (l ∷ u))) (walk a (l ∷ []) b ++ walk b u end) (walk a (l ∷ u) (L.plus a (exponents L (l ∷ u))))
          (subst (λ z. Reaches p (value (fox_from L a (l ∷ u))) (z ++ walk b u end)) (term_walk l.inv a l.g over.0)
          (reaches_behind p (raised (term_by L l.inv a l.g).0 (edge (term_by L l.inv a l.g).1).word) (value (fox_from L b u)) (walk b u end) (path b u over.1)))
          (subst (λ z. Reaches p (walk a (l ∷ []) b ++ walk b u end) (walk a (l ∷ u) z)) (L.plus_assoc a (step L l) (exponents L u)) (join a b end (l ∷ []) u))

      -- ---- the value of a multiple of a generator
      closed_walk : (a b : L.Z) (u : List Letter) → r a ≡ r b → Trivial p u → Trivial p (walk a u b)
      closed_walk a b u same way =
          reaches_on p (walk a u b) (s a ++ inverse (s b)) [] (reaches_between p (s a) (inverse (s b)) u [] way)
          (subst (λ z. Trivial p (s a ++ inverse (write z))) same (trivial_cancel p (s a) (write_over (r a))))

      pub generator_value : (t : L.Z) (g : FormalSum (Point L)) (is : IsLatticeGenerator L p g) → Joins L r (generator_pairs L p t g is)
          → Trivial p (value (shift L t g))
      unfolding generator_pairs
      generator_value t _ (relator_vector w listed) joins =
          subst (λ v. Trivial p (value v)) (fox_from-at L t w)
          (reaches_on p (value (fox_from L t w)) (walk t w (L.plus t (exponents L w))) [] (path t w (relator_over p known w listed))
          (closed_walk t (L.plus t (exponents L w)) w joins.0 (trivial_relator p w listed)))
      generator_value t _ (relator_binomial w c listed below) joins =
          let a : L.Z = L.plus t (exponents L w) in
          let b : L.Z = L.plus t L.none in
          let one : List Letter = (edge (a, c)).word in
          let other : List Letter = (edge (b, c)).word in
          let same : one ≡ other = edge-word a c below ∙ (λ i. write (joins.0 i) ++ (generator c ∷ inverse (write (joins.1.0 i))))
          ∙ sym (edge-word b c below) in
          subst (λ z. Trivial p (z ++ (inverse other ++ []))) (sym same)
          (subst (λ z. Trivial p (other ++ z)) (sym (append-nil (inverse other))) (trivial_cancel p other (edge (b, c)).over))
      generator_value t _ (modulus_vector c some below) joins =
          let e : LatticeWord = edge (L.plus t L.none, c) in
          subst (Trivial p) (sym (append-nil (copies p.modulus e.word))) (lattice_word_power L p known sums some e.word e.over e.level)
