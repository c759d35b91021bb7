-- Up to moves, a word whose exponent sums are 0 is a product of commutators; such products commute, and where there is a
-- modulus m their m-th powers are trivial.
use Rattle.std.proofs.Common.{◌≡◌, ℕ, suc, zero, ◌<◌, ◌≤◌, ◌==◌, Bool, true, false, not, if◌then◌else◌, ℤ, pos, negsuc, ◌+ℤ◌, neg_ℤ, List, [], ◌∷◌, ◌++◌}
use Rattle.std.proofs.Common.{length, refl, sym, ap, subst, ◌∙◌, arith, append_assoc, append-nil, length-append, ◌⊎◌, inl, inr}
use Rattle.std.proofs.lemmas.Bool.Decides.{nat_tests}
use borrow.Author.Differences.{ints}
use Rattle.free_words.specs.declared.letter.Letter.{Letter}
use Rattle.free_words.specs.Words.{flipped, inverse, commutator, copies, exponent_sum}
use Rattle.free_words.proofs.WordLemmas.{inverse-append}
use Rattle.free_words.proofs.OverLemmas.{IsOver-append, IsOver-parts, IsOver-commutator}
use Rattle.free_words.proofs.SumLemmas.{exponent_at, exponent_sum-append, exponent_sum-cons, exponent_sum-outside}
use Rattle.presentation.specs.Presented.{Presented}
use Rattle.derivation.specs.Moves.{IsWordOver, Reaches, Trivial}
use Rattle.derivation.specs.Moves.IsPiece.{double, power}
use Rattle.derivation.proofs.Reaching.{reaches_self, reaches_on, reaches_back, reaches_between, reaches_behind, reaches_before, reaches_both}
use Rattle.derivation.proofs.TrivialLaws.{trivial_piece, trivial_product, trivial_cancel_back, equal_reaches}

-- ---- a letter, and its inverse further on

-- w has the inverse of l, between a and b
abbrev Split : Letter → List Letter → Type 0
Split l w = (a : List Letter) × (b : List Letter) × (w ≡ a ++ flipped l ∷ b)

abbrev signed : Bool → ℕ → ℤ
signed true k = neg_ℤ (pos k)
signed false k = pos k

abbrev the : ℕ → Bool → Letter
the g b = record { g = g; inv = b }

same_number : (a b : ℕ) → (a == b) ≡ true → a ≡ b
same_number a b e = grind (arith, nat_tests)

number_itself : (a : ℕ) → (a == a) ≡ true
number_itself a = grind (arith, nat_tests)

no_letters : (g : ℕ) → exponent_sum g [] ≡ pos 0
no_letters g = exponent_sum-outside 0 g [] tt (omega arith)

sum_is : (g h : ℕ) (d t : Bool) (w : List Letter) → (h == g) ≡ t
    → exponent_sum g (the h d ∷ w) ≡ (if t then (if d then negsuc 0 else pos 1) else pos 0) +ℤ exponent_sum g w
sum_is g h d t w e = exponent_sum-cons g (the h d) w ∙ ap (λ (s : Bool). (if s then (if d then negsuc 0 else pos 1) else pos 0) +ℤ exponent_sum g w) e

-- the inverse of the letter stands in w, or each letter of w with its generator has its sign
look : (g : ℕ) (b : Bool) (w : List Letter) → Split (the g b) w ⊎ ((k : ℕ) × (exponent_sum g w ≡ signed b k))
look g b [] = inr (0, no_letters g ∙ by b)
  where
    by : (b : Bool) → pos 0 ≡ signed b 0
    by true = refl
    by false = refl
look g b (x ∷ w) = by x.g x.inv (x.g == g) refl b (look g b w)
  where
    by : (h : ℕ) (d t : Bool) → (h == g) ≡ t → (b : Bool) → Split (the g b) w ⊎ ((k : ℕ) × (exponent_sum g w ≡ signed b k))
        → Split (the g b) (the h d ∷ w) ⊎ ((k : ℕ) × (exponent_sum g (the h d ∷ w) ≡ signed b k))
    by h d t e b (inl (front, back, at)) = inl (the h d ∷ front, back, ap (λ l. the h d ∷ l) at)
    by h d false e b (inr (k, sum)) = inr (k, sum_is g h d false w e ∙ ap (λ z. pos 0 +ℤ z) sum ∙ omega (arith, ints))
    by h true true e true (inr (k, sum)) = inr (suc k, sum_is g h true true w e ∙ ap (λ z. negsuc 0 +ℤ z) sum ∙ omega (arith, ints))
    by h false true e false (inr (k, sum)) = inr (suc k, sum_is g h false true w e ∙ ap (λ z. pos 1 +ℤ z) sum ∙ omega (arith, ints))
    by h false true e true (inr (k, sum)) = inl ([], w, ap (λ (z : ℕ). the z false ∷ w) (same_number h g e))
    by h true true e false (inr (k, sum)) = inl ([], w, ap (λ (z : ℕ). the z true ∷ w) (same_number h g e))

-- where the exponent sum is 0, the inverse of the first letter comes later
found : (l : Letter) (w : List Letter) → exponent_sum l.g (l ∷ w) ≡ pos 0 → Split l w
found l w zero_sum = by l.inv (look l.g l.inv w) zero_sum
  where
    by : (b : Bool) → Split (the l.g b) w ⊎ ((k : ℕ) × (exponent_sum l.g w ≡ signed b k)) → exponent_sum l.g (the l.g b ∷ w) ≡ pos 0 → Split (the l.g b) w
    by b (inl split) e = split
    by true (inr (k, sum)) e = absurd (omega (arith, ints, sum, e, sum_is l.g l.g true true w (number_itself l.g)))
    by false (inr (k, sum)) e = absurd (omega (arith, ints, sum, e, sum_is l.g l.g false true w (number_itself l.g)))

-- a letter and its inverse have exponent sums that cancel
pair_sum : (g : ℕ) (l : Letter) → exponent_at g l +ℤ exponent_at g (flipped l) ≡ pos 0
pair_sum g l = by (l.g == g) l.inv
  where
    by : (t b : Bool) → (if t then (if b then negsuc 0 else pos 1) else pos 0) +ℤ (if t then (if not b then negsuc 0 else pos 1) else pos 0) ≡ pos 0
    by true true = refl
    by true false = refl
    by false true = refl
    by false false = refl

sum_without : (g : ℕ) (l : Letter) (a b : List Letter) → exponent_sum g (l ∷ (a ++ flipped l ∷ b)) ≡ exponent_sum g (a ++ b)
sum_without g l a b =
    omega (
      arith,
      ints,
      exponent_sum-cons g l (a ++ flipped l ∷ b),
      exponent_sum-append g a (flipped l ∷ b),
      exponent_sum-cons g (flipped l) b,
      exponent_sum-append g a b,
      pair_sum g l,
    )

module _ (p : Presented) where
  pub reaches_same : (u u' v v' : List Letter) → u ≡ u' → v ≡ v' → Reaches p u v → Reaches p u' v'
  reaches_same u u' v v' e f way = subst (λ z. Reaches p z v') e (subst (Reaches p u) f way)

  pub data IsCommutatorProduct : List Letter → Type 0 where
    nothing : IsCommutatorProduct []
    next : (a b w : List Letter) → IsWordOver p a → IsWordOver p b → IsCommutatorProduct w → IsCommutatorProduct (commutator a b ++ w)

  -- w leads to a product of commutators
  abbrev pub Gathers : List Letter → Type 0
  Gathers w = (c : List Letter) × IsCommutatorProduct c × Reaches p w c

  -- l a l^-1 b leads to [l, a] a b
  pull : (l : Letter) (a b : List Letter) → IsWordOver p a → Reaches p (l ∷ (a ++ flipped l ∷ b)) (commutator (l ∷ []) a ++ (a ++ b))
  pull l a b over =
      let front : List Letter = l ∷ (a ++ flipped l ∷ []) in
      reaches_back p (commutator (l ∷ []) a ++ (a ++ b)) (l ∷ (a ++ flipped l ∷ b))
      (reaches_same (front ++ ((inverse a ++ a) ++ b)) (commutator (l ∷ []) a ++ (a ++ b)) (front ++ b) (l ∷ (a ++ flipped l ∷ b)) (simp append_assoc)
      (simp append_assoc)
      (reaches_between p front b (inverse a ++ a) [] (trivial_cancel_back p a over)))

  gather_next : (k : ℕ) (l : Letter) (w : List Letter) → Split l w → length (l ∷ w) ≤ suc k → IsWordOver p (l ∷ w) → ((g : ℕ) → exponent_sum g (l ∷ w) ≡ pos 0)
      → ((v : List Letter) → length v ≤ k → IsWordOver p v → ((g : ℕ) → exponent_sum g v ≡ pos 0) → Gathers v) → Gathers (l ∷ w)
  gather_next k l w (a, b, e) short over sums rest =
      let parts = IsOver-parts (length p.names) a (flipped l ∷ b) (subst (IsWordOver p) e over.1) in
      let gathered : Gathers (a ++ b) =
      rest (a ++ b) (omega (arith, short, length-append a b, length-append a (flipped l ∷ b), ap length e))
      (IsOver-append (length p.names) a b parts.0 parts.1.1)
      (λ g. sym (sum_without g l a b) ∙ ap (λ z. exponent_sum g (l ∷ z)) (sym e) ∙ sums g) in (
        commutator (l ∷ []) a ++ gathered.0,
        next (l ∷ []) a gathered.0 (over.0, tt) parts.0 gathered.1,
        reaches_on p (l ∷ w) (commutator (l ∷ []) a ++ (a ++ b)) (commutator (l ∷ []) a ++ gathered.0)
            (subst (λ z. Reaches p (l ∷ z) (commutator (l ∷ []) a ++ (a ++ b))) (sym e) (pull l a b parts.0))
            (reaches_behind p (commutator (l ∷ []) a) (a ++ b) gathered.0 gathered.2),
      )

  gather_short : (k : ℕ) (w : List Letter) → length w ≤ k → IsWordOver p w → ((g : ℕ) → exponent_sum g w ≡ pos 0) → Gathers w
  gather_short k [] short over sums = ([], nothing, reaches_self p [])
  gather_short zero (l ∷ w) short over sums = absurd (omega (arith, short))
  gather_short (suc k) (l ∷ w) short over sums = gather_next k l w (found l w (sums l.g)) short over sums (λ v s o z. gather_short k v s o z)

  -- a word whose exponent sums are 0
  pub gather : (w : List Letter) → IsWordOver p w → ((g : ℕ) → exponent_sum g w ≡ pos 0) → Gathers w
  gather w over sums = gather_short (length w) w (omega arith) over sums

  -- ---- commuting words
  abbrev pub Commute : List Letter → List Letter → Type 0
  Commute u v = Reaches p (u ++ v) (v ++ u)

  pub commute_back : (u v : List Letter) → Commute u v → Commute v u
  commute_back u v way = reaches_back p (u ++ v) (v ++ u) way

  -- u commutes with a product of words that it commutes with
  commute-append : (u v w : List Letter) → Commute u v → Commute u w → Commute u (v ++ w)
  commute-append u v w first second =
      reaches_on p (u ++ (v ++ w)) (v ++ (u ++ w)) ((v ++ w) ++ u)
      (reaches_same ((u ++ v) ++ w) (u ++ (v ++ w)) ((v ++ u) ++ w) (v ++ (u ++ w)) (append_assoc u v w) (append_assoc v u w)
      (reaches_before p w (u ++ v) (v ++ u) first))
      (subst (Reaches p (v ++ (u ++ w))) (sym (append_assoc v w u)) (reaches_behind p v (u ++ w) (w ++ u) second))

  trivial_commutator : (u v : List Letter) → IsWordOver p u → IsWordOver p v → Trivial p (commutator u v) → Commute u v
  trivial_commutator u v ou ov way =
      equal_reaches p (u ++ v) (v ++ u) (IsOver-append (length p.names) v u ov ou)
      (subst (Trivial p) (append_assoc (u ++ v) (inverse u) (inverse v) ∙ ap (λ z. (u ++ v) ++ z) (sym (inverse-append v u))) way)

  one_commutator : (a b : List Letter) → IsWordOver p a → IsWordOver p b → (d : List Letter) → IsCommutatorProduct d → Commute (commutator a b) d
  one_commutator a b oa ob d (nothing) = subst (λ z. Reaches p z (commutator a b)) (sym (append-nil (commutator a b))) (reaches_self p (commutator a b))
  one_commutator a b oa ob d (next x y w ox oy rest) =
      commute-append (commutator a b) (commutator x y) w
      (trivial_commutator (commutator a b) (commutator x y) (IsOver-commutator (length p.names) a b oa ob) (IsOver-commutator (length p.names) x y ox oy)
      (trivial_piece p (commutator (commutator a b) (commutator x y)) (double a b x y oa ob ox oy)))
      (one_commutator a b oa ob w rest)

  pub products_commute : (c d : List Letter) → IsCommutatorProduct c → IsCommutatorProduct d → Commute c d
  products_commute c d (nothing) second = subst (Reaches p d) (sym (append-nil d)) (reaches_self p d)
  products_commute c d (next a b w oa ob rest) second =
      commute_back d (commutator a b ++ w)
      (commute-append d (commutator a b) w (commute_back (commutator a b) d (one_commutator a b oa ob d second))
      (commute_back w d (products_commute w d rest second)))

  -- ---- powers
  pub copies_reach : (k : ℕ) (u v : List Letter) → Reaches p u v → Reaches p (copies k u) (copies k v)
  copies_reach zero u v way = reaches_self p []
  copies_reach (suc k) u v way = reaches_both p (copies k u) (copies k v) u v (copies_reach k u v way) way

  commute-copies : (k : ℕ) (u v : List Letter) → Commute u v → Commute u (copies k v)
  commute-copies zero u v way = subst (λ z. Reaches p z u) (sym (append-nil u)) (reaches_self p u)
  commute-copies (suc k) u v way = commute-append u (copies k v) v (commute-copies k u v way) way

  -- (u v)^k leads to u^k v^k
  copies_split : (k : ℕ) (u v : List Letter) → Commute u v → Reaches p (copies k (u ++ v)) (copies k u ++ copies k v)
  copies_split zero u v way = reaches_self p []
  copies_split (suc k) u v way =
      let us : List Letter = copies k u in
      let vs : List Letter = copies k v in
      reaches_on p (copies k (u ++ v) ++ (u ++ v)) ((us ++ vs) ++ (u ++ v)) ((us ++ u) ++ (vs ++ v))
      (reaches_before p (u ++ v) (copies k (u ++ v)) (us ++ vs) (copies_split k u v way))
      (reaches_same (us ++ ((vs ++ u) ++ v)) ((us ++ vs) ++ (u ++ v)) (us ++ ((u ++ vs) ++ v)) ((us ++ u) ++ (vs ++ v)) (simp append_assoc) (simp append_assoc)
      (reaches_between p us v (vs ++ u) (u ++ vs) (commute_back u vs (commute-copies k u v way))))

  copies_of_none : (k : ℕ) → Trivial p (copies k [])
  copies_of_none zero = reaches_self p []
  copies_of_none (suc k) = trivial_product p (copies k []) [] (copies_of_none k) (reaches_self p [])

  -- the m-th power of a product of commutators
  pub power_of_product : 0 < p.modulus → (c : List Letter) → IsCommutatorProduct c → Trivial p (copies p.modulus c)
  power_of_product some c (nothing) = copies_of_none p.modulus
  power_of_product some c (next a b w oa ob rest) =
      reaches_on p (copies p.modulus (commutator a b ++ w)) (copies p.modulus (commutator a b) ++ copies p.modulus w) []
      (copies_split p.modulus (commutator a b) w (one_commutator a b oa ob w rest))
      (trivial_product p (copies p.modulus (commutator a b)) (copies p.modulus w) (trivial_piece p (copies p.modulus (commutator a b)) (power a b some oa ob))
      (power_of_product some w rest))
