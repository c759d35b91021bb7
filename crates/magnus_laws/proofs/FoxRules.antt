-- The rules of the free differential calculus over monomials: of a product and of an inverse up to the module, and of a word with pairs
-- left out exactly.
use Rattle.std.proofs.Common.{◌≡◌, ℕ, Bool, true, false, cond, if◌then◌else◌, ℤ, pos, negsuc, ◌+ℤ◌, List, [], ◌∷◌, ◌++◌, map, length, refl, sym, ap, subst, ◌∙◌}
use Rattle.std.proofs.Common.{arith, append_assoc, append-nil}
use Rattle.std.specs.List.{range_with_len}
use borrow.Author.Differences.{ints}
use Rattle.free_words.specs.declared.letter.Letter.{Letter}
use Rattle.free_words.specs.declared.TheConstants.{GENERATORS}
use Rattle.free_words.specs.Words.{flipped, inverse, Cancels, exponent_sum}
use Rattle.free_words.proofs.WordLemmas.{inverse-inverse}
use Rattle.free_words.proofs.ReductionLemmas.{Cancels-inverse}
use Rattle.free_words.proofs.OverLemmas.{IsOver-append, IsOver-inverse}
use Rattle.free_words.proofs.SumLemmas.{exponent_sum-append, exponent_sum-Cancels}
use Rattle.presentation.specs.Presented.{Presented, IsPresented}
use Rattle.derivation.specs.Moves.{IsWordOver}
use Rattle.formal_sums.specs.FormalSum.{FormalSum, coefficient, Same, scale, rename}
use Rattle.formal_sums.specs.Span.{multiple}
use Rattle.formal_sums.specs.IntegerTuple.{IntegerTuple}
use Rattle.formal_sums.proofs.Coefficients.{coefficient-append, coefficient-scale, rename-append}
use Rattle.laurent_terms.specs.Monomials.{monomial_of}
use Rattle.module_vec.specs.declared.places.Place.{Place}
use Rattle.module_vec.specs.Places.{same_place, moved}
use Rattle.fox_calculus.specs.Fox.{image, place_of, letter_term, fox_after, fox}
use Rattle.magnus_laws.specs.Congruence.{AreCongruent}
use Rattle.magnus_laws.proofs.LatticeFox.{shift, exponents, fox_in, fox_in-append}
use Rattle.magnus_laws.proofs.LatticeModule.{components-fox_from}
use Rattle.magnus_laws.proofs.Tuples.{tuples}
use Rattle.magnus_laws.proofs.Monomials.{image-written}
use Rattle.magnus_laws.proofs.Members.{member_same, member_scale, congruent_same, congruent_sum}
use Rattle.magnus_laws.proofs.Upward.{up, fox-up, shift-up}

-- ---- products
pub fox_of_product : (p : Presented) (u v : List Letter) → IsPresented p → IsWordOver p u → IsWordOver p v
    → AreCongruent p (fox (u ++ v)) (fox u ++ rename (moved (image u)) (fox v))
fox_of_product p u v known ou ov =
    let n : ℕ = length p.names in
    let a : IntegerTuple n = exponents (tuples n) u in
    let tail : FormalSum Place = rename (up n) (shift (tuples n) a (fox_in (tuples n) v)) in
    let split : fox (u ++ v) ≡ fox u ++ tail =
    sym (fox-up p known.few_names (u ++ v) (IsOver-append n u v ou ov)) ∙ ap (rename (up n)) (fox_in-append (tuples n) u v)
    ∙ rename-append (up n) (fox_in (tuples n) u) (shift (tuples n) a (fox_in (tuples n) v)) ∙ ap (λ z. z ++ tail) (fox-up p known.few_names u ou) in
    let moves : AreCongruent p tail (rename (moved (image u)) (fox v)) =
    subst (AreCongruent p tail) (λ i. rename (moved (sym (image-written n u known.few_names ou) i)) (fox-up p known.few_names v ov i))
    (shift-up p known.few_names a (fox_in (tuples n) v) (components-fox_from (tuples n) p (tuples n).none v ov)) in
    subst (λ z. AreCongruent p z (fox u ++ rename (moved (image u)) (fox v))) (sym split)
    (congruent_sum p (fox u) (fox u) tail (rename (moved (image u)) (fox v)) (congruent_same p (fox u) (fox u) (λ x. refl)) moves)

-- ---- words with pairs left out
image_same : (u v : List Letter) → ((g : ℕ) → exponent_sum g u ≡ exponent_sum g v) → image u ≡ image v
image_same u v e = λ i. monomial_of (map (λ g. e g i) (range_with_len 0 GENERATORS))

-- a word more behind both
sums_on : (u v w : List Letter) → ((g : ℕ) → exponent_sum g u ≡ exponent_sum g v) → (g : ℕ) → exponent_sum g (u ++ w) ≡ exponent_sum g (v ++ w)
sums_on u v w e g = exponent_sum-append g u w ∙ ap (λ z. z +ℤ exponent_sum g w) (e g) ∙ sym (exponent_sum-append g v w)

letter_term_same : (u v : List Letter) (l : Letter) → ((g : ℕ) → exponent_sum g u ≡ exponent_sum g v) → letter_term u l ≡ letter_term v l
letter_term_same u v l e = λ i. if l.inv then (
  negsuc 0,
  record {
    m = image_same (u ++ l ∷ []) (v ++ l ∷ []) (sums_on u v (l ∷ []) e) i;
    c = l.g;
  },
) else (pos 1, record { m = image_same u v e i; c = l.g })

-- what stands before counts by its exponent sums
fox_after_same : (u v w : List Letter) → ((g : ℕ) → exponent_sum g u ≡ exponent_sum g v) → fox_after u w ≡ fox_after v w
fox_after_same u v [] e = refl
fox_after_same u v (l ∷ w) e = λ i. letter_term_same u v l e i ∷ fox_after_same (u ++ l ∷ []) (v ++ l ∷ []) w (sums_on u v (l ∷ []) e) i

fox_after-append : (u v w : List Letter) → fox_after u (v ++ w) ≡ fox_after u v ++ fox_after (u ++ v) w
fox_after-append u [] w = ap (λ z. fox_after z w) (sym (append-nil u))
fox_after-append u (l ∷ v) w =
    ap (λ z. letter_term u l ∷ z) (fox_after-append (u ++ l ∷ []) v w ∙ ap (λ z. fox_after (u ++ l ∷ []) v ++ fox_after z w) (append_assoc u (l ∷ []) v))

pair_sums : (u : List Letter) (x : Letter) (g : ℕ) → exponent_sum g (u ++ x ∷ flipped x ∷ []) ≡ exponent_sum g u
pair_sums u x g = exponent_sum-Cancels g (u ++ x ∷ flipped x ∷ []) u (Cancels.pair u [] u x (subst (λ z. Cancels z u) (sym (append-nil u)) (Cancels.none u)))

pair_terms : (u : List Letter) (x : Letter) (y : Place) → coefficient same_place (letter_term u x ∷ letter_term (u ++ x ∷ []) (flipped x) ∷ []) y ≡ pos 0
pair_terms u x y = by x.inv
  where
    gone : (b : Bool) → cond b (pos 1) (pos 0) +ℤ (cond b (negsuc 0) (pos 0) +ℤ pos 0) ≡ pos 0
    gone true = refl
    gone false = refl

    gone_back : (b : Bool) → cond b (negsuc 0) (pos 0) +ℤ (cond b (pos 1) (pos 0) +ℤ pos 0) ≡ pos 0
    gone_back true = refl
    gone_back false = refl

    the : Bool → Letter
    the b = record { g = x.g; inv = b }

    by : (b : Bool) → coefficient same_place (letter_term u (the b) ∷ letter_term (u ++ the b ∷ []) (flipped (the b)) ∷ []) y ≡ pos 0
    by true = gone_back (same_place (place_of (u ++ the true ∷ []) x.g) y)
    by false =
        let behind : List Letter = (u ++ the false ∷ []) ++ flipped (the false) ∷ [] in
        let same : image behind ≡ image u =
        image_same behind u (λ g. ap (exponent_sum g) (append_assoc u (the false ∷ []) (flipped (the false) ∷ [])) ∙ pair_sums u (the false) g) in
        ap (λ z. cond (same_place (place_of u x.g) y) (pos 1) (pos 0) +ℤ (cond (same_place (record { m = z; c = x.g }) y) (negsuc 0) (pos 0) +ℤ pos 0)) same
        ∙ gone (same_place (place_of u x.g) y)

pair_left_out : (u v : List Letter) (x : Letter) → Same same_place (fox (u ++ x ∷ flipped x ∷ v)) (fox (u ++ v))
pair_left_out u v x y =
    let one : ℤ × Place = letter_term u x in
    let two : ℤ × Place = letter_term (u ++ x ∷ []) (flipped x) in
    let behind : List Letter = (u ++ x ∷ []) ++ flipped x ∷ [] in
    let rest : fox_after behind v ≡ fox_after u v = fox_after_same behind u v (λ g. ap (exponent_sum g) (append_assoc u (x ∷ []) (flipped x ∷ []))
    ∙ pair_sums u x g) in
    let left : coefficient same_place (fox (u ++ x ∷ flipped x ∷ v)) y ≡ coefficient same_place (fox u) y
    +ℤ coefficient same_place (one ∷ two ∷ fox_after u v) y =
    ap (λ z. coefficient same_place z y) (fox_after-append [] u (x ∷ flipped x ∷ v) ∙ ap (λ z. fox u ++ one ∷ two ∷ z) rest)
    ∙ coefficient-append same_place (fox u) (one ∷ two ∷ fox_after u v) y in
    let right : coefficient same_place (fox (u ++ v)) y ≡ coefficient same_place (fox u) y +ℤ coefficient same_place (fox_after u v) y =
    ap (λ z. coefficient same_place z y) (fox_after-append [] u v) ∙ coefficient-append same_place (fox u) (fox_after u v) y in
    omega (arith, ints, left, right, coefficient-append same_place (one ∷ two ∷ []) (fox_after u v) y, pair_terms u x y)

pub fox_of_cancelled : (w v : List Letter) → Cancels w v → Same same_place (fox w) (fox v)
fox_of_cancelled w v (Cancels.none _) y = refl
fox_of_cancelled _ _ (Cancels.pair u v w x rest) y = pair_left_out u v x y ∙ fox_of_cancelled (u ++ v) w rest y

-- ---- inverses
inverse_in_front : (w : List Letter) → Same same_place (fox (inverse w ++ w)) []
inverse_in_front w = fox_of_cancelled (inverse w ++ w) [] (subst (λ z. Cancels (inverse w ++ z) []) (inverse-inverse w) (Cancels-inverse (inverse w)))

pub fox_of_inverse : (p : Presented) (w : List Letter) → IsPresented p → IsWordOver p w
    → AreCongruent p (fox (inverse w)) (multiple moved (negsuc 0) (image (inverse w)) (fox w))
fox_of_inverse p w known over =
    let both : FormalSum Place = fox (inverse w ++ w) in
    let one : FormalSum Place = fox (inverse w) in
    let other : FormalSum Place = rename (moved (image (inverse w))) (fox w) in
    let product : AreCongruent p both (one ++ other) = fox_of_product p (inverse w) w known (IsOver-inverse (length p.names) w over) over in
    member_same p (one ++ scale (negsuc 0) (scale (negsuc 0) other)) (scale (negsuc 0) (both ++ scale (negsuc 0) (one ++ other)))
    (λ y. omega (
      arith,
      ints,
      inverse_in_front w y,
      coefficient-append same_place one (scale (negsuc 0) (scale (negsuc 0) other)) y,
      coefficient-scale same_place (negsuc 0) (scale (negsuc 0) other) y,
      coefficient-scale same_place (negsuc 0) other y,
      coefficient-scale same_place (negsuc 0) (both ++ scale (negsuc 0) (one ++ other)) y,
      coefficient-append same_place both (scale (negsuc 0) (one ++ other)) y,
      coefficient-scale same_place (negsuc 0) (one ++ other) y,
      coefficient-append same_place one other y,
    ))
    (member_scale p (negsuc 0) (both ++ scale (negsuc 0) (one ++ other)) product)
