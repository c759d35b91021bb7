-- The terms of a word that grows by a letter.
use Rattle.std.proofs.Common.{◌≡◌, ℕ, ◌+◌, ◌<◌, ◌≤◌, Bool, true, false, ℤ, pos, negsuc, unsigned_abs, sum_by, replicate, arith, List, [], ◌∷◌, ◌++◌, length}
use Rattle.std.proofs.Common.{take, get_or, refl, sym, ap, ◌∙◌, append_assoc, if◌then◌else◌}
use Rattle.std.proofs.lemmas.List.{take_more, map-append, append-nil}
use Rattle.free_words.specs.declared.letter.Letter.{Letter}
use Rattle.free_words.specs.Words.{IsOver, exponent_sum}
use Rattle.formal_sums.specs.FormalSum.{FormalSum}
use Rattle.laurent_terms.specs.Monomials.{monomial_of}
use Rattle.module_vec.specs.declared.places.Place.{Place}
use Rattle.module_vec.specs.declared.places.Term.{Term}
use Rattle.module_vec.specs.Vectors.{sum_of}
use Rattle.fox_calculus.specs.Fox.{exponent_sums, letter_term, fox_after, fox}
use Rattle.fox_calculus.specs.Running.{added, running_term}
use Rattle.fox_calculus.proofs.Sums.{sums_more, total_below}

-- the terms of a product
pub fox_after-append : (p u v : List Letter) → fox_after p (u ++ v) ≡ fox_after p u ++ fox_after (p ++ u) v
fox_after-append p [] v = ap (λ (q : List Letter). fox_after q v) (sym (append-nil p))
fox_after-append p (l ∷ u) v =
    ap (λ (f : FormalSum Place). letter_term p l ∷ f)
    (fox_after-append (p ++ l ∷ []) u v ∙ ap (λ (q : List Letter). fox_after (p ++ l ∷ []) u ++ fox_after q v) (append_assoc p (l ∷ []) u))

-- the term by the sums is the letter's
abbrev as_term : Bool → List ℤ → List ℤ → ℕ → Term
as_term b s t g =
    if b then record { at = record { m = monomial_of t; c = g }; k = negsuc 0 }
    else record { at = record { m = monomial_of s; c = g }; k = pos 1 }

abbrev as_pair : Bool → List ℤ → List ℤ → ℕ → ℤ × Place
as_pair b s t g = if b then (negsuc 0, record { m = monomial_of t; c = g }) else (pos 1, record { m = monomial_of s; c = g })

term_by : (b : Bool) (s t t' : List ℤ) (g : ℕ) → t' ≡ t → ((as_term b s t g).k, (as_term b s t g).at) ≡ as_pair b s t' g
term_by true s t t' g e = ap (λ (x : List ℤ). as_pair true s x g) (sym e)
term_by false s t t' g e = refl

pub term_is : (u : List Letter) (l : Letter) → l.g < 24 → ((running_term (exponent_sums u) l).k, (running_term (exponent_sums u) l).at) ≡ letter_term u l
term_is u l known = term_by l.inv (exponent_sums u) (added (exponent_sums u) l) (exponent_sums (u ++ l ∷ [])) l.g (sums_more u l known)

pub fox_more : (w : List Letter) (i : ℕ) (d : Letter) (made : List Term) → i < length w → (get_or w i d).g < 24 → sum_of made ≡ fox (take i w)
    → sum_of (made ++ running_term (exponent_sums (take i w)) (get_or w i d) ∷ []) ≡ fox (take (i + 1) w)
fox_more w i d made lt known so_far =
    let l : Letter = get_or w i d in
    map-append (λ (t : Term). (t.k, t.at)) made (running_term (exponent_sums (take i w)) l ∷ [])
    ∙ (ap (λ (f : FormalSum Place). f ++ ((running_term (exponent_sums (take i w)) l).k, (running_term (exponent_sums (take i w)) l).at) ∷ []) so_far
    ∙ (ap (λ (t : ℤ × Place). fox (take i w) ++ t ∷ []) (term_is (take i w) l known)
    ∙ sym (ap fox (take_more w i d lt) ∙ fox_after-append [] (take i w) (l ∷ []))))

-- the sums that are kept are those of the letters so far
unfoldable pub AreSums : List ℤ → List Letter → Type 0
AreSums sums u = sums ≡ exponent_sums u

pub sums_begin : (sums : List ℤ) → sums ≡ replicate 24 (pos 0) → AreSums sums []
unfolding AreSums exponent_sum
sums_begin sums e = e

within : {a b i n : ℕ} → b ≤ i → i < n → n ≤ 32768 → a ≡ b → a < 60000
within p q r e = omega (arith, p, q, r, e)

pub sums_small : (sums : List ℤ) (w : List Letter) (i : ℕ) → IsOver 24 w → i < length w → length w ≤ 32768 → AreSums sums (take i w)
    → sum_by unsigned_abs sums < 60000
unfolding AreSums
sums_small sums w i over lt short e = within (total_below w i over (omega (arith, lt))) lt short (ap (sum_by unsigned_abs) e)

pub sums_next : (sums next : List ℤ) (w : List Letter) (i : ℕ) (d : Letter) → i < length w → (get_or w i d).g < 24 → AreSums sums (take i w)
    → next ≡ added sums (get_or w i d) → AreSums next (take (i + 1) w)
unfolding AreSums
sums_next sums next w i d lt known e k =
    k ∙ (ap (λ s. added s (get_or w i d)) e ∙ sym (ap exponent_sums (take_more w i d lt) ∙ sums_more (take i w) (get_or w i d) known))

pub terms_next : (sums : List ℤ) (w : List Letter) (i : ℕ) (d : Letter) (made next : List Term) (t : Term) → i < length w → (get_or w i d).g < 24
    → AreSums sums (take i w)
    → sum_of made ≡ fox (take i w) → t ≡ running_term sums (get_or w i d) → next ≡ made ++ t ∷ [] → sum_of next ≡ fox (take (i + 1) w)
unfolding AreSums
terms_next sums w i d made next t lt known e so_far is pushed =
    ap sum_of (pushed ∙ ap (λ (x : Term). made ++ x ∷ []) (is ∙ ap (λ s. running_term s (get_or w i d)) e)) ∙ fox_more w i d made lt known so_far
