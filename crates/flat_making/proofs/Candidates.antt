-- Each kind says what its candidate is, and so names its generator.
use Rattle.std.proofs.Common.{◌≡◌, ◌≢◌, ◌∙◌, ℕ, zero, suc, ◌+◌, ◌-◌, ◌<◌, ◌≤◌, ◌==◌, Bool, true, false, cond, List, [], ◌∷◌, ◌++◌, length, map, get_or, refl, ap, arith}
use Rattle.std.specs.Prelude.{Option, Some, None, slice_index_or}
use Rattle.std.specs.List.{range_with_len, flat_map}
use Rattle.std.proofs.lemmas.Bool.Decides.{nat_tests}
use Rattle.free_words.specs.declared.letter.Letter.{Letter}
use Rattle.presentation.specs.Presented.{Presented}
use Rattle.formal_sums.specs.FormalSum.{FormalSum}
use Rattle.module_vec.specs.declared.places.Place.{Place}
use Rattle.module_vec.specs.declared.places.Term.{Term}
use Rattle.module_vec.specs.Modules.{vector_at}
use Rattle.module_vec.proofs.Determined.{same_vector}
use Rattle.fox_calculus.specs.Fox.{fox, image}
use Rattle.fox_calculus.specs.Generators.{binomial, constant, unit_monomial, components, candidates, IsZero, IsWritten, AreWritten}
use Rattle.flat_cert.specs.declared.lines.FlatKind.{FlatKind}
use Rattle.flat_cert.specs.declared.lines.FlatKind.TheVariants.{Rel, Bin, Mod}
use Rattle.flat_cert.specs.Certificates.{relator, IsKind, generator_of}
use Rattle.flat_making.specs.Kinds.{AreNamed, candidate_kinds}
use Rattle.flat_making.proofs.Naming.{Kinds, Sums}

-- f is a unit binomial
pub record IsUnit (p : Presented) (f : FormalSum Place) : Type 0 where
  pub g : ℕ
  pub c : ℕ
  pub below : g < length p.names
  pub is : f ≡ binomial (unit_monomial g) c

abbrev pub Fits : Presented → Option FlatKind → FormalSum Place → Type 0
Fits p (Some what) f = IsKind p what × (f ≡ generator_of p what)
Fits p None f = IsUnit p f

abbrev AllFit : Presented → Kinds → Sums → Type 0
AllFit p [] [] = Unit {0}
AllFit p [] (f ∷ fs) = ⊥
AllFit p (k ∷ ks) [] = ⊥
AllFit p (k ∷ ks) (f ∷ fs) = Fits p k f × AllFit p ks fs

fit_both : (p : Presented) (j k : Kinds) (a b : Sums) → AllFit p j a → AllFit p k b → AllFit p (j ++ k) (a ++ b)
fit_both p [] k [] b h g = g
fit_both p [] k (f ∷ a) b h g = absurd h
fit_both p (i ∷ j) k [] b h g = absurd h
fit_both p (i ∷ j) k (f ∷ a) b h g = (h.0, fit_both p j k a b h.1 g)

-- numbers from a on, of which there are n
fit_numbers : (p : Presented) (kind : ℕ → Option FlatKind) (f : ℕ → FormalSum Place) (a n top : ℕ) → a + n ≤ top
    → ((c : ℕ) → c < top → Fits p (kind c) (f c)) → AllFit p (map kind (range_with_len a n)) (map f (range_with_len a n))
fit_numbers p kind f a zero top le fits = tt
fit_numbers p kind f a (suc n) top le fits = (fits a (omega (arith, le)), fit_numbers p kind f (a + 1) n top (omega (arith, le)) fits)

fit_lists : (p : Presented) (kinds : ℕ → Kinds) (f : ℕ → Sums) (a n top : ℕ) → a + n ≤ top
    → ((c : ℕ) → c < top → AllFit p (kinds c) (f c)) → AllFit p (flat_map kinds (range_with_len a n)) (flat_map f (range_with_len a n))
fit_lists p kinds f a zero top le fits = tt
fit_lists p kinds f a (suc n) top le fits =
    fit_both p (kinds a) (flat_map kinds (range_with_len (a + 1) n)) (f a) (flat_map f (range_with_len (a + 1) n)) (fits a (omega (arith, le)))
    (fit_lists p kinds f (a + 1) n top (omega (arith, le)) fits)

-- relators from number i on, counted from 0
abbrev StandFrom : Presented → ℕ → List (List Letter) → Type 0
StandFrom p i rs = (i + length rs ≡ length p.relators) × ((j : ℕ) → j < length rs → get_or rs j [] ≡ get_or p.relators (i + j) [])

stand_next : (p : Presented) (i : ℕ) (r : List Letter) (rs : List (List Letter)) → StandFrom p i (r ∷ rs) → StandFrom p (i + 1) rs
stand_next p i r rs stand = (
  omega (arith, stand.0),
  λ j lt. stand.1 (suc j) (omega (arith, lt)) ∙ ap (λ n. get_or p.relators n []) (let e : i + suc j ≡ i + 1 + j = omega arith in e),
)

first_is : (p : Presented) (i : ℕ) (r : List Letter) (rs : List (List Letter)) → StandFrom p i (r ∷ rs) → r ≡ relator p (i + 1)
first_is p i r rs stand = stand.1 0 (omega arith) ∙ ap (λ n. get_or p.relators n []) (let e : i + 0 ≡ i + 1 - 1 = omega arith in e)

fit_relators : (p : Presented) (i : ℕ) (rs : List (List Letter)) → StandFrom p i rs
    → AllFit p (map (λ j. Some (Rel j)) (range_with_len (i + 1) (length rs))) (map fox rs)
fit_relators p i [] stand = tt
fit_relators p i (r ∷ rs) stand = (
  ((omega arith, omega (arith, stand.0)), ap fox (first_is p i r rs stand)),
  fit_relators p (i + 1) rs (stand_next p i r rs stand),
)

fit_binomials : (p : Presented) (i : ℕ) (rs : List (List Letter)) → StandFrom p i rs
    → AllFit p (flat_map (λ j. map (λ c. Some (Bin j c)) (components p)) (range_with_len (i + 1) (length rs)))
    (flat_map (λ r. map (binomial (image r)) (components p)) rs)
fit_binomials p i [] stand = tt
fit_binomials p i (r ∷ rs) stand =
    fit_both p (map (λ c. Some (Bin (i + 1) c)) (components p))
    (flat_map (λ j. map (λ c. Some (Bin j c)) (components p)) (range_with_len (i + 1 + 1) (length rs)))
    (map (binomial (image r)) (components p)) (flat_map (λ s. map (binomial (image s)) (components p)) rs)
    (fit_numbers p (λ c. Some (Bin (i + 1) c)) (binomial (image r)) 0 (length p.names) (length p.names) (omega arith)
    (λ c lt. (((omega arith, omega (arith, stand.0)), lt), ap (λ s. binomial (image s) c) (first_is p i r rs stand))))
    (fit_binomials p (i + 1) rs (stand_next p i r rs stand))

fit_modulus : (p : Presented) (b : Bool) → (p.modulus == 0) ≡ b
    → AllFit p (cond b [] (map (λ c. Some (Mod c)) (components p))) (cond b [] (map (constant p.modulus) (components p)))
fit_modulus p true e = tt
fit_modulus p false e =
    let some : 0 < p.modulus = grind (arith, nat_tests) in
    fit_numbers p (λ c. Some (Mod c)) (constant p.modulus) 0 (length p.names) (length p.names) (omega arith) (λ c lt. ((lt, some), refl))

candidates_fit : (p : Presented) → AllFit p (candidate_kinds p) (candidates p)
candidates_fit p =
    fit_both p _ _ _ _ (fit_relators p 0 p.relators ((omega arith), (λ j lt. ap (λ n. get_or p.relators n []) (let e : j ≡ 0 + j = omega arith in e))))
    (fit_both p _ _ _ _ (fit_binomials p 0 p.relators ((omega arith), (λ j lt. ap (λ n. get_or p.relators n []) (let e : j ≡ 0 + j = omega arith in e))))
    (fit_both p _ _ _ _
    (fit_lists p (λ g. map (λ c. None) (components p)) (λ g. map (binomial (unit_monomial g)) (components p)) 0 (length p.names) (length p.names) (omega arith)
    (λ g below. fit_numbers p (λ c. None) (binomial (unit_monomial g)) 0 (length p.names) (length p.names) (omega arith)
    (λ c lt. record { g = g; c = c; below = below; is = refl })))
    (fit_modulus p (p.modulus == 0) refl)))

-- ---- the generator of a kind

pub record IsNamed (p : Presented) (kind : Option FlatKind) (v : List Term) : Type 0 where
  pub sum : FormalSum Place
  pub fits : Fits p kind sum
  pub is : IsWritten sum v

zero_written : (f : FormalSum Place) (g : List Term) → IsZero f → IsWritten f g → g ≢ [] → ⊥
zero_written f g none is some = some (same_vector g [] is.sparse (record { falling = tt; terms = tt }) (λ x. is.same x ∙ none x))

-- both lists leave the same candidates out
named_at : (p : Presented) (fs : Sums) (ks named : Kinds) (gens : List (List Term)) → AreNamed fs ks named → AreWritten fs gens → AllFit p ks fs → (i : ℕ)
    → i < length gens → IsNamed p (slice_index_or named i None) (vector_at gens i)
named_at p _ _ _ _ AreNamed.nothing AreWritten.nothing fit i lt = absurd (omega (arith, lt))
named_at p _ _ _ _ (AreNamed.left_out f k fs ks named z h) (AreWritten.left_out _ _ gens y w) fit i lt = named_at p fs ks named gens h w fit.1 i lt
named_at p _ _ _ _ (AreNamed.left_out f k fs ks named z h) (AreWritten.written _ g _ gens some is w) fit i lt = absurd (zero_written f g z is some)
named_at p _ _ _ _ (AreNamed.written f k fs ks named z h) (AreWritten.left_out _ _ gens y w) fit i lt = absurd (z y)
named_at p _ _ _ _ (AreNamed.written f k fs ks named z h) (AreWritten.written _ g _ gens some is w) fit zero lt = record { sum = f; fits = fit.0; is = is }
named_at p _ _ _ _ (AreNamed.written f k fs ks named z h) (AreWritten.written _ g _ gens some is w) fit (suc i) lt =
    named_at p fs ks named gens h w fit.1 i (omega (arith, lt))

pub generator_named : (p : Presented) (named : Kinds) (gens : List (List Term)) → AreNamed (candidates p) (candidate_kinds p) named
    → AreWritten (candidates p) gens → (i : ℕ) → i < length gens → IsNamed p (slice_index_or named i None) (vector_at gens i)
generator_named p named gens are writes i lt = named_at p (candidates p) (candidate_kinds p) named gens are writes (candidates_fit p) i lt
