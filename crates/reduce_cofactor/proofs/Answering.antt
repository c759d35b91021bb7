-- A reduction has one answer.
use Rattle.std.proofs.Common.{◌≡◌, ℕ, suc, ◌+◌, ◌<◌, ◌≤◌, ◌+ℤ◌, ◌-ℤ◌, List, [], ◌∷◌, length, refl, sym, ap, ◌∙◌, subst, arith, ◌⊎◌, inl, inr}
use Rattle.std.specs.Int.{int_div_euclid}
use borrow.Author.Differences.{ints}
use Rattle.formal_sums.proofs.Coefficients.{coefficient-append}
use Rattle.module_vec.specs.declared.TheConstants.{STEPS}
use Rattle.module_vec.specs.declared.places.Place.{Place}
use Rattle.module_vec.specs.declared.places.Term.{Term}
use Rattle.module_vec.specs.declared.steps.Step.{Step}
use Rattle.module_vec.specs.declared.faults.Stop.{Stop}
use Rattle.module_vec.specs.declared.faults.Stop.TheVariants.{Wide, Long, Deep, Steep}
use Rattle.module_vec.specs.Places.{IsBelow, same_place}
use Rattle.module_vec.specs.Vectors.{Coefficients, coefficient_at, multiple}
use Rattle.module_vec.specs.Results.{IsGreatest, HasTerms}
use Rattle.module_vec.specs.Modules.{vector_at, steps_at, sum_of_steps}
use Rattle.module_vec.specs.Chains.{IsNext, IsEnd, Chain, Goes, Runs, StopsNext, ChainStops, taken_at, after}
use Rattle.module_vec.proofs.Order.{order}
use Rattle.module_vec.proofs.Determined.{same_vector, same_next, same_end, runs_are_chains}
use Rattle.reduce_cofactor.specs.Answers.{IsRest}

-- ---- sums

pub chain_sum : (b : List (List Term)) (ss : List Step) (f g : Coefficients) → Chain b f ss g → (x : Place) → f x ≡ steps_at b ss x +ℤ g x
chain_sum b [] f g c x = let e : g x ≡ f x = c x in omega (arith, ints)
chain_sum b (s ∷ ss) f g c x =
    let rest : f x -ℤ taken_at b s x ≡ steps_at b ss x +ℤ g x = chain_sum b ss (after b f s) g c.1 x in
    let split : steps_at b (s ∷ ss) x ≡ taken_at b s x +ℤ steps_at b ss x =
    coefficient-append same_place (multiple s.q s.t (vector_at b s.by)) (sum_of_steps b ss) x in
    omega (arith, ints)

-- ---- one rest

pub one_rest : (b : List (List Term)) (f : Coefficients) (v w : List Term) (ss rs : List Step) → IsRest b f v ss → IsRest b f w rs → (v ≡ w) × (ss ≡ rs)
one_rest b f v w ss rs h g =
    let same : (ss ≡ rs) × ((x : Place) → coefficient_at v x ≡ coefficient_at w x) =
    same_end b ss rs f (coefficient_at v) (coefficient_at w) (runs_are_chains b ss f (coefficient_at v) h.runs) h.end
    (runs_are_chains b rs f (coefficient_at w) g.runs) g.end in
    (same_vector v w h.vector.sparse g.vector.sparse same.1, same.0)

-- ---- one step stops by one limit, or by none

same_count : (f : Coefficients) (m n : ℕ) → HasTerms f m → HasTerms f n → m ≡ n
same_count f m n h g = sym h.count ∙ ap length (same_vector h.v g.v h.sparse g.sparse (λ x. h.is x ∙ sym (g.is x))) ∙ g.count

same_greatest : (P : Place → Type 0) (p q : Place) → IsGreatest P p → IsGreatest P q → p ≡ q
same_greatest P p q h g = by (order.total p q)
  where
    by : (p ≡ q) ⊎ (IsBelow p q ⊎ IsBelow q p) → p ≡ q
    by (inl e) = e
    by (inr (inl l)) = absurd (h.above q l g.here)
    by (inr (inr l)) = absurd (g.above p l h.here)

module _ (b : List (List Term)) (f : Coefficients) (made : ℕ) (s : Step) where
  within : (stop : Stop) → StopsNext b f made s stop → made ≤ STEPS
  within (Wide p n) h = omega (arith, h.0)
  within (Long terms n) h = omega (arith, h.0)
  within Deep h = omega (arith, h)
  within (Steep d) h = absurd h

  goes_or_stops : (stop : Stop) → made < STEPS → Goes b f s → StopsNext b f made s stop → ⊥
  goes_or_stops (Wide p n) few g h = g.narrow p h.1.1.here
  goes_or_stops (Long terms n) few g h = let same : terms ≡ g.count = same_count (after b f s) terms g.count h.1.2 g.terms
      in absurd (omega (arith, same, g.short, h.1.3))
  goes_or_stops Deep few g h = absurd (omega (arith, few, h))
  goes_or_stops (Steep d) few g h = absurd h

  one_limit : (x y : Stop) → StopsNext b f made s x → StopsNext b f made s y → x ≡ y
  one_limit (Wide p n) (Wide q m) h g = λ i. Wide (same_greatest _ p q h.1.1 g.1.1 i) ((h.1.0 ∙ sym g.1.0) i)
  one_limit (Wide p n) (Long terms m) h g = absurd (g.1.1 p h.1.1.here)
  one_limit (Wide p n) Deep h g = absurd (omega (arith, h.0, g))
  one_limit (Long terms n) (Wide q m) h g = absurd (h.1.1 q g.1.1.here)
  one_limit (Long terms n) (Long more m) h g = λ i. Long (same_count (after b f s) terms more h.1.2 g.1.2 i) ((h.1.0 ∙ sym g.1.0) i)
  one_limit (Long terms n) Deep h g = absurd (omega (arith, h.0, g))
  one_limit Deep (Wide q m) h g = absurd (omega (arith, h, g.0))
  one_limit Deep (Long terms m) h g = absurd (omega (arith, h, g.0))
  one_limit Deep Deep h g = refl
  one_limit (Steep d) y h g = absurd h
  one_limit (Wide p n) (Steep d) h g = absurd g
  one_limit (Long terms n) (Steep d) h g = absurd g
  one_limit Deep (Steep d) h g = absurd g

-- ---- two courses of one vector, of which the second stops

no_next : (b : List (List Term)) (f g : Coefficients) (s : Step) → ((x : Place) → g x ≡ f x) → IsEnd b g → IsNext b f s → ⊥
no_next b f g s e end n = end n.place s.by n.lead n.others (record {
  reducer = n.due.reducer;
  moves = λ none. n.due.moves (ap (λ z. int_div_euclid z n.lead.k) (sym (e n.place)) ∙ none);
})

next_from : (b : List (List Term)) (f g : Coefficients) (s : Step) → ((x : Place) → g x ≡ f x) → IsNext b g s → IsNext b f s
next_from b f g s e n = let same : Path Coefficients g f = λ i x. e x i in subst (λ h. IsNext b h s) same n

stops_from : (b : List (List Term)) (f g : Coefficients) (n : ℕ) (s : Step) (stop : Stop) → ((x : Place) → g x ≡ f x) → StopsNext b g n s stop
    → StopsNext b f n s stop
stops_from b f g n s stop e h = let same : Path Coefficients g f = λ i x. e x i in subst (λ k. StopsNext b k n s stop) same h

one_further : (n m : ℕ) → n + suc m ≡ n + 1 + m
one_further n m = omega arith

-- n steps were made before
never_both : (b : List (List Term)) (n : ℕ) (f g h : Coefficients) (ss rs : List Step) (s : Step) (stop : Stop) → Runs b f ss g → IsEnd b g
    → n + length ss ≤ STEPS → Runs b f rs h → IsNext b h s → StopsNext b h (n + length rs) s stop → ⊥
never_both b n f g h [] [] s stop r end few q next stops = no_next b f g s r end (next_from b f h s q next)
never_both b n f g h [] (t ∷ rs) s stop r end few q next stops = no_next b f g t r end q.0
never_both b n f g h (u ∷ ss) [] s stop r end few q next stops =
    let same : s ≡ u = same_next b f s u (next_from b f h s q next) r.0 in
    let here : StopsNext b f (n + 0) u stop = subst (λ t. StopsNext b f (n + 0) t stop) same (stops_from b f h (n + 0) s stop q stops) in
    goes_or_stops b f (n + 0) u stop (omega (arith, few)) r.1 here
never_both b n f g h (u ∷ ss) (t ∷ rs) s stop r end few q next stops =
    let same : t ≡ u = same_next b f t u q.0 r.0 in
    never_both b (n + 1) (after b f u) g h ss rs s stop r.2 end (omega (arith, few)) (subst (λ w. Runs b (after b f w) rs h) same q.2) next
    (subst (λ m. StopsNext b h m s stop) (one_further n (length rs)) stops)

pub rest_or_stop : (b : List (List Term)) (f : Coefficients) (v : List Term) (ss : List Step) (stop : Stop) → IsRest b f v ss → ChainStops b f stop → ⊥
rest_or_stop b f v ss stop h c = never_both b 0 f (coefficient_at v) c.last ss c.steps c.step stop h.runs h.end (omega (arith, h.most)) c.runs c.next
    (subst (λ m. StopsNext b c.last m c.step stop) (none_before (length c.steps)) c.stops)
  where
    none_before : (m : ℕ) → m ≡ 0 + m
    none_before m = omega arith

both_stop : (b : List (List Term)) (n : ℕ) (f g h : Coefficients) (ss rs : List Step) (s t : Step) (x y : Stop) → Runs b f ss g → IsNext b g s
    → StopsNext b g (n + length ss) s x → Runs b f rs h → IsNext b h t → StopsNext b h (n + length rs) t y → x ≡ y
both_stop b n f g h [] [] s t x y r next stops q next' stops' =
    let same : s ≡ t = same_next b f s t (next_from b f g s r next) (next_from b f h t q next') in
    one_limit b f (n + 0) t x y (subst (λ w. StopsNext b f (n + 0) w x) same (stops_from b f g (n + 0) s x r stops)) (stops_from b f h (n + 0) t y q stops')
both_stop b n f g h [] (u ∷ rs) s t x y r next stops q next' stops' =
    let same : s ≡ u = same_next b f s u (next_from b f g s r next) q.0 in
    let here : StopsNext b f (n + 0) u x = subst (λ w. StopsNext b f (n + 0) w x) same (stops_from b f g (n + 0) s x r stops) in
    let few : n + suc (length rs) ≤ STEPS = within b h (n + suc (length rs)) t y stops' in
    absurd (goes_or_stops b f (n + 0) u x (omega (arith, few)) q.1 here)
both_stop b n f g h (u ∷ ss) [] s t x y r next stops q next' stops' =
    let same : t ≡ u = same_next b f t u (next_from b f h t q next') r.0 in
    let here : StopsNext b f (n + 0) u y = subst (λ w. StopsNext b f (n + 0) w y) same (stops_from b f h (n + 0) t y q stops') in
    let few : n + suc (length ss) ≤ STEPS = within b g (n + suc (length ss)) s x stops in
    absurd (goes_or_stops b f (n + 0) u y (omega (arith, few)) r.1 here)
both_stop b n f g h (u ∷ ss) (w ∷ rs) s t x y r next stops q next' stops' =
    let same : w ≡ u = same_next b f w u q.0 r.0 in
    both_stop b (n + 1) (after b f u) g h ss rs s t x y r.2 next (subst (λ m. StopsNext b g m s x) (one_further n (length ss)) stops)
    (subst (λ z. Runs b (after b f z) rs h) same q.2) next' (subst (λ m. StopsNext b h m t y) (one_further n (length rs)) stops')

pub one_stop : (b : List (List Term)) (f : Coefficients) (s t : Stop) → ChainStops b f s → ChainStops b f t → s ≡ t
one_stop b f s t c d = both_stop b 0 f c.last d.last c.steps d.steps c.step d.step s t c.runs c.next
    (subst (λ m. StopsNext b c.last m c.step s) (none_before (length c.steps)) c.stops) d.runs d.next
    (subst (λ m. StopsNext b d.last m d.step t) (none_before (length d.steps)) d.stops)
  where
    none_before : (m : ℕ) → m ≡ 0 + m
    none_before m = omega arith
