-- Where the G tasks are closed, the leads that divide a place have one among them, up to an entry, that divides all.
use Rattle.std.proofs.Common.{◌≡◌, ℕ, ◌<◌, true, ℤ, pos, ◌*ℤ◌, List, [], ◌∷◌, length, ◌⊎◌, inl, inr, sym, ap, subst, ◌∙◌, arith}
use borrow.Author.Differences.{ints}
use Rattle.std.specs.List.{AllByRecursion}
use Rattle.formal_sums.proofs.Integers.{*ℤ_assoc}
use Rattle.laurent_terms.specs.Monomials.{divides, common_multiple}
use Rattle.laurent_terms.proofs.Division.{divides_trans, divides-common_multiple}
use Rattle.module_vec.specs.declared.places.Place.{Place}
use Rattle.module_vec.specs.declared.places.Term.{Term}
use Rattle.module_vec.specs.Reducers.{Reduces, AreEntries}
use Rattle.outcomes.specs.declared.kinds.PairKind.TheVariants.{G}
use Rattle.strong_pairs.specs.Covering.{Divides, CoversLeads, Covers}
use Rattle.strong_pairs.specs.Pairs.{lead_at}
use Rattle.strong_pairs.specs.Tasks.{AreClosed, Reaches, DividesAll}
use Rattle.strong_pairs.proofs.Entered.{lead_length}

pub divides_itself : (k : ℤ) → Divides k k
divides_itself k = (pos 1, omega (arith, ints))

pub divides_on : (j k l : ℤ) → Divides j k → Divides k l → Divides j l
divides_on j k l (f, e) (g, h) = (g *ℤ f, h ∙ ap (λ z. g *ℤ z) e ∙ sym (*ℤ_assoc g f j))

pub order_of : (i j : ℕ) → (i < j) ⊎ ((i ≡ j) ⊎ (j < i))
order_of i j = grind arith

module _ (b : List (List Term)) (entries : AreEntries b) where
  -- what covers two leads that divide a place divides it too
  pub covers_on : (p : Place) (i j k : ℕ) → i < length b → j < length b → Reduces (lead_at b i) p → Reduces (lead_at b j) p
      → CoversLeads (lead_at b k) (lead_at b i) (lead_at b j) → Reduces (lead_at b k) p
  covers_on p i j k hi hj ri rj c =
      let same : length (lead_at b i).at.m ≡ length (lead_at b j).at.m = lead_length b entries i hi ∙ sym (lead_length b entries j hj) in
      let multiple : divides (common_multiple (lead_at b i).at.m (lead_at b j).at.m) p.m ≡ true =
      (divides-common_multiple (lead_at b i).at.m (lead_at b j).at.m p.m same).1 (ri.1, rj.1) in
      (c.reduces.0 ∙ ri.0, divides_trans (lead_at b k).at.m (common_multiple (lead_at b i).at.m (lead_at b j).at.m) p.m c.reduces.1 multiple)

  module _ (closed : AreClosed b G) (p : Place) where
    -- for two
    pub both : (i j : ℕ) → Reaches b p i → Reaches b p j → (k : ℕ) × Reaches b p k × Divides (lead_at b k).k (lead_at b i).k
        × Divides (lead_at b k).k (lead_at b j).k
    both i j hi hj = by (order_of i j)
      where
        one_way : (i j : ℕ) → Reaches b p i → Reaches b p j → i < j → (k : ℕ) × Reaches b p k × Divides (lead_at b k).k (lead_at b i).k
            × Divides (lead_at b k).k (lead_at b j).k
        one_way i j hi hj l =
            let c : (k : ℕ) × Covers b i j k = closed i j (record { order = l; within = hj.0; component = hi.1.0 ∙ sym hj.1.0 }) in
            (c.0, (c.1.0, covers_on p i j c.0 hi.0 hj.0 hi.1 hj.1 c.1.1), c.1.1.first, c.1.1.second)

        by : (i < j) ⊎ ((i ≡ j) ⊎ (j < i)) → (k : ℕ) × Reaches b p k × Divides (lead_at b k).k (lead_at b i).k × Divides (lead_at b k).k (lead_at b j).k
        by (inl l) = one_way i j hi hj l
        by (inr (inl e)) = (i, hi, divides_itself (lead_at b i).k, subst (λ n. Divides (lead_at b i).k (lead_at b n).k) e (divides_itself (lead_at b i).k))
        by (inr (inr l)) = let r = one_way j i hj hi l in (r.0, r.1, r.3, r.2)

    -- GCD COVERAGE
    pub coverage : (i : ℕ) (numbers : List ℕ) → AllByRecursion (Reaches b p) (i ∷ numbers) → (k : ℕ) × DividesAll b p (i ∷ numbers) k
    coverage i [] h = (i, record { reaches = h.0; divides = (divides_itself (lead_at b i).k, tt) })
    coverage i (j ∷ numbers) h = by (coverage i numbers (h.0, h.1.1))
      where
        further : (k l : ℕ) → Divides (lead_at b l).k (lead_at b k).k → (ns : List ℕ) → AllByRecursion (λ n. Divides (lead_at b k).k (lead_at b n).k) ns
            → AllByRecursion (λ n. Divides (lead_at b l).k (lead_at b n).k) ns
        further k l d [] a = tt
        further k l d (n ∷ ns) a = (divides_on (lead_at b l).k (lead_at b k).k (lead_at b n).k d a.0, further k l d ns a.1)

        by : (k : ℕ) × DividesAll b p (i ∷ numbers) k → (k : ℕ) × DividesAll b p (i ∷ (j ∷ numbers)) k
        by (k, all) =
            let r : (l : ℕ) × Reaches b p l × Divides (lead_at b l).k (lead_at b k).k × Divides (lead_at b l).k (lead_at b j).k = both k j all.reaches h.1.0 in
            let old : AllByRecursion (λ n. Divides (lead_at b r.0).k (lead_at b n).k) (i ∷ numbers) = further k r.0 r.2 (i ∷ numbers) all.divides in
            (r.0, record { reaches = r.1; divides = (old.0, (r.3, old.1)) })
