-- No chain of places falls for ever.
use Rattle.std.proofs.Common.{◌≡◌, ℕ, ◌<◌, Bool, true, false, ◌==◌, nat_lt, List, ◌⊎◌, inl, inr, refl, sym, subst, arith}
use Rattle.std.specs.declared.cmp.Ordering.{Ordering}
use Rattle.std.specs.declared.cmp.Ordering.TheVariants.{Less, Equal, Greater}
use Rattle.std.specs.Ordering.{nat_cmp, ordering_then}
use mathlib.Core.WellFounded.{Acc}
use lib.WfN.{lt-wf_rel}
use Rattle.laurent_terms.specs.declared.TheConstants.{VARIABLES}
use Rattle.laurent_terms.specs.Monomials.{mono_cmp}
use Rattle.laurent_terms.specs.Orders.{Below}
use Rattle.laurent_terms.proofs.Descent.{below_well_founded}
use Rattle.laurent_terms.proofs.Ranks.{mono_cmp_exact}
use Rattle.module_vec.specs.declared.places.Place.{Place}
use Rattle.module_vec.specs.Places.{IsBelow}
use Rattle.strong_pairs.proofs.Shifted.{InAll}

-- p stands below q, both in all variables
abbrev pub Lower : Place → Place → Type 0
Lower p q = InAll p × InAll q × IsBelow p q

parts : (a c : Ordering) → ordering_then a c ≡ Less → (a ≡ Less) ⊎ ((a ≡ Equal) × (c ≡ Less))
parts Less c e = inl refl
parts Equal c e = inr (refl, e)
parts Greater c e = absurd cc

less_is : (a c : ℕ) → nat_cmp a c ≡ Less → a < c
less_is a c e = by (nat_lt a c) refl (a == c) refl
  where
    by : (x : Bool) → nat_lt a c ≡ x → (y : Bool) → (a == c) ≡ y → a < c
    by true h y k = grind arith
    by false h true k = let wrong : Equal ≡ Less = rw (h, k) at e in absurd cc
    by false h false k = let wrong : Greater ≡ Less = rw (h, k) at e in absurd cc

-- by the component, where all with a lower monomial are done
inner : (m : List ℕ) → ((q : Place) → Below VARIABLES q.m m → Acc Lower q) → (c : ℕ) → Acc ◌<◌ c → Acc Lower (record { m = m; c = c })
inner m lower c (Acc.intro c' h) = Acc.intro (record { m = m; c = c }) (λ q l. by q l (parts (mono_cmp q.m m) (nat_cmp q.c c) l.2)
    (λ d less. inner m lower d (h d less)))
  where
    by : (q : Place) → Lower q (record { m = m; c = c }) → (mono_cmp q.m m ≡ Less) ⊎ ((mono_cmp q.m m ≡ Equal) × (nat_cmp q.c c ≡ Less))
        → ((d : ℕ) → d < c → Acc Lower (record { m = m; c = d })) → Acc Lower q
    by q l (inl e) before = lower q (l.0, l.1, e)
    by q l (inr (e, k)) before =
        let same : q.m ≡ m = (mono_cmp_exact q.m m).0 e in
        subst (λ (z : List ℕ). Acc Lower (record { m = z; c = q.c })) (sym same) (before q.c (less_is q.c c k))

outer : (m : List ℕ) → Acc (Below VARIABLES) m → (c : ℕ) → Acc Lower (record { m = m; c = c })
outer m (Acc.intro m' h) c = inner m (λ q l. outer q.m (h q.m l) q.c) c (lt-wf_rel.wf.apply c)

pub place_acc : (p : Place) → Acc Lower p
place_acc p = outer p.m ((below_well_founded VARIABLES).apply p.m) p.c
