-- The order of tasks is a strict total order, and by number it is that of the numbers.
use Rattle.std.proofs.Common.{ℕ, ◌+◌, ◌<◌, ◌≡◌, ◌≢◌, ◌⊎◌, inl, inr, arith, refl, sym, ◌∙◌, subst, List, [], ◌++◌, length}
use Rattle.module_vec.specs.declared.places.Term.{Term}
use Rattle.outcomes.specs.declared.tasks.Task.{Task}
use Rattle.outcomes.specs.declared.kinds.PairKind.{PairKind}
use Rattle.outcomes.specs.declared.kinds.PairKind.TheVariants.{S, G}
use Rattle.task_table.specs.declared.order.Order.{Order}
use Rattle.task_table.specs.declared.order.Order.TheVariants.{ByNumber, ByCost}
use Rattle.task_table.specs.Tasks.{IsTask, tasks_below, number_of, kind_number}
use Rattle.task_table.specs.Orders.{Rank, HasLowerRank, rank, cost, HasLowerNumber, Before}
use Rattle.task_table.specs.Profiles.{profile_of}
use Rattle.std.proofs.lemmas.List.{get_or_append_left}
use Rattle.task_table.proofs.Counting.{number_within, tasks_below_grow, kind_small}

pub three : (a b : ℕ) → (a < b) ⊎ ((a ≡ b) ⊎ (b < a))
three a b = grind arith

kinds : (k l : PairKind) → (kind_number k < kind_number l) ⊎ ((k ≡ l) ⊎ (kind_number l < kind_number k))
kinds G G = inr (inl refl)
kinds G S = inl (omega arith)
kinds S G = inr (inr (omega arith))
kinds S S = inr (inl refl)

lower_total : (t u : Task) → (HasLowerNumber t u) ⊎ ((t ≡ u) ⊎ (HasLowerNumber u t))
lower_total t u = elim (three t.j u.j) [
  | inl p ↦ inl (inl p)
  | inr q ↦ elim q [
    | inr p ↦ inr (inr (inl p))
    | inl e ↦ elim (three t.i u.i) [
      | inl p ↦ inl (inr (e, inl p))
      | inr q ↦ elim q [
        | inr p ↦ inr (inr (inr (sym e, inl p)))
        | inl f ↦ elim (kinds t.kind u.kind) [
          | inl p ↦ inl (inr (e, inr (f, p)))
          | inr q ↦ elim q [
            | inr p ↦ inr (inr (inr (sym e, inr (sym f, p))))
            | inl g ↦ inr (inl (λ i. record { i = f i; j = e i; kind = g i }))
          ]
        ]
      ]
    ]
  ]
]

-- a task of a lower number has one
pub lower_number : (t u : Task) → t.i < t.j → HasLowerNumber t u → number_of t < number_of u
lower_number t u h (inl p) =
    let a = number_within t (t.j + 1) (h, omega arith) in
    let b = tasks_below_grow (t.j + 1) u.j (omega (arith, p)) in
    omega (arith, a, b)
lower_number t u h (inr (e, inl p)) =
    let a : tasks_below t.j ≡ tasks_below u.j = rw e refl in
    let b = kind_small t.kind in
    omega (arith, a, b, p)
lower_number t u h (inr (e, inr (f, p))) =
    let a : tasks_below t.j ≡ tasks_below u.j = rw e refl in
    omega (arith, a, f, p)

-- two tasks have two numbers
pub numbers_apart : (t u : Task) → t.i < t.j → u.i < u.j → (u ≡ t) ⊎ (number_of u ≢ number_of t)
numbers_apart t u a b = elim (lower_total t u) [
  | inl p ↦ let h = lower_number t u a p in inr (λ e. omega (arith, h, e))
  | inr q ↦ elim q [
    | inl e ↦ inl (sym e)
    | inr p ↦ let h = lower_number u t b p in inr (λ e. omega (arith, h, e))
  ]
]

-- ---- ranks

rank_total : (r s : Rank) → (HasLowerRank r s) ⊎ ((r ≡ s) ⊎ (HasLowerRank s r))
rank_total r s = elim (three r.length s.length) [
  | inl p ↦ inl (inl p)
  | inr q ↦ elim q [
    | inr p ↦ inr (inr (inl p))
    | inl e ↦ elim (three r.degree s.degree) [
      | inl p ↦ inl (inr (e, inl p))
      | inr q ↦ elim q [
        | inr p ↦ inr (inr (inr (sym e, inl p)))
        | inl f ↦ elim (three r.digits s.digits) [
          | inl p ↦ inl (inr (e, inr (f, p)))
          | inr q ↦ elim q [
            | inr p ↦ inr (inr (inr (sym e, inr (sym f, p))))
            | inl g ↦ inr (inl (λ i. record { length = e i; degree = f i; digits = g i }))
          ]
        ]
      ]
    ]
  ]
]

rank_self : (r : Rank) → HasLowerRank r r → ⊥
rank_self r (inl p) = omega (arith, p)
rank_self r (inr (e, inl p)) = omega (arith, p)
rank_self r (inr (e, inr (f, p))) = omega (arith, p)

rank_chain : (r s q : Rank) → HasLowerRank r s → HasLowerRank s q → HasLowerRank r q
rank_chain r s q (inl x) (inl y) = inl (omega (arith, x, y))
rank_chain r s q (inl x) (inr (e, y)) = inl (omega (arith, x, e))
rank_chain r s q (inr (e, x)) (inl y) = inl (omega (arith, e, y))
rank_chain r s q (inr (e, inl x)) (inr (f, inl y)) = inr (e ∙ f, inl (omega (arith, x, y)))
rank_chain r s q (inr (e, inl x)) (inr (f, inr (g, y))) = inr (e ∙ f, inl (omega (arith, x, g)))
rank_chain r s q (inr (e, inr (g, x))) (inr (f, inl y)) = inr (e ∙ f, inl (omega (arith, g, y)))
rank_chain r s q (inr (e, inr (g, x))) (inr (f, inr (h, y))) = inr (e ∙ f, inr (g ∙ h, omega (arith, x, y)))

-- ---- the laws

-- of two tasks one comes before the other, or they are one
pub before_total : (order : Order) (entries : List (List Term)) (t u : Task) → (Before order entries t u) ⊎ ((t ≡ u) ⊎ (Before order entries u t))
unfolding Before
before_total order entries t u = elim (rank_total (rank order entries t) (rank order entries u)) [
  | inl p ↦ inl (inl p)
  | inr q ↦ elim q [
    | inr p ↦ inr (inr (inl p))
    | inl e ↦ elim (lower_total t u) [
      | inl p ↦ inl (inr (e, p))
      | inr q ↦ elim q [
        | inl g ↦ inr (inl g)
        | inr p ↦ inr (inr (inr (sym e, p)))
      ]
    ]
  ]
]

lower_self : (t : Task) → HasLowerNumber t t → ⊥
lower_self t (inl p) = omega (arith, p)
lower_self t (inr (e, inl p)) = omega (arith, p)
lower_self t (inr (e, inr (f, p))) = omega (arith, p)

pub before_not_itself : (order : Order) (entries : List (List Term)) (t : Task) → Before order entries t t → ⊥
unfolding Before
before_not_itself order entries t (inl p) = rank_self (rank order entries t) p
before_not_itself order entries t (inr (e, p)) = lower_self t p

lower_chain : (t u v : Task) → HasLowerNumber t u → HasLowerNumber u v → HasLowerNumber t v
lower_chain t u v (inl p) (inl q) = inl (omega (arith, p, q))
lower_chain t u v (inl p) (inr (e, q)) = inl (omega (arith, p, e))
lower_chain t u v (inr (e, p)) (inl q) = inl (omega (arith, e, q))
lower_chain t u v (inr (e, inl p)) (inr (f, inl q)) = inr (e ∙ f, inl (omega (arith, p, q)))
lower_chain t u v (inr (e, inl p)) (inr (f, inr (g, q))) = inr (e ∙ f, inl (omega (arith, p, g)))
lower_chain t u v (inr (e, inr (g, p))) (inr (f, inl q)) = inr (e ∙ f, inl (omega (arith, g, q)))
lower_chain t u v (inr (e, inr (g, p))) (inr (f, inr (h, q))) = inr (e ∙ f, inr (g ∙ h, omega (arith, p, q)))

pub before_chain : (order : Order) (entries : List (List Term)) (t u v : Task) → Before order entries t u → Before order entries u v → Before order entries t v
unfolding Before
before_chain order entries t u v (inl p) (inl q) = inl (rank_chain (rank order entries t) (rank order entries u) (rank order entries v) p q)
before_chain order entries t u v (inl p) (inr (e, q)) = inl (subst (HasLowerRank (rank order entries t)) e p)
before_chain order entries t u v (inr (e, p)) (inl q) = inl (subst (λ (r : Rank). HasLowerRank r (rank order entries v)) (sym e) q)
before_chain order entries t u v (inr (e, p)) (inr (f, q)) = inr (e ∙ f, lower_chain t u v p q)

-- the rank of a task doesn't change when entries are appended
pub rank_stays : (order : Order) (entries more : List (List Term)) (t : Task) → IsTask (length entries) t
    → rank order (entries ++ more) t ≡ rank order entries t
rank_stays ByNumber entries more t h = refl
rank_stays ByCost entries more t h =
    let i = get_or_append_left entries more [] t.i (let a = h.0 in let b = h.1 in omega (arith, a, b)) in
    let j = get_or_append_left entries more [] t.j h.1 in
    λ k. cost (profile_of (i k)) (profile_of (j k))

moved : {r s q w : Rank} → r ≡ s → q ≡ w → HasLowerRank r q → HasLowerRank s w
moved {r} {s} {q} {w} e f h = subst (λ (x : Rank). HasLowerRank s x) f (subst (λ (x : Rank). HasLowerRank x q) e h)

pub before_stays : (order : Order) (entries more : List (List Term)) (t u : Task) → IsTask (length entries) t → IsTask (length entries) u →
    (Before order entries t u → Before order (entries ++ more) t u) × (Before order (entries ++ more) t u → Before order entries t u)
unfolding Before
before_stays order entries more t u h k =
    let a = rank_stays order entries more t h in
    let b = rank_stays order entries more u k in (
      (λ x. elim x [ inl p ↦ inl (moved (sym a) (sym b) p) | inr (e, p) ↦ inr (a ∙ (e ∙ sym b), p) ]),
      (λ x. elim x [ inl p ↦ inl (moved a b p) | inr (e, p) ↦ inr (sym a ∙ (e ∙ b), p) ]),
    )

pub other_order : ByCost ≡ ByNumber → ⊥
other_order e = cc

-- by number, what comes before has a lower number
pub before_number : (order : Order) (entries : List (List Term)) (t u : Task) → order ≡ ByNumber → t.i < t.j → Before order entries t u
    → number_of t < number_of u
unfolding Before
before_number ByNumber entries t u is h (inl p) = absurd (rank_self (rank ByNumber entries t) p)
before_number ByNumber entries t u is h (inr (e, p)) = lower_number t u h p
before_number ByCost entries t u is h before = absurd (other_order is)
