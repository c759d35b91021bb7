-- The order in which tasks are worked: by a rank that the order gives to each task, and then by number.
use Rattle.std.specs.Prelude.{◌≡◌, ◌⊎◌, ℕ, zero, suc, ◌+◌, ◌/◌, ◌%◌, ◌<◌, max, nat_eq, ◌&&◌, cond}
use Rattle.std.specs.Prelude.{unsigned_abs, List}
use Rattle.laurent_terms.specs.Monomials.{degree, common_multiple}
use Rattle.module_vec.specs.declared.places.Term.{Term}
use Rattle.module_vec.specs.Modules.{vector_at}
use Rattle.outcomes.specs.declared.tasks.Task.{Task}
use Rattle.task_table.specs.declared.order.Order.{Order}
use Rattle.task_table.specs.declared.order.Order.TheVariants.{ByNumber, ByCost}
use Rattle.task_table.specs.declared.profiles.Profile.{Profile}
use Rattle.task_table.specs.Profiles.{binary_digits, profile_of}
use Rattle.task_table.specs.Tasks.{kind_number}

-- by the greater entry of the pair, then the lesser one, then G before S
abbrev pub HasLowerNumber : Task → Task → Type 0
HasLowerNumber t u = (t.j < u.j) ⊎ ((t.j ≡ u.j) × ((t.i < u.i)
    ⊎ ((t.i ≡ u.i) × (kind_number t.kind < kind_number u.kind))))

-- what the order looks at first, in turn
pub record Rank : Type 0 where
  pub length : ℕ
  pub degree : ℕ
  pub digits : ℕ

abbrev pub HasLowerRank : Rank → Rank → Type 0
HasLowerRank r s = (r.length < s.length) ⊎ ((r.length ≡ s.length) × ((r.degree < s.degree)
    ⊎ ((r.degree ≡ s.degree) × (r.digits < s.digits))))

-- the greatest number up to n that divides both, or 1
abbrev pub common_up_to : ℕ → ℕ → ℕ → ℕ
common_up_to a b zero = 1
common_up_to a b (suc n) = cond (nat_eq (a % suc n) 0 && nat_eq (b % suc n) 0) (suc n) (common_up_to a b n)

-- the greatest common divisor, of numbers above 0
unfoldable pub greatest_common : ℕ → ℕ → ℕ
greatest_common a b = common_up_to a b a

-- how many digits the coefficients of f may get where its lead is carried to that of the pair with g
abbrev pub digits_with : Profile → Profile → ℕ
digits_with f g = f.digits + binary_digits (unsigned_abs g.lead.k
    / greatest_common (unsigned_abs f.lead.k) (unsigned_abs g.lead.k))

-- 0 for two short vectors, else 1; the degree of the least common multiple of the lead monomials; the most digits that
-- coefficients may get where the leads are carried to their least common multiple
unfoldable pub cost : Profile → Profile → Rank
cost f g = record {
  length = cond (f.short && g.short) 0 1;
  degree = degree (common_multiple f.lead.at.m g.lead.at.m);
  digits = max (digits_with f g) (digits_with g f);
}

-- the rank of a task; the entries are given by their vectors
abbrev pub rank : Order → List (List Term) → Task → Rank
rank ByNumber entries t = record { length = 0; degree = 0; digits = 0 }
rank ByCost entries t = cost (profile_of (vector_at entries t.i)) (profile_of (vector_at entries t.j))

-- t is worked before u
unfoldable pub Before : Order → List (List Term) → Task → Task → Type 0
Before order entries t u = HasLowerRank (rank order entries t) (rank order entries u)
    ⊎ ((rank order entries t ≡ rank order entries u) × HasLowerNumber t u)
