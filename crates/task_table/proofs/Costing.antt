-- Ranks of tasks as numbers.
use Rattle.std.specs.Int.{IsGcd}
use Rattle.std.proofs.Common.{ℕ, zero, suc, ◌+◌, ◌*◌, ◌/◌, ◌%◌, ◌<◌, ◌≤◌, ◌≡◌, ◌≢◌, ◌⊎◌, inl, inr, arith, refl, sym, ap, ◌∙◌, Bool, true, false}
use Rattle.std.proofs.Common.{cond, nat_eq}
use Rattle.std.proofs.Common.{ℤ, pos, negsuc, ◌<ℤ◌, unsigned_abs, ◌&&◌}
use Rattle.std.proofs.lemmas.Int.{ints}
use Rattle.std.proofs.Math.Nat.{max-le}
use Rattle.std.proofs.lemmas.Bool.Decides.{eqb_tells}
use Rattle.std.proofs.lemmas.Nat.Gcd.{le_from_IsGcd, dvd_of_mod-eq-zero, mod-eq-zero_of_dvd, le_of_dvd}
use Rattle.laurent_terms.proofs.Division.{degree-common_multiple}
use Rattle.std.proofs.Common.{List, [], ◌∷◌, ◌++◌, length, map, subst, length-append, Some}
use Rattle.std.specs.List.{AllByRecursion}
use Rattle.std.proofs.lemmas.List.{get_or_append_left, length-map}
use Rattle.std.proofs.Math.ListN.{get_or-map}
use Rattle.module_vec.specs.declared.places.Term.{Term}
use Rattle.outcomes.specs.declared.tasks.Task.{Task}
use Rattle.task_table.specs.declared.order.Order.TheVariants.{ByCost}
use Rattle.task_table.specs.declared.profiles.Profile.{Profile}
use Rattle.outcomes.specs.declared.kinds.PairKind.{PairKind}
use Rattle.outcomes.specs.declared.kinds.PairKind.TheVariants.{S, G}
use Rattle.task_table.specs.Queues.{IsLeastOf, HasMore}
use Rattle.task_table.specs.Keys.{IsKey, Costed, AreCosts, TakesCheapest, key_of, rank_of, rank_number, pair_number, profile_at}
use Rattle.task_table.specs.Tasks.{IsTask, kind_number}
use Rattle.task_table.proofs.Counting.{kind_small}
use Rattle.task_table.specs.Orders.{Rank, HasLowerRank, HasLowerNumber, Before, rank, cost, common_up_to, greatest_common, digits_with}
use Rattle.task_table.specs.Profiles.{IsProfile, binary_digits, profile_of}

-- ---- the greatest common divisor

both : (b c : Bool) → ((b ≡ true) × (c ≡ true) × ((b && c) ≡ true)) ⊎ (((b ≡ false) ⊎ (c ≡ false)) × ((b && c) ≡ false))
both true true = inl (refl, refl, refl)
both true false = inr (inr refl, refl)
both false c = inr (inl refl, refl)

if_true : (t : Bool) (x y : ℕ) → t ≡ true → cond t x y ≡ x
if_true t x y e = rw e refl

if_false : (t : Bool) (x y : ℕ) → t ≡ false → cond t x y ≡ y
if_false t x y e = rw e refl

not_false : (b : Bool) → b ≡ true → b ≡ false → ⊥
not_false b p q = let e : true ≡ false = sym p ∙ q in cc

is_zero : (n : ℕ) → nat_eq n 0 ≡ true → n ≡ 0
is_zero n h = elim (eqb_tells n 0) [ inl (t, e) ↦ e | inr (f, ne) ↦ absurd (not_false (nat_eq n 0) h f) ]

zero_is : (n : ℕ) → n ≡ 0 → nat_eq n 0 ≡ true
zero_is n e = rw e refl

common_is : (a b d n : ℕ) → IsGcd a b d → 0 < d → d ≤ n → d ≡ common_up_to a b n
common_is a b d zero g p le = absurd (omega (arith, p, le))
common_is a b d (suc n) g p le = elim (both (nat_eq (a % suc n) 0) (nat_eq (b % suc n) 0)) [
  | inl (f, s, t) ↦
      let up = le_from_IsGcd a b d (suc n) g p (dvd_of_mod-eq-zero (suc n) (is_zero (a % suc n) f)) (dvd_of_mod-eq-zero (suc n) (is_zero (b % suc n) s)) in
      let e : d ≡ suc n = omega (arith, up, le) in e ∙ sym (if_true (nat_eq (a % suc n) 0 && nat_eq (b % suc n) 0) (suc n) (common_up_to a b n) t)
  | inr (one, t) ↦
      let ne : d ≢ suc n = λ e.
      let da : a % suc n ≡ 0 = ap (λ z. a % z) (sym e) ∙ mod-eq-zero_of_dvd d g.0 in
      let db : b % suc n ≡ 0 = ap (λ z. b % z) (sym e) ∙ mod-eq-zero_of_dvd d g.1 in
      elim one [ inl f ↦ not_false (nat_eq (a % suc n) 0) (zero_is (a % suc n) da) f | inr f ↦ not_false (nat_eq (b % suc n) 0) (zero_is (b % suc n) db) f ] in
      let low : d ≤ n = omega (arith, le, ne) in
      common_is a b d n g p low ∙ sym (if_false (nat_eq (a % suc n) 0 && nat_eq (b % suc n) 0) (suc n) (common_up_to a b n) t)
]

pub greatest_is : (a b d : ℕ) → IsGcd a b d → 0 < d → 0 < a → d ≡ greatest_common a b
unfolding greatest_common
greatest_is a b d g p q = common_is a b d a g p (le_of_dvd q g.0)

pub positive_abs : (k : ℤ) → pos 0 <ℤ k → 0 < unsigned_abs k
positive_abs (pos n) h = omega (arith, ints, h)
positive_abs (negsuc n) h = absurd (omega (arith, ints, h))

-- ---- bounds

digits_few : (n : ℕ) → binary_digits n ≤ 128
digits_few n = omega arith

pub cost_small : (f g : Profile) → IsProfile f → IsProfile g → ((cost f g).length ≤ 1) × ((cost f g).degree ≤ 120000) × ((cost f g).digits ≤ 256)
unfolding cost
cost_small f g a b = (
  at_most_one (f.short && g.short),
  (let d = degree-common_multiple f.lead.at.m g.lead.at.m (a.monomial.variables ∙ sym b.monomial.variables)
      in omega (arith, d, a.monomial.most, b.monomial.most)),
  max-le (with_few f g a) (with_few g f b),
) where
  at_most_one : (t : Bool) → cond t 0 1 ≤ 1
  at_most_one true = omega arith
  at_most_one false = omega arith

  with_few : (f g : Profile) → IsProfile f → digits_with f g ≤ 256
  with_few f g a = let d = digits_few (unsigned_abs g.lead.k / greatest_common (unsigned_abs f.lead.k) (unsigned_abs g.lead.k)) in omega (arith, d, a.digits)

-- ---- keys

unpacked : (r j i k x : ℕ) → i < 4096 → j < 4096 → k ≤ 1 → x ≡ r * 33554432 + ((j * 4096 + i) * 2 + k)
    → (x % 2 ≡ k) × (x / 2 % 4096 ≡ i) × (x / 8192 % 4096 ≡ j)
unpacked r j i k x a b c e = (omega (arith, c, e), omega (arith, a, c, e), omega (arith, a, b, c, e))

same_kind : (k l : PairKind) → kind_number k ≡ kind_number l → k ≡ l
same_kind G G e = refl
same_kind S S e = refl
same_kind G S e = absurd (omega (arith, e))
same_kind S G e = absurd (omega (arith, e))

-- a task is read off its key
pub task_read : (profiles : List Profile) (t : Task) (x : ℕ) (k : PairKind) → t.i < 4096 → t.j < 4096 → x ≡ key_of profiles t → kind_number k ≡ x % 2 →
    let task : Task = record { i = x / 2 % 4096; j = x / 8192 % 4096; kind = k } in task ≡ t
unfolding key_of
task_read profiles t x k a b e kind =
    let u = unpacked (rank_number (rank_of profiles t)) t.j t.i (kind_number t.kind) x a b (kind_small t.kind) e in
    λ z. record { i = u.1 z; j = u.2 z; kind = same_kind k t.kind (kind ∙ u.0) z }

-- the least number of a queue is the key of the cheapest task
pub taken_cheapest : (c : Costed) → AreCosts c → (x : ℕ) (s : Task) (new : List ℕ) → IsLeastOf c.queue.numbers x → HasMore new x c.queue.numbers
    → ((t : Task) → t.i < 4096 → t.j < 4096 → x ≡ key_of c.profiles t → s ≡ t) → TakesCheapest c.profiles c.queue.numbers (Some s) new
taken_cheapest c h x s new least more read =
    let k = h.keys x least.contained in
    let k0 = k.is_task.0 in let k1 = k.is_task.1 in
    let e : s ≡ k.task = read k.task (omega (arith, k0, k1, h.most)) (omega (arith, k1, h.most)) k.is in
    let P : Task → Type 0 = λ t. IsTask (length c.profiles) t × IsLeastOf c.queue.numbers (key_of c.profiles t)
    × HasMore new (key_of c.profiles t) c.queue.numbers in
    subst P (sym e) (k.is_task, subst (λ (y : ℕ). IsLeastOf c.queue.numbers y) k.is least, subst (λ (y : ℕ). HasMore new y c.queue.numbers) k.is more)

pub keys_stay : (profiles : List Profile) (f : Profile) (t : Task) → IsTask (length profiles) t → key_of (profiles ++ f ∷ []) t ≡ key_of profiles t
unfolding key_of
keys_stay profiles f t h =
    let i = get_or_append_left profiles (f ∷ []) (profile_of []) t.i (let a = h.0 in let b = h.1 in omega (arith, a, b)) in
    let j = get_or_append_left profiles (f ∷ []) (profile_of []) t.j h.1 in
    λ k. rank_number (cost (i k) (j k)) * 33554432 + pair_number t

-- keys stay keys when a profile is added
pub key_stays : (profiles : List Profile) (f : Profile) (x : ℕ) → IsKey profiles x → IsKey (profiles ++ f ∷ []) x
key_stays profiles f x h = record {
  task = h.task;
  is_task = (h.is_task.0, let n = length-append profiles (f ∷ []) in let l = h.is_task.1 in omega (arith, n, l));
  is = h.is ∙ sym (keys_stay profiles f h.task h.is_task);
}

pair_small : (t : Task) → t.i < 4096 → t.j < 4096 → pair_number t < 33554432
pair_small t a b = let k = kind_small t.kind in omega (arith, a, b, k)

lower_pair : (t u : Task) → t.i < 4096 → HasLowerNumber t u → pair_number t < pair_number u
lower_pair t u a (inl p) = let k = kind_small t.kind in omega (arith, a, k, p)
lower_pair t u a (inr (e, inl p)) = let k = kind_small t.kind in omega (arith, k, e, p)
lower_pair t u a (inr (e, inr (f, p))) = omega (arith, e, f, p)

lower_rank : (r s : Rank) → r.degree ≤ 120000 → r.digits ≤ 256 → HasLowerRank r s → rank_number r < rank_number s
lower_rank r s a b (inl p) = omega (arith, a, b, p)
lower_rank r s a b (inr (e, inl p)) = omega (arith, b, e, p)
lower_rank r s a b (inr (e, inr (f, p))) = omega (arith, e, f, p)

rank_is : (entries : List (List Term)) (t : Task) → rank_of (map profile_of entries) t ≡ rank ByCost entries t
rank_is entries t = λ k. cost (get_or-map profile_of entries t.i [] k) (get_or-map profile_of entries t.j [] k)

-- what comes before has a lower key
pub lower_key : (entries : List (List Term)) (t u : Task) → AllByRecursion IsProfile (map profile_of entries) → length entries ≤ 4096
    → IsTask (length entries) t
    → Before ByCost entries t u → IsTask (length entries) u → key_of (map profile_of entries) t < key_of (map profile_of entries) u
unfolding key_of Before
lower_key entries t u all few h before k =
    let profiles : List Profile = map profile_of entries in
    let n = length-map entries profile_of in
    let a : t.i < 4096 = let x = h.0 in let y = h.1 in omega (arith, x, y, few) in
    let b : t.j < 4096 = let y = h.1 in omega (arith, y, few) in
    let f = all_at profiles t.i all (let x = h.0 in let y = h.1 in omega (arith, n, x, y)) in
    let g = all_at profiles t.j all (let y = h.1 in omega (arith, n, y)) in
    let small = cost_small (profile_at profiles t.i) (profile_at profiles t.j) f g in
    let small_pair = pair_small t a b in
    let rt = rank_is entries t in
    let ru = rank_is entries u in
    elim before [
      | inl low ↦
          let l = lower_rank (rank_of profiles t) (rank_of profiles u) small.1 small.2 (subst (λ (r : Rank). HasLowerRank r (rank_of profiles u)) (sym rt)
          (subst (λ (s : Rank). HasLowerRank (rank ByCost entries t) s) (sym ru) low)) in omega (arith, l, small_pair)
      | inr (e, low) ↦
          let p = lower_pair t u a low in
          let same : rank_number (rank_of profiles t) ≡ rank_number (rank_of profiles u) = ap rank_number (rt ∙ (e ∙ sym ru)) in omega (arith, p, same)
    ]
  where
    all_at : (profiles : List Profile) (i : ℕ) → AllByRecursion IsProfile profiles → i < length profiles → IsProfile (profile_at profiles i)
    all_at [] i all h = absurd (omega (arith, h))
    all_at (p ∷ ps) zero all h = all.0
    all_at (p ∷ ps) (suc i) all h = all_at ps i all.1 (omega (arith, h))

pub all_push : {X : Type 0} (P : X → Type 0) (xs : List X) (x : X) → AllByRecursion P xs → P x → AllByRecursion P (xs ++ x ∷ [])
all_push P [] x h own = (own, tt)
all_push P (y ∷ xs) x h own = (h.0, all_push P xs x h.1 own)

-- two tasks have two keys
pub keys_apart : (profiles : List Profile) (t u : Task) → t.i < 4096 → t.j < 4096 → u.i < 4096 → u.j < 4096 → key_of profiles t ≡ key_of profiles u → t ≡ u
unfolding key_of
keys_apart profiles t u a b c d e =
    let x = key_of profiles t in
    let p = unpacked (rank_number (rank_of profiles t)) t.j t.i (kind_number t.kind) x a b (kind_small t.kind) refl in
    let q = unpacked (rank_number (rank_of profiles u)) u.j u.i (kind_number u.kind) x c d (kind_small u.kind) e in
    λ z. record { i = (sym p.1 ∙ q.1) z; j = (sym p.2 ∙ q.2) z; kind = same_kind t.kind u.kind (sym p.0 ∙ q.0) z }
