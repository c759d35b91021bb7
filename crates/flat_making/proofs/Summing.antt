-- Handing down keeps what stands at entries that have yet to hand it on, and at entries of generators.
use Rattle.std.proofs.Common.{◌≡◌, ◌≢◌, ◌∙◌, ℕ, zero, suc, ◌<◌, ◌≤◌, nat_lt, Bool, true, false, cond, ℤ, pos, ◌+ℤ◌, List, [], ◌∷◌, ◌++◌, length}
use Rattle.std.proofs.Common.{refl, sym, ap, subst, arith, append-nil}
use Rattle.std.specs.List.{AllByRecursion}
use borrow.Author.Differences.{ints}
use Rattle.formal_sums.specs.FormalSum.{FormalSum, Same, coefficient, scale, rename, AllBelow, Falling, NonZero}
use Rattle.formal_sums.specs.Span.{multiple}
use Rattle.formal_sums.proofs.Coefficients.{coefficient-append, Same-append}
use Rattle.formal_sums.proofs.Falling.{coefficient-first}
use Rattle.formal_sums.proofs.Keys.{eq-above}
use Rattle.magnus_laws.proofs.Monomials.{length-product}
use Rattle.laurent_terms.specs.declared.TheConstants.{VARIABLES}
use Rattle.module_vec.specs.declared.places.Place.{Place}
use Rattle.module_vec.specs.declared.places.Term.{Term}
use Rattle.module_vec.specs.declared.steps.Step.{Step}
use Rattle.module_vec.specs.Modules.{vector_at, sum_of_steps}
use Rattle.module_vec.specs.Places.{same_place, moved, IsBelow}
use Rattle.module_vec.specs.Vectors.{sum_of}
use Rattle.module_vec.proofs.FallingTerms.{all_join}
use Rattle.module_vec.proofs.Order.{test, order}
use Rattle.fox_calculus.specs.Module.{HasVariables}
use Rattle.basis_entry.specs.declared.recipes.Recipe.{Recipe}
use Rattle.basis_entry.specs.declared.recipes.Recipe.TheVariants.{Gen, Sum}
use Rattle.report_reading.specs.declared.entry.EntryData.{EntryData}
use Rattle.flat_cert.specs.Images.{flat_image}
use Rattle.flat_making.specs.Handing.{steps_sum, IsRow, hands_on, recipe_at, HandDown}
use Rattle.flat_making.specs.Making.{NameBelow}
use Rattle.flat_making.proofs.Handings.{elsewhere}
use Rattle.flat_making.proofs.Monomials.{length-cancelled}
use Rattle.flat_making.proofs.Parts.{part, part_at, part-append, part_all}
use Rattle.flat_making.proofs.Values.{AreLong, raw, worth, value, value-append, value-same, value-multiple, value-flat, steps_raw, multiple_same}

abbrev pub is_generator : Recipe → Bool
is_generator (Gen number negated) = true
is_generator (Sum steps) = false

-- steps with whole monomials, which name entries below n
pub record AreGood (n : ℕ) (ss : List Step) : Type 0 where
  pub long : AllByRecursion (λ s. HasVariables s.t) ss
  pub below : NameBelow n ss

-- what a recipe is worth, and where its steps lead
abbrev pub IsWorth : List (List Term) → ℕ → Recipe → Type 0
IsWorth b n (Gen number negated) = Unit {0}
IsWorth b n (Sum steps) = AreGood n steps × Same same_place (sum_of (vector_at b n)) (sum_of_steps b steps)

-- ---- keys

-- the key has a whole monomial, and an entry below n
pub record IsKey (n : ℕ) (x : Place) : Type 0 where
  pub long : HasVariables x.m
  pub below : x.c < n

abbrev pub AreKeys : ℕ → FormalSum Place → Type 0
AreKeys n v = AllByRecursion (λ t. IsKey n t.1) v

pub keys_long : (n : ℕ) (v : FormalSum Place) → AreKeys n v → AreLong v
keys_long n [] all = tt
keys_long n (t ∷ v) all = (all.0.long, keys_long n v all.1)

keys_rise : (n k : ℕ) (v : FormalSum Place) → n ≤ k → AreKeys n v → AreKeys k v
keys_rise n k [] le all = tt
keys_rise n k (t ∷ v) le all = (record { long = all.0.long; below = omega (arith, le, all.0.below) }, keys_rise n k v le all.1)

pub steps_keys : (n : ℕ) (ss : List Step) → AreGood n ss → AreKeys n (steps_sum ss)
steps_keys n [] good = tt
steps_keys n (s ∷ ss) good = (
  record { long = good.long.0; below = good.below.0 },
  steps_keys n ss (record { long = good.long.1; below = good.below.1 }),
)

pub flat_keys : (n : ℕ) (v : FormalSum Place) → AreKeys n v → AreKeys n (flat_image v)
flat_keys n [] all = tt
flat_keys n (t ∷ v) all = (record { long = length-cancelled t.1.m ∙ all.0.long; below = all.0.below }, flat_keys n v all.1)

multiple_keys : (n : ℕ) (q : ℤ) (s : List ℕ) (v : FormalSum Place) → HasVariables s → AreKeys n v → AreKeys n (multiple moved q s v)
multiple_keys n q s [] long all = tt
multiple_keys n q s (t ∷ v) long all =
    (record { long = length-product VARIABLES s t.1.m long all.0.long; below = all.0.below }, multiple_keys n q s v long all.1)

hands_keys : (n : ℕ) (row : FormalSum Place) (steps : List Step) → AreLong row → AreGood n steps → AreKeys n (hands_on row (Sum steps))
hands_keys n [] steps long good = tt
hands_keys n (t ∷ row) steps long good =
    all_join (λ u. IsKey n u.1) (flat_image (multiple moved t.0 t.1.m (steps_sum steps))) (hands_on row (Sum steps))
    (flat_keys n (multiple moved t.0 t.1.m (steps_sum steps)) (multiple_keys n t.0 t.1.m (steps_sum steps) long.0 (steps_keys n steps good)))
    (hands_keys n row steps long.1 good)

-- ---- the keys of a row

-- a key with a coefficient other than 0 stands among the terms
pub key_stands : (P : Place → Type 0) (v : FormalSum Place) (x : Place) → AllByRecursion (λ t. P t.1) v → coefficient same_place v x ≢ pos 0 → P x
key_stands P [] x all some = absurd (some refl)
key_stands P (t ∷ v) x all some = by (same_place t.1 x) refl (key_stands P v x all.1)
  where
    by : (b : Bool) → same_place t.1 x ≡ b → (coefficient same_place v x ≢ pos 0 → P x) → P x
    by true s rest = subst P (test.sound t.1 x s) all.0
    by false s rest = rest (λ none. some (rw s (omega (arith, ints, none))))

pub stands_each : (v : FormalSum Place) → Falling IsBelow v → NonZero v → AllByRecursion (λ t. coefficient same_place v t.1 ≢ pos 0) v
stands_each [] f n = tt
stands_each (t ∷ v) f n = ((λ e. n.0 (sym (coefficient-first test order t v f.0) ∙ e)), lift v f.0 (stands_each v f.1 n.1))
  where
    lift : (w : FormalSum Place) → AllBelow IsBelow t.1 w → AllByRecursion (λ u. coefficient same_place v u.1 ≢ pos 0) w
        → AllByRecursion (λ u. coefficient same_place (t ∷ v) u.1 ≢ pos 0) w
    lift [] below all = tt
    lift (u ∷ w) below all =
        let same : coefficient same_place (t ∷ v) u.1 ≡ coefficient same_place v u.1 =
        rw (eq-above test order t.1 u.1 below.0) (omega (arith, ints)) in
        ((λ e. all.0 (sym same ∙ e)), lift w below.1 all.1)

-- are keys of the sum
pub row_keys : (P : Place → Type 0) (v row : FormalSum Place) (n : ℕ) → AllByRecursion (λ t. P t.1) v → IsRow (coefficient same_place v) n row
    → AllByRecursion (λ t. P t.1) row
row_keys P v row n all is = pick row (stands_each row is.falling is.nonzero) is.own
  where
    pick : (r : FormalSum Place) → AllByRecursion (λ t. coefficient same_place row t.1 ≢ pos 0) r → AllByRecursion (λ t. t.1.c ≡ n) r
        → AllByRecursion (λ t. P t.1) r
    pick [] some own = tt
    pick (t ∷ r) some own = (key_stands P v t.1 all (λ e. some.0 (is.is t.1 own.0 ∙ e)), pick r some.1 own.1)

-- ---- what is worth the same

module _ (es : List EntryData) (b : List (List Term)) (long : (i : ℕ) → AreLong (sum_of (vector_at b i)))
    (worths : (n : ℕ) → n < length es → IsWorth b n (recipe_at es n)) where
  -- an entry that has yet to hand on, or one of a generator
  abbrev pub live : ℕ → Place → Bool
  live n x = cond (nat_lt x.c n) true (is_generator (recipe_at es x.c))

  -- what a row hands on is worth what the row is
  hands_worth : (n : ℕ) (row : FormalSum Place) (steps : List Step) → AreLong row → AllByRecursion (λ t. t.1.c ≡ n) row → AreGood n steps
      → Same same_place (sum_of (vector_at b n)) (sum_of_steps b steps) → Same same_place (value b (hands_on row (Sum steps))) (value b row)
  hands_worth n [] steps all own good same = λ x. refl
  hands_worth n (t ∷ row) steps all own good same = λ x.
      value-append b (flat_image (multiple moved t.0 t.1.m (steps_sum steps))) (hands_on row (Sum steps)) x
      ∙ Same-append same_place (value b (flat_image (multiple moved t.0 t.1.m (steps_sum steps)))) (scale t.0 (worth b t.1))
      (value b (hands_on row (Sum steps))) (value b row) one
      (hands_worth n row steps all.1 own.1 good same) x
    where
      one : Same same_place (value b (flat_image (multiple moved t.0 t.1.m (steps_sum steps)))) (scale t.0 (worth b t.1))
      one x =
          let is : value b (flat_image (multiple moved t.0 t.1.m (steps_sum steps))) ≡ scale t.0 (flat_image (rename (moved t.1.m) (raw b (steps_sum steps)))) =
          value-flat b long (multiple moved t.0 t.1.m (steps_sum steps))
          (keys_long n (multiple moved t.0 t.1.m (steps_sum steps)) (multiple_keys n t.0 t.1.m (steps_sum steps) all.0 (steps_keys n steps good)))
          ∙ value-multiple b t.0 t.1.m (steps_sum steps) in
          let there : Same same_place (raw b (steps_sum steps)) (sum_of (vector_at b t.1.c)) =
          λ y. ap (λ v. coefficient same_place v y) (sym (steps_raw b steps)) ∙ sym (same y)
          ∙ ap (λ k. coefficient same_place (sum_of (vector_at b k)) y) (sym own.0) in
          ap (λ v. coefficient same_place v x) is
          ∙ multiple_same t.0 t.1.m (raw b (steps_sum steps)) (sum_of (vector_at b t.1.c)) there x

  -- entry number n hands on nothing
  live_generator : (n : ℕ) (x : Place) → is_generator (recipe_at es n) ≡ true → live (suc n) x ≡ live n x
  live_generator n x gen = by (nat_lt x.c n) refl (nat_lt x.c (suc n)) refl
    where
      by : (a : Bool) → nat_lt x.c n ≡ a → (c : Bool) → nat_lt x.c (suc n) ≡ c
          → cond c true (is_generator (recipe_at es x.c)) ≡ cond a true (is_generator (recipe_at es x.c))
      by true e true f = refl
      by true e false f = absurd (grind arith)
      by false e true f = let own : n ≡ x.c = grind arith in sym gen ∙ ap (λ k. is_generator (recipe_at es k)) own
      by false e false f = refl

  -- entry number n has the row
  live_sum : (n : ℕ) (h row : FormalSum Place) → is_generator (recipe_at es n) ≡ false → IsRow (coefficient same_place h) n row
      → Same same_place (part (live (suc n)) h) (part (live n) h ++ row)
  live_sum n h row sum is x =
      part_at (live (suc n)) h x
      ∙ by (nat_lt x.c n) refl (nat_lt x.c (suc n)) refl
      ∙ ap (λ z. z +ℤ coefficient same_place row x) (sym (part_at (live n) h x))
      ∙ sym (coefficient-append same_place (part (live n) h) row x)
    where
      both : (g : Bool) (z : ℤ) → coefficient same_place row x ≡ pos 0 → cond g z (pos 0) ≡ cond g z (pos 0) +ℤ coefficient same_place row x
      both true z none = omega (arith, ints, none)
      both false z none = omega (arith, ints, none)

      by : (a : Bool) → nat_lt x.c n ≡ a → (c : Bool) → nat_lt x.c (suc n) ≡ c
          → cond (cond c true (is_generator (recipe_at es x.c))) (coefficient same_place h x) (pos 0)
          ≡ cond (cond a true (is_generator (recipe_at es x.c))) (coefficient same_place h x) (pos 0) +ℤ coefficient same_place row x
      by true e true f =
          let lt : x.c < n = grind arith in
          both true (coefficient same_place h x) (elsewhere n row x is.own (λ own. absurd (omega (arith, own, lt))))
      by true e false f = absurd (grind arith)
      by false e true f =
          let own : x.c ≡ n = grind arith in
          let none : is_generator (recipe_at es x.c) ≡ false = ap (λ k. is_generator (recipe_at es k)) own ∙ sum in
          rw none (let here : coefficient same_place row x ≡ coefficient same_place h x = is.is x own in omega (arith, ints, here))
      by false e false f =
          let gt : n < x.c = grind arith in
          both (is_generator (recipe_at es x.c)) (coefficient same_place h x) (elsewhere n row x is.own (λ own. absurd (omega (arith, own, gt))))

  live_below : (n : ℕ) (v : FormalSum Place) → AreKeys n v → AllByRecursion (λ t. live n t.1 ≡ true) v
  live_below n [] all = tt
  live_below n (t ∷ v) all =
      let lt : t.1.c < n = all.0.below in
      let passes : nat_lt t.1.c n ≡ true = grind arith in
      (rw passes refl, live_below n v all.1)

  -- one entry more
  live_on : (n : ℕ) (h row : FormalSum Place) (r : Recipe) → recipe_at es n ≡ r → IsWorth b n r → AreKeys (length es) h
      → IsRow (coefficient same_place h) n row → Same same_place (value b (part (live (suc n)) h)) (value b (part (live n) (h ++ hands_on row r)))
  live_on n h row (Gen number negated) e is keys row_is =
      value-same b (part (live (suc n)) h) (part (live n) (h ++ [])) (λ x. part_at (live (suc n)) h x
      ∙ ap (λ c. cond c (coefficient same_place h x) (pos 0)) (live_generator n x (ap is_generator e))
      ∙ sym (part_at (live n) h x) ∙ ap (λ v. coefficient same_place (part (live n) v) x) (sym (append-nil h)))
  live_on n h row (Sum steps) e is keys row_is = λ x.
      value-same b (part (live (suc n)) h) (part (live n) h ++ row) (live_sum n h row (ap is_generator e) row_is) x
      ∙ value-append b (part (live n) h) row x
      ∙ sym (Same-append same_place (value b (part (live n) h)) (value b (part (live n) h)) (value b (hands_on row (Sum steps))) (value b row) (λ y. refl)
      (hands_worth n row steps whole row_is.own is.0 is.1) x)
      ∙ sym (value-append b (part (live n) h) (hands_on row (Sum steps)) x)
      ∙ ap (λ v. coefficient same_place (value b (part (live n) h ++ v)) x)
      (sym (part_all (live n) (hands_on row (Sum steps)) (live_below n (hands_on row (Sum steps)) (hands_keys n row steps whole is.0))))
      ∙ ap (λ v. coefficient same_place (value b v) x) (sym (part-append (live n) h (hands_on row (Sum steps))))
    where
      whole : AreLong row
      whole = keys_long (length es) row (row_keys (IsKey (length es)) h row n keys row_is)

  next_keys : (n : ℕ) (h row : FormalSum Place) (r : Recipe) → n ≤ length es → IsWorth b n r → AreKeys (length es) h
      → IsRow (coefficient same_place h) n row → AreKeys (length es) (h ++ hands_on row r)
  next_keys n h row (Gen number negated) le is keys row_is = all_join (λ u. IsKey (length es) u.1) h [] keys tt
  next_keys n h row (Sum steps) le is keys row_is =
      all_join (λ u. IsKey (length es) u.1) h (hands_on row (Sum steps)) keys
      (keys_rise n (length es) (hands_on row (Sum steps)) le
      (hands_keys n row steps (keys_long (length es) row (row_keys (IsKey (length es)) h row n keys row_is)) is.0))

  -- ALL THAT IS HANDED is worth, at entries of generators, what was handed first
  pub live_down : (n : ℕ) (h all : FormalSum Place) → n ≤ length es → AreKeys (length es) h → HandDown es n h all
      → Same same_place (value b (part (live n) h)) (value b (part (live 0) all)) × AreKeys (length es) all
  live_down zero h all le keys down =
      ((λ x. ap (λ v. coefficient same_place (value b (part (live 0) v)) x) (sym down)), subst (AreKeys (length es)) (sym down) keys)
  live_down (suc n) h all le keys (row, is, down) =
      let worth_n : IsWorth b n (recipe_at es n) = worths n (omega (arith, le)) in
      let more = next_keys n h row (recipe_at es n) (omega (arith, le)) worth_n keys is in
      let rest = live_down n (h ++ hands_on row (recipe_at es n)) all (omega (arith, le)) more down in
      ((λ x. live_on n h row (recipe_at es n) refl worth_n keys is x ∙ rest.0 x), rest.1)

  pub live_all : (h all : FormalSum Place) → AreKeys (length es) h → HandDown es (length es) h all
      → Same same_place (value b h) (value b (part (live 0) all)) × AreKeys (length es) all
  live_all h all keys down =
      let rest = live_down (length es) h all (omega arith) keys down in (
        (λ x. ap (λ v. coefficient same_place (value b v) x) (sym (part_all (live (length es)) h (live_below (length es) h keys))) ∙ rest.0 x),
        rest.1,
      )
