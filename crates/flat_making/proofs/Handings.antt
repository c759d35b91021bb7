-- Rows are there and only once, and what is handed grows.
use Rattle.std.proofs.Common.{◌≡◌, ◌≢◌, ◌⊎◌, inl, inr, ◌∙◌, ℕ, zero, suc, ◌+◌, ◌<◌, ◌≤◌, nat_eq, Bool, true, false, cond, ℤ, pos, ◌+ℤ◌, List, [], ◌∷◌, ◌++◌, length}
use Rattle.std.proofs.Common.{get_or, drop, refl, sym, ap, subst, arith, append_assoc, append-nil}
use Rattle.std.specs.Prelude.{Option, Result, Ok, Err, OnOk}
use Rattle.flat_cert.specs.declared.lines.Flat.{Flat}
use Rattle.flat_cert.specs.declared.lines.FlatKind.{FlatKind}
use Rattle.flat_making.specs.Lines.{entry_lines, AreLinesFrom}
use Rattle.std.specs.List.{AllByRecursion}
use Rattle.std.specs.Ordering.{int_eq}
use borrow.Author.Differences.{ints}
use Rattle.formal_sums.specs.FormalSum.{FormalSum, coefficient, AllBelow, Falling, NonZero}
use Rattle.formal_sums.proofs.Coefficients.{coefficient-append}
use Rattle.formal_sums.proofs.Falling.{falling_same, AllBelow_transitive}
use Rattle.formal_sums.proofs.Keys.{int_test, nat_test, eq-apart}
use Rattle.module_vec.specs.declared.places.Place.{Place}
use Rattle.module_vec.specs.Places.{same_place, IsBelow}
use Rattle.module_vec.proofs.Order.{test, order}
use Rattle.basis_entry.specs.declared.recipes.Recipe.{Recipe}
use Rattle.basis_entry.specs.declared.recipes.Recipe.TheVariants.{Sum}
use Rattle.report_reading.specs.declared.entry.EntryData.{EntryData}
use Rattle.flat_cert.specs.declared.totals.Total.{Total}
use Rattle.flat_cert.specs.declared.faults.FlatFault.{FlatFault}
use Rattle.flat_cert.specs.declared.faults.FlatFault.TheVariants.{Beyond, NoMemory}
use Rattle.flat_cert.specs.Weights.{weight, IsBeyond}
use Rattle.flat_cert.specs.Adding.{sum_at, weight_at, Adds}
use Rattle.flat_cert.proofs.Adding.{Answer}
use Rattle.flat_cert.proofs.Weights.{weight-append, beyond_more}
use Rattle.module_vec.specs.declared.steps.Step.{Step}
use Rattle.flat_cert.specs.Images.{flat_image}
use Rattle.flat_making.specs.Handing.{steps_sum, IsRow, hands_on, recipe_at, HandDown, IsHanded, Holds, HandsDown}

abbrev pub Totals : Type 0
Totals = List (Place × Total)

-- ---- a row is one alone

pub elsewhere : (n : ℕ) (v : FormalSum Place) (x : Place) → AllByRecursion (λ t. t.1.c ≡ n) v → x.c ≢ n → coefficient same_place v x ≡ pos 0
elsewhere n [] x own other = refl
elsewhere n (t ∷ v) x own other =
    let rest : coefficient same_place v x ≡ pos 0 = elsewhere n v x own.1 other in
    rw (eq-apart test t.1 x (λ same. other (sym (ap (λ (y : Place). y.c) same) ∙ own.0))) (omega (arith, ints, rest))

pub one_row : (M : Place → ℤ) (n : ℕ) (v w : FormalSum Place) → IsRow M n v → IsRow M n w → v ≡ w
one_row M n v w a b = falling_same test order v w a.falling a.nonzero b.falling b.nonzero (λ x. by x (nat_eq x.c n) refl)
  where
    by : (x : Place) (r : Bool) → nat_eq x.c n ≡ r → coefficient same_place v x ≡ coefficient same_place w x
    by x true e = let own : x.c ≡ n = nat_test.sound x.c n e in a.is x own ∙ sym (b.is x own)
    by x false e =
        let other : x.c ≢ n = λ own. let wrong : true ≡ false = sym (nat_test.reflexive n) ∙ ap (λ k. nat_eq k n) (sym own) ∙ e in cc in
        elsewhere n v x a.own other ∙ sym (elsewhere n w x b.own other)

pub row_as : (M N : Place → ℤ) (n : ℕ) (v : FormalSum Place) → ((x : Place) → M x ≡ N x) → IsRow M n v → IsRow N n v
row_as M N n v same is =
    record { falling = is.falling; nonzero = is.nonzero; own = is.own; is = λ x own. is.is x own ∙ same x }

-- ---- a falling sum with one more term

pub record Added (q : ℤ) (x : Place) (v : FormalSum Place) : Type 0 where
  pub made : FormalSum Place
  pub falling : Falling IsBelow made
  pub nonzero : NonZero made
  pub is : (y : Place) → coefficient same_place made y ≡ cond (same_place x y) q (pos 0) +ℤ coefficient same_place v y
  pub below : (p : Place) → IsBelow x p → AllBelow IsBelow p v → AllBelow IsBelow p made
  pub own : (n : ℕ) → x.c ≡ n → AllByRecursion (λ t. t.1.c ≡ n) v → AllByRecursion (λ t. t.1.c ≡ n) made

none_of : (b : Bool) (q z : ℤ) → q ≡ pos 0 → z ≡ cond b q (pos 0) +ℤ z
none_of true q z e = omega (arith, ints)
none_of false q z e = omega (arith, ints)

not_zero : (q : ℤ) → int_eq q (pos 0) ≡ false → q ≢ pos 0
not_zero q e none = let wrong : true ≡ false = sym (int_test.reflexive (pos 0)) ∙ ap (λ z. int_eq z (pos 0)) (sym none) ∙ e in cc

-- it stands above all, or isn't there
on_top : (q : ℤ) (x : Place) (v : FormalSum Place) → Falling IsBelow v → NonZero v → AllBelow IsBelow x v → Added q x v
on_top q x v f n above = by (int_eq q (pos 0)) refl
  where
    by : (b : Bool) → int_eq q (pos 0) ≡ b → Added q x v
    by true e = record {
      made = v;
      falling = f;
      nonzero = n;
      is = λ y. none_of (same_place x y) q (coefficient same_place v y) (int_test.sound q (pos 0) e);
      below = λ p lt all. all;
      own = λ k here all. all;
    }
    by false e = record {
      made = (q, x) ∷ v;
      falling = (above, f);
      nonzero = (not_zero q e, n);
      is = λ y. refl;
      below = λ p lt all. (lt, all);
      own = λ k here all. (here, all);
    }

both_of : (b : Bool) (q k z : ℤ) → cond b (q +ℤ k) (pos 0) +ℤ z ≡ cond b q (pos 0) +ℤ (cond b k (pos 0) +ℤ z)
both_of true q k z = omega (arith, ints)
both_of false q k z = omega (arith, ints)

-- it stands at the first place
on_first : (q k : ℤ) (x : Place) (v : FormalSum Place) → AllBelow IsBelow x v → Falling IsBelow v → NonZero v → Added q x ((k, x) ∷ v)
on_first q k x v above f n = by (int_eq (q +ℤ k) (pos 0)) refl
  where
    by : (b : Bool) → int_eq (q +ℤ k) (pos 0) ≡ b → Added q x ((k, x) ∷ v)
    by true e = record {
      made = v;
      falling = f;
      nonzero = n;
      is = λ y. none_of (same_place x y) (q +ℤ k) (coefficient same_place v y) (int_test.sound (q +ℤ k) (pos 0) e)
          ∙ both_of (same_place x y) q k (coefficient same_place v y);
      below = λ p lt all. all.1;
      own = λ j here all. all.1;
    }
    by false e = record {
      made = (q +ℤ k, x) ∷ v;
      falling = (above, f);
      nonzero = (not_zero (q +ℤ k) e, n);
      is = λ y. both_of (same_place x y) q k (coefficient same_place v y);
      below = λ p lt all. (lt, all.1);
      own = λ j here all. (here, all.1);
    }

behind : (q : ℤ) (x : Place) (t : ℤ × Place) (v : FormalSum Place) → IsBelow x t.1 → Falling IsBelow (t ∷ v) → NonZero (t ∷ v) → Added q x v
    → Added q x (t ∷ v)
behind q x t v lt f n rest = record {
  made = t ∷ rest.made;
  falling = (rest.below t.1 lt f.0, rest.falling);
  nonzero = (n.0, rest.nonzero);
  is = λ y. omega (arith, ints, rest.is y);
  below = λ p low all. (all.0, rest.below p low all.1);
  own = λ k here all. (all.0, rest.own k here all.1);
}

added : (q : ℤ) (x : Place) (v : FormalSum Place) → Falling IsBelow v → NonZero v → Added q x v
added q x [] f n = on_top q x [] f n tt
added q x (t ∷ v) f n = by (order.total x t.1) (added q x v f.1 n.1)
  where
    by : (x ≡ t.1) ⊎ (IsBelow x t.1 ⊎ IsBelow t.1 x) → Added q x v → Added q x (t ∷ v)
    by (inl same) rest = subst (λ (y : Place). Added q y (t ∷ v)) (sym same) (on_first q t.0 t.1 v f.0 f.1 n.1)
    by (inr (inl lt)) rest = behind q x t v lt f n rest
    by (inr (inr gt)) rest = on_top q x (t ∷ v) f n (gt, AllBelow_transitive test order t.1 x gt v f.0)

-- ---- so each sum has its rows

pub row_there : (v : FormalSum Place) (n : ℕ) → (row : FormalSum Place) × IsRow (coefficient same_place v) n row
row_there [] n = ([], record { falling = tt; nonzero = tt; own = tt; is = λ x own. refl })
row_there (t ∷ v) n = by (nat_eq t.1.c n) refl (row_there v n)
  where
    by : (b : Bool) → nat_eq t.1.c n ≡ b → (row : FormalSum Place) × IsRow (coefficient same_place v) n row
        → (row : FormalSum Place) × IsRow (coefficient same_place (t ∷ v)) n row
    by true e (row, is) =
        let more : Added t.0 t.1 row = added t.0 t.1 row is.falling is.nonzero in (
          more.made,
          record {
            falling = more.falling;
            nonzero = more.nonzero;
            own = more.own n (nat_test.sound t.1.c n e) is.own;
            is = λ x own. more.is x ∙ ap (λ z. cond (same_place t.1 x) t.0 (pos 0) +ℤ z) (is.is x own);
          },
        )
    by false e (row, is) = (
      row,
      record {
        falling = is.falling;
        nonzero = is.nonzero;
        own = is.own;
        is = λ x own.
            let other : same_place t.1 x ≡ false = eq-apart test t.1 x (λ same. let wrong : true ≡ false = sym (nat_test.reflexive n)
            ∙ ap (λ k. nat_eq k n) (sym (ap (λ (y : Place). y.c) same ∙ own)) ∙ e in cc) in
            let rest : coefficient same_place row x ≡ coefficient same_place v x = is.is x own in
            rw other (omega (arith, ints, rest));
      },
    )

-- ---- handing down

pub down_there : (es : List EntryData) (n : ℕ) (handed : FormalSum Place) → (all : FormalSum Place) × HandDown es n handed all
down_there es zero handed = (handed, refl)
down_there es (suc n) handed =
    let (row, is) = row_there handed n in
    let (all, down) = down_there es n (handed ++ hands_on row (recipe_at es n)) in
    (all, (row, is, down))

pub down_more : (es : List EntryData) (n : ℕ) (handed all : FormalSum Place) → HandDown es n handed all → (x : Place) → weight handed x ≤ weight all x
down_more es zero handed all down x = let same : weight all x ≡ weight handed x = ap (λ v. weight v x) down in omega (arith, same)
down_more es (suc n) handed all (row, is, down) x =
    omega (arith, down_more es n (handed ++ hands_on row (recipe_at es n)) all down x, weight-append handed (hands_on row (recipe_at es n)) x)

pub down_once : (es : List EntryData) (n : ℕ) (handed a b : FormalSum Place) → HandDown es n handed a → HandDown es n handed b → a ≡ b
down_once es zero handed a b f g = f ∙ sym g
down_once es (suc n) handed a b (row, is, f) (row', is', g) =
    let same : row' ≡ row = one_row (coefficient same_place handed) n row' row is' is in
    down_once es n (handed ++ hands_on row (recipe_at es n)) a b f
    (subst (λ (v : FormalSum Place). HandDown es n (handed ++ hands_on v (recipe_at es n)) b) same g)

-- ---- totals that hold what is handed

pub holds_on : (old new : Totals) (handed v : FormalSum Place) → Holds old handed → Adds old v new (Ok tt) → Holds new (handed ++ v)
holds_on old new handed v held adds = record {
  sums = λ x. adds.0 x ∙ ap (λ z. z +ℤ coefficient same_place v x) (held.sums x) ∙ sym (coefficient-append same_place handed v x);
  weights = λ x. adds.1 x ∙ ap (λ z. z + weight v x) (held.weights x) ∙ sym (weight-append handed v x);
}

pub passes_on : (old new : Totals) (handed v : FormalSum Place) → Holds old handed → Adds old v new (Err Beyond) → IsBeyond (weight (handed ++ v))
passes_on old new handed v held adds =
    beyond_more (λ x. weight_at old x + weight v x) (weight (handed ++ v)) (λ x. omega (arith, held.weights x, weight-append handed v x)) adds

-- the entries from number n on have handed on what they had
abbrev pub Reached : List EntryData → ℕ → Totals → FormalSum Place → Type 0
Reached es n totals handed = (now : FormalSum Place) × Holds totals now
    × ((all : FormalSum Place) → HandDown es n now all → HandDown es (length es) handed all)

pub reached_first : (es : List EntryData) (totals : Totals) (handed : FormalSum Place) → Holds totals handed → Reached es (length es) totals handed
reached_first es totals handed held = (handed, held, λ all down. down)

-- what entry number n is to hand on
abbrev pub EntryAdds : List EntryData → ℕ → Totals → Totals → Answer → Type 0
EntryAdds es n old new r = (row : FormalSum Place) → IsRow (sum_at old) n row → Adds old (hands_on row (recipe_at es n)) new r

pub reached_next : (es : List EntryData) (n : ℕ) (old new : Totals) (handed : FormalSum Place) → Reached es (suc n) old handed
    → EntryAdds es n old new (Ok tt) → Reached es n new handed
reached_next es n old new handed (now, held, goes) adds =
    let (row, is) = row_there now n in
    let own : IsRow (sum_at old) n row = row_as (coefficient same_place now) (sum_at old) n row (λ x. sym (held.sums x)) is in
    (now ++ hands_on row (recipe_at es n), holds_on old new now (hands_on row (recipe_at es n)) held (adds row own), λ all down. goes all (row, is, down))

pub reached_beyond : (es : List EntryData) (n : ℕ) (old new : Totals) (handed : FormalSum Place) → Reached es (suc n) old handed
    → EntryAdds es n old new (Err Beyond) → (all : FormalSum Place) × HandDown es (length es) handed all × IsBeyond (weight all)
reached_beyond es n old new handed (now, held, goes) adds =
    let (row, is) = row_there now n in
    let own : IsRow (sum_at old) n row = row_as (coefficient same_place now) (sum_at old) n row (λ x. sym (held.sums x)) is in
    let next : FormalSum Place = now ++ hands_on row (recipe_at es n) in
    let (all, down) = down_there es n next in (
      all,
      goes all (row, is, down),
      beyond_more (weight next) (weight all) (down_more es n next all down)
          (passes_on old new now (hands_on row (recipe_at es n)) held (adds row own)),
    )

pub reached_last : (es : List EntryData) (totals : Totals) (handed : FormalSum Place) → Reached es 0 totals handed
    → (all : FormalSum Place) × HandDown es (length es) handed all × Holds totals all
reached_last es totals handed (now, held, goes) = (now, goes now refl, held)

-- what stands in a list doesn't ask what stands behind it
pub same_item : {A : Type 0} (xs : List A) (n : ℕ) (d e : A) → n < length xs → get_or xs n d ≡ get_or xs n e
same_item [] n d e lt = absurd (omega (arith, lt))
same_item (x ∷ xs) zero d e lt = refl
same_item (x ∷ xs) (suc n) d e lt = same_item xs n d e (omega (arith, lt))

-- ---- all that is handed

pub handed_there : (es : List EntryData) (proof : List Step) → (all : FormalSum Place) × IsHanded es proof all
handed_there es proof = down_there es (length es) (flat_image (steps_sum proof))

pub handed_once : (es : List EntryData) (proof : List Step) (a b : FormalSum Place) → IsHanded es proof a → IsHanded es proof b → a ≡ b
handed_once es proof a b f g = down_once es (length es) (flat_image (steps_sum proof)) a b f g

pub all_get : {A : Type 0} (P : A → Type 0) (xs : List A) (n : ℕ) (x : A) → AllByRecursion P xs → n < length xs → x ≡ get_or xs n x → P x
all_get P [] n x all lt e = absurd (omega (arith, lt))
all_get P (y ∷ xs) zero x all lt e = subst P (sym e) all.0
all_get P (y ∷ xs) (suc n) x all lt e = all_get P xs n x all.1 (omega (arith, lt)) e

-- where handing on fails, handing down does
pub down_fails : (es : List EntryData) (first old new : Totals) (n : ℕ) (e : FlatFault)
    → ((handed : FormalSum Place) → Holds first handed → Reached es (suc n) old handed)
    → EntryAdds es n old new (Err e) → HandsDown es first new (Err e)
down_fails es first old new n Beyond reached adds = λ handed held. reached_beyond es n old new handed (reached handed held) adds
down_fails es first old new n NoMemory reached adds = tt

-- what the recipe of the entry hands on
pub recipe_adds : (es : List EntryData) (n : ℕ) (d : EntryData) (old new : Totals) (r : Answer) → n < length es
    → ((row : FormalSum Place) → IsRow (sum_at old) n row → Adds old (hands_on row (get_or es n d).recipe) new r) → EntryAdds es n old new r
recipe_adds es n d old new r lt adds row own =
    let same : (get_or es n d).recipe ≡ recipe_at es n = ap (λ (e : EntryData). e.recipe) (same_item es n d (record { recipe = Sum []; vector = [] }) lt) in
    subst (λ (x : Recipe). Adds old (hands_on row x) new r) same (adds row own)

pub on_ok : {E : Type 0} {P Q : Type 0} (r : Result (Unit {0}) E) → OnOk r P → (P → Q) → OnOk r Q
on_ok (Ok u) h f = f h
on_ok (Err e) h f = tt

-- with the lines of one more entry
pub lines_next : (kinds : List (Option FlatKind)) (all : FormalSum Place) (totals : Totals) → Holds totals all → (n : ℕ) (es : List EntryData) (e : EntryData)
    (old new rest : List Flat) → drop n es ≡ e ∷ drop (n + 1) es
    → ((row : FormalSum Place) → IsRow (sum_at totals) n row → new ≡ old ++ entry_lines kinds e.recipe row)
    → ((others : List Flat) → AreLinesFrom kinds (coefficient same_place all) n (drop n es) others
    → AreLinesFrom kinds (coefficient same_place all) 0 es (old ++ others))
    → AreLinesFrom kinds (coefficient same_place all) (n + 1) (drop (n + 1) es) rest → AreLinesFrom kinds (coefficient same_place all) 0 es (new ++ rest)
lines_next kinds all totals held n es e old new rest split put goes are =
    let (row, is) = row_there all n in
    let own : IsRow (sum_at totals) n row = row_as (coefficient same_place all) (sum_at totals) n row (λ x. sym (held.sums x)) is in
    let next : n + 1 ≡ suc n = omega arith in
    let here : AreLinesFrom kinds (coefficient same_place all) n (e ∷ drop (n + 1) es) (entry_lines kinds e.recipe row ++ rest) =
    (row, rest, is, refl, subst (λ k. AreLinesFrom kinds (coefficient same_place all) k (drop (n + 1) es) rest) next are) in
    subst (AreLinesFrom kinds (coefficient same_place all) 0 es)
    (sym (append_assoc old (entry_lines kinds e.recipe row) rest) ∙ ap (λ ls. ls ++ rest) (sym (put row own)))
    (goes (entry_lines kinds e.recipe row ++ rest)
    (subst (λ fs. AreLinesFrom kinds (coefficient same_place all) n fs (entry_lines kinds e.recipe row ++ rest)) (sym split) here))

pub lines_last : (kinds : List (Option FlatKind)) (all : FormalSum Place) (n : ℕ) (es : List EntryData) (made : List Flat) → drop n es ≡ []
    → ((others : List Flat) → AreLinesFrom kinds (coefficient same_place all) n (drop n es) others
    → AreLinesFrom kinds (coefficient same_place all) 0 es (made ++ others))
    → AreLinesFrom kinds (coefficient same_place all) 0 es made
lines_last kinds all n es made none goes =
    subst (AreLinesFrom kinds (coefficient same_place all) 0 es) (append-nil made)
    (goes [] (subst (λ fs. AreLinesFrom kinds (coefficient same_place all) n fs []) (sym none) refl))
