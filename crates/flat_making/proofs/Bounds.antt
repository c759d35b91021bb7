-- The lines of a certificate are flat lines, and not too many.
use Rattle.std.proofs.Common.{◌≡◌, ◌≢◌, ◌∙◌, inr, ℕ, zero, suc, ◌+◌, ◌<◌, ◌≤◌, nat_lt, Bool, true, false, cond, ℤ, pos, negsuc, neg_ℤ, List, [], ◌∷◌, ◌++◌, length, map}
use Rattle.std.proofs.Common.{refl, sym, ap, subst, arith}
use Rattle.std.specs.Prelude.{Option, Some, None, slice_index_or, unsigned_abs}
use Rattle.std.specs.List.{AllByRecursion}
use Rattle.std.proofs.lemmas.List.{length-append}
use borrow.Author.Differences.{ints}
use Rattle.presentation.specs.Presented.{Presented}
use Rattle.formal_sums.specs.FormalSum.{FormalSum, coefficient, AllBelow, Falling, NonZero}
use Rattle.formal_sums.proofs.Falling.{coefficient-first}
use Rattle.formal_sums.proofs.Keys.{eq-above}
use Rattle.module_vec.specs.declared.places.Place.{Place}
use Rattle.module_vec.specs.Places.{same_place, IsBelow}
use Rattle.module_vec.specs.Vectors.{InRange}
use Rattle.module_vec.proofs.FallingTerms.{all_join}
use Rattle.module_vec.proofs.Order.{test, order}
use Rattle.vector_text.specs.Over.{IsMonoOf}
use Rattle.basis_entry.specs.declared.recipes.Recipe.{Recipe}
use Rattle.basis_entry.specs.declared.recipes.Recipe.TheVariants.{Gen, Sum}
use Rattle.report_reading.specs.declared.entry.EntryData.{EntryData}
use Rattle.flat_cert.specs.declared.lines.Flat.{Flat}
use Rattle.flat_cert.specs.declared.lines.FlatKind.{FlatKind}
use Rattle.flat_cert.specs.declared.TheConstants.{PLACES}
use Rattle.flat_cert.specs.Certificates.{IsKind, IsFlat, AreFlat}
use Rattle.flat_cert.specs.Images.{IsFlatMono}
use Rattle.flat_cert.specs.Weights.{AreDistinct, IsBeyond}
use Rattle.flat_making.specs.Handing.{IsRow}
use Rattle.flat_making.specs.Lines.{lines_of, entry_lines, AreLinesFrom}
use Rattle.flat_making.proofs.Naming.{Kinds}

-- each term has its coefficient
read_each : (v : FormalSum Place) → Falling IsBelow v → AllByRecursion (λ t. coefficient same_place v t.1 ≡ t.0) v
read_each [] f = tt
read_each (t ∷ v) f = (coefficient-first test order t v f.0, lift v f.0 (read_each v f.1))
  where
    lift : (w : FormalSum Place) → AllBelow IsBelow t.1 w → AllByRecursion (λ u. coefficient same_place v u.1 ≡ u.0) w
        → AllByRecursion (λ u. coefficient same_place (t ∷ v) u.1 ≡ u.0) w
    lift [] below all = tt
    lift (u ∷ w) below all = (rw (eq-above test order t.1 u.1 below.0) (omega (arith, ints, all.0)), lift w below.1 all.1)

-- what M has at each place of a row
abbrev pub AtRow : (Place → ℤ) → ℕ → FormalSum Place → Type 0
AtRow M n row = AllByRecursion (λ t. (M t.1 ≡ t.0) × (t.0 ≢ pos 0) × (t.1.c ≡ n)) row

at_row : (M : Place → ℤ) (n : ℕ) (row : FormalSum Place) → IsRow M n row → AtRow M n row
at_row M n row is = pick row (read_each row is.falling) is.nonzero is.own
  where
    pick : (r : FormalSum Place) → AllByRecursion (λ t. coefficient same_place row t.1 ≡ t.0) r → NonZero r → AllByRecursion (λ t. t.1.c ≡ n) r → AtRow M n r
    pick [] reads some own = tt
    pick (t ∷ r) reads some own = ((sym (is.is t.1 own.0) ∙ reads.0, some.0, own.0), pick r reads.1 some.1 own.1)

abs_turned : (q : ℤ) → unsigned_abs (neg_ℤ q) ≡ unsigned_abs q
abs_turned (pos zero) = refl
abs_turned (pos (suc n)) = refl
abs_turned (negsuc n) = refl

neg_some : (q : ℤ) → q ≢ pos 0 → neg_ℤ q ≢ pos 0
neg_some q some none = some (omega (arith, ints, none))

-- ---- flat lines

-- what holds wherever M isn't 0
pub record IsFine (n : ℕ) (M : Place → ℤ) (x : Place) : Type 0 where
  pub range : InRange (M x)
  pub mono : IsMonoOf n x.m
  pub flat : IsFlatMono x.m

-- each generator of the recipe has a kind over the presentation
abbrev pub HasKind : Presented → Kinds → Recipe → Type 0
HasKind p kinds (Gen number negated) = (what : FlatKind) → slice_index_or kinds number None ≡ Some what → IsKind p what
HasKind p kinds (Sum steps) = Unit {0}

module _ (p : Presented) (M : Place → ℤ) (fine : (x : Place) → M x ≢ pos 0 → IsFine (length p.names) M x) where
  lines_are_flat : (n : ℕ) (negated : Bool) (kind : Option FlatKind) (row : FormalSum Place) → AtRow M n row
      → ((what : FlatKind) → kind ≡ Some what → IsKind p what) → AreFlat p (lines_of negated kind row)
  lines_are_flat n negated None row at known = tt
  lines_are_flat n negated (Some what) [] at known = tt
  lines_are_flat n negated (Some what) (t ∷ row) at known = (by negated, lines_are_flat n negated (Some what) row at.1 known)
    where
      here : IsFine (length p.names) M t.1
      here = fine t.1 (λ none. at.0.1 (sym at.0.0 ∙ none))

      range : InRange t.0
      range = subst InRange at.0.0 here.range

      by : (b : Bool) → IsFlat p (record { k = cond b (neg_ℤ t.0) t.0; t = t.1.m; what = what })
      by true = record {
        range = omega (arith, range, abs_turned t.0);
        nonzero = neg_some t.0 at.0.1;
        mono = here.mono;
        flat = here.flat;
        kind = known what refl;
      }
      by false = record {
        range = range;
        nonzero = at.0.1;
        mono = here.mono;
        flat = here.flat;
        kind = known what refl;
      }

  entry_is_flat : (kinds : Kinds) (n : ℕ) (r : Recipe) (row : FormalSum Place) → HasKind p kinds r → AtRow M n row → AreFlat p (entry_lines kinds r row)
  entry_is_flat kinds n (Gen number negated) row known at = lines_are_flat n negated (slice_index_or kinds number None) row at known
  entry_is_flat kinds n (Sum steps) row known at = tt

  pub list_is_flat : (kinds : Kinds) (n : ℕ) (fs : List EntryData) (list : List Flat) → AllByRecursion (λ e. HasKind p kinds e.recipe) fs
      → AreLinesFrom kinds M n fs list → AreFlat p list
  list_is_flat kinds n [] list known are = subst (AreFlat p) (sym are) tt
  list_is_flat kinds n (e ∷ fs) list known (row, rest, is, parts, are) =
      subst (AreFlat p) (sym parts)
      (all_join (IsFlat p) (entry_lines kinds e.recipe row) rest (entry_is_flat kinds n e.recipe row known.0 (at_row M n row is))
      (list_is_flat kinds (suc n) fs rest known.1 are))

-- ---- as many places as lines

-- so many places, at entries from n on, where M isn't 0
pub record Places (M : Place → ℤ) (n count : ℕ) : Type 0 where
  pub xs : List Place
  pub count_is : length xs ≡ count
  pub distinct : AreDistinct xs
  pub there : AllByRecursion (λ x. (n ≤ x.c) × (M x ≢ pos 0)) xs

keys_apart : (x : Place) (row : FormalSum Place) → AllBelow IsBelow x row → AllByRecursion (λ (y : Place). y ≢ x) (map (λ t. t.1) row)
keys_apart x [] below = tt
keys_apart x (t ∷ row) below = ((λ e. order.irreflexive x (subst (λ (y : Place). IsBelow y x) e below.0)), keys_apart x row below.1)

module _ (M : Place → ℤ) where
  none_from : (n : ℕ) → Places M n 0
  none_from n = record { xs = []; count_is = refl; distinct = tt; there = tt }

  later : (n : ℕ) (xs : List Place) → AllByRecursion (λ x. (suc n ≤ x.c) × (M x ≢ pos 0)) xs → AllByRecursion (λ x. (n ≤ x.c) × (M x ≢ pos 0)) xs
  later n [] all = tt
  later n (x ∷ xs) all = ((omega (arith, all.0.0), all.0.1), later n xs all.1)

  other_entry : (n : ℕ) (x : Place) (xs : List Place) → x.c ≡ n → AllByRecursion (λ y. (suc n ≤ y.c) × (M y ≢ pos 0)) xs
      → AllByRecursion (λ (y : Place). y ≢ x) xs
  other_entry n x [] own all = tt
  other_entry n x (y ∷ xs) own all =
      ((λ e. absurd (let c : y.c ≡ x.c = ap (λ (z : Place). z.c) e in omega (arith, c, own, all.0.0))), other_entry n x xs own all.1)

  with_row : (n count : ℕ) (row : FormalSum Place) → Falling IsBelow row → AtRow M n row → Places M (suc n) count → Places M n (length row + count)
  with_row n count [] falls at more = record {
    xs = more.xs;
    count_is = omega (arith, more.count_is);
    distinct = more.distinct;
    there = later n more.xs more.there;
  }
  with_row n count (t ∷ row) falls at more =
      let rest : Places M n (length row + count) = with_row n count row falls.1 at.1 more in
      record {
        xs = map (λ u. u.1) (t ∷ row) ++ more.xs;
        count_is = length-append (map (λ u. u.1) (t ∷ row)) more.xs ∙ omega (arith, more.count_is, lengths row);
        distinct = apart (t ∷ row) falls at;
        there = all_join (λ x. (n ≤ x.c) × (M x ≢ pos 0)) (map (λ u. u.1) (t ∷ row)) more.xs (stands (t ∷ row) at) (later n more.xs more.there);
      }
    where
      lengths : (r : FormalSum Place) → length (map (λ u. u.1) r) ≡ length r
      lengths [] = refl
      lengths (u ∷ r) = omega (arith, lengths r)

      stands : (r : FormalSum Place) → AtRow M n r → AllByRecursion (λ x. (n ≤ x.c) × (M x ≢ pos 0)) (map (λ u. u.1) r)
      stands [] at = tt
      stands (u ∷ r) at = ((omega (arith, at.0.2), λ none. at.0.1 (sym at.0.0 ∙ none)), stands r at.1)

      apart : (r : FormalSum Place) → Falling IsBelow r → AtRow M n r → AreDistinct (map (λ u. u.1) r ++ more.xs)
      apart [] falls at = more.distinct
      apart (u ∷ r) falls at = (
        all_join (λ (y : Place). y ≢ u.1) (map (λ w. w.1) r) more.xs (keys_apart u.1 r falls.0) (other_entry n u.1 more.xs at.0.2 more.there),
        apart r falls.1 at.1,
      )

  without_row : (n count : ℕ) → Places M (suc n) count → Places M n count
  without_row n count more = record { xs = more.xs; count_is = more.count_is; distinct = more.distinct; there = later n more.xs more.there }

  entry_places : (kinds : Kinds) (n count : ℕ) (r : Recipe) (row : FormalSum Place) → IsRow M n row → Places M (suc n) count
      → Places M n (length (entry_lines kinds r row) + count)
  entry_places kinds n count (Sum steps) row is more =
      subst (Places M n) (let none : count ≡ length (entry_lines kinds (Sum steps) row) + count = omega arith in none) (without_row n count more)
  entry_places kinds n count (Gen number negated) row is more = by (slice_index_or kinds number None)
    where
      lengths : (what : FlatKind) (r : FormalSum Place) → length (lines_of negated (Some what) r) ≡ length r
      lengths what [] = refl
      lengths what (t ∷ r) = omega (arith, lengths what r)

      by : (kind : Option FlatKind) → Places M n (length (lines_of negated kind row) + count)
      by None = subst (Places M n) (let none : count ≡ length (lines_of negated None row) + count = omega arith in none) (without_row n count more)
      by (Some what) = subst (λ k. Places M n (k + count)) (sym (lengths what row)) (with_row n count row is.falling (at_row M n row is) more)

  pub list_places : (kinds : Kinds) (n : ℕ) (fs : List EntryData) (list : List Flat) → AreLinesFrom kinds M n fs list → Places M n (length list)
  list_places kinds n [] list are = subst (λ l. Places M n (length l)) (sym are) (none_from n)
  list_places kinds n (e ∷ fs) list (row, rest, is, parts, are) =
      let count : length list ≡ length (entry_lines kinds e.recipe row) + length rest =
      ap length parts ∙ length-append (entry_lines kinds e.recipe row) rest in
      subst (Places M n) (sym count) (entry_places kinds n (length rest) e.recipe row is (list_places kinds (suc n) fs rest are))

-- within the limits they are no more than the places that may be
pub few_lines : (M : Place → ℤ) (W : Place → ℕ) (kinds : Kinds) (fs : List EntryData) (list : List Flat) → ((x : Place) → M x ≢ pos 0 → 0 < W x)
    → (IsBeyond W → ⊥) → AreLinesFrom kinds M 0 fs list → length list ≤ PLACES
few_lines M W kinds fs list some within are = by (nat_lt PLACES (length list)) refl
  where
    there : Places M 0 (length list)
    there = list_places M kinds 0 fs list are

    stand : (xs : List Place) → AllByRecursion (λ x. (0 ≤ x.c) × (M x ≢ pos 0)) xs → AllByRecursion (λ x. 0 < W x) xs
    stand [] all = tt
    stand (x ∷ xs) all = (some x all.0.1, stand xs all.1)

    by : (b : Bool) → nat_lt PLACES (length list) ≡ b → length list ≤ PLACES
    by true e =
        let more : PLACES < length list = grind arith in
        absurd (within (inr (inr (there.xs, there.distinct, stand there.xs there.there, omega (arith, more, there.count_is)))))
    by false e = grind arith
