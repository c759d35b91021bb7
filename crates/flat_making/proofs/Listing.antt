-- The lines of entries of generators: what they are worth, that they are flat lines, and how many there are.
use Rattle.std.proofs.Common.{◌≡◌, ◌∙◌, ℕ, suc, ◌+◌, ◌<◌, ◌≤◌, nat_le, Bool, true, false, cond, ℤ, pos, negsuc, ◌+ℤ◌, ◌*ℤ◌, neg_ℤ, List, []}
use Rattle.std.proofs.Common.{◌∷◌, ◌++◌, length, get_or, refl, sym, ap, subst, arith}
use Rattle.std.specs.Prelude.{Option, Some, None, slice_index_or}
use Rattle.std.specs.List.{AllByRecursion}
use Rattle.std.proofs.lemmas.Grind.{flat_map-append}
use borrow.Author.Differences.{ints}
use Rattle.free_words.specs.declared.TheConstants.{GENERATORS}
use Rattle.presentation.specs.Presented.{Presented}
use Rattle.formal_sums.specs.FormalSum.{FormalSum, Same, coefficient, scale, rename}
use Rattle.formal_sums.specs.Span.{multiple}
use Rattle.formal_sums.proofs.Coefficients.{coefficient-append, coefficient-scale, Same-append, rename-append, rename-scale}
use Rattle.formal_sums.proofs.Evaluation.{Same-rename}
use Rattle.formal_sums.proofs.Integers.{*ℤ-neg_ℤ, neg_ℤ-*ℤ}
use Rattle.laurent_terms.specs.Monomials.{one, product}
use Rattle.module_vec.specs.declared.places.Place.{Place}
use Rattle.module_vec.specs.declared.places.Term.{Term}
use Rattle.module_vec.specs.Modules.{vector_at}
use Rattle.module_vec.specs.Places.{same_place, moved}
use Rattle.module_vec.specs.Vectors.{sum_of}
use Rattle.module_vec.proofs.Order.{test}
use Rattle.fox_calculus.specs.Generators.{binomial, unit_monomial}
use Rattle.fox_calculus.specs.Module.{HasVariables}
use Rattle.basis_entry.specs.declared.recipes.Recipe.{Recipe}
use Rattle.basis_entry.specs.declared.recipes.Recipe.TheVariants.{Gen, Sum}
use Rattle.report_reading.specs.declared.entry.EntryData.{EntryData}
use Rattle.flat_cert.specs.declared.lines.Flat.{Flat}
use Rattle.flat_cert.specs.declared.lines.FlatKind.{FlatKind}
use Rattle.flat_cert.specs.Certificates.{generator_of, value_of, certificate_sum}
use Rattle.flat_cert.specs.Images.{flat_place, flat_image, cancelled}
use Rattle.flat_making.specs.Handing.{IsRow, recipe_at}
use Rattle.flat_making.specs.Lines.{lines_of, entry_lines, AreLinesFrom}
use Rattle.flat_making.proofs.Candidates.{Fits}
use Rattle.flat_making.proofs.Handings.{elsewhere, same_item}
use Rattle.flat_making.proofs.Monomials.{unit_moves_nothing}
use Rattle.flat_making.proofs.Naming.{Kinds}
use Rattle.flat_making.proofs.Parts.{part, part_at, part_none}
use Rattle.flat_making.proofs.Summing.{is_generator, IsKey, AreKeys, keys_long, row_keys}
use Rattle.flat_making.proofs.Values.{AreLong, worth, value, value-append, value-same, flat_same, multiple_same}

-- ---- one line

abbrev pub turned : Bool → FormalSum Place → FormalSum Place
turned negated g = cond negated (scale (negsuc 0) g) g

-- a multiple of a generator is that multiple of the entry's vector, where the signs are turned once more
line_worth : (negated : Bool) (q : ℤ) (s : List ℕ) (g v : FormalSum Place) → Same same_place v (turned negated g)
    → Same same_place (flat_image (multiple moved (cond negated (neg_ℤ q) q) s g)) (scale q (flat_image (rename (moved s) v)))
line_worth false q s g v same x =
    ap (λ u. coefficient same_place u x) (rename-scale flat_place q (rename (moved s) g)) ∙ sym (multiple_same q s v g same x)
line_worth true q s g v same x =
    let z : ℤ = coefficient same_place (flat_image (rename (moved s) g)) x in
    let there : coefficient same_place (flat_image (rename (moved s) v)) x ≡ neg_ℤ (coefficient same_place (flat_image (rename (moved s) g)) x) =
    flat_same (rename (moved s) v) (rename (moved s) (scale (negsuc 0) g)) (Same-rename test same_place (moved s) v (scale (negsuc 0) g) same) x
    ∙ ap (λ u. coefficient same_place (flat_image u) x) (rename-scale (moved s) (negsuc 0) g)
    ∙ ap (λ u. coefficient same_place u x) (rename-scale flat_place (negsuc 0) (rename (moved s) g))
    ∙ coefficient-scale same_place (negsuc 0) (flat_image (rename (moved s) g)) x
    ∙ (let e : negsuc 0 *ℤ coefficient same_place (flat_image (rename (moved s) g)) x ≡ neg_ℤ (coefficient same_place (flat_image (rename (moved s) g)) x) =
    omega (arith, ints) in e) in
    ap (λ u. coefficient same_place u x) (rename-scale flat_place (neg_ℤ q) (rename (moved s) g))
    ∙ coefficient-scale same_place (neg_ℤ q) (flat_image (rename (moved s) g)) x
    ∙ neg_ℤ-*ℤ q (coefficient same_place (flat_image (rename (moved s) g)) x)
    ∙ sym (*ℤ-neg_ℤ q (coefficient same_place (flat_image (rename (moved s) g)) x))
    ∙ ap (λ c. q *ℤ c) (sym there)
    ∙ sym (coefficient-scale same_place q (flat_image (rename (moved s) v)) x)

-- a multiple of a unit binomial is nothing
unit_nothing : (g c : ℕ) (s : List ℕ) (x : Place) → g < GENERATORS → HasVariables s
    → coefficient same_place (flat_image (rename (moved s) (binomial (unit_monomial g) c))) x ≡ pos 0
unit_nothing g c s x below long =
    let same : cancelled (product s (unit_monomial g)) ≡ cancelled (product s one) = unit_moves_nothing g s below long in
    ap (λ m. coefficient same_place ((pos 1, record { m = m; c = c }) ∷ (negsuc 0, record { m = cancelled (product s one); c = c }) ∷ []) x) same
    ∙ by (same_place (record { m = cancelled (product s one); c = c }) x)
  where
    by : (b : Bool) → cond b (pos 1) (pos 0) +ℤ (cond b (negsuc 0) (pos 0) +ℤ pos 0) ≡ pos 0
    by true = omega (arith, ints)
    by false = omega (arith, ints)

unit_worth : (negated : Bool) (q : ℤ) (s : List ℕ) (g c : ℕ) (v : FormalSum Place) → g < GENERATORS → HasVariables s
    → Same same_place v (turned negated (binomial (unit_monomial g) c)) → Same same_place (scale q (flat_image (rename (moved s) v))) []
unit_worth negated q s g c v below long same x =
    sym (line_worth negated q s (binomial (unit_monomial g) c) v same x)
    ∙ ap (λ u. coefficient same_place u x) (rename-scale flat_place (cond negated (neg_ℤ q) q) (rename (moved s) (binomial (unit_monomial g) c)))
    ∙ coefficient-scale same_place (cond negated (neg_ℤ q) q) (flat_image (rename (moved s) (binomial (unit_monomial g) c))) x
    ∙ ap (λ z. cond negated (neg_ℤ q) q *ℤ z) (unit_nothing g c s x below long)
    ∙ omega (arith, ints)

-- ---- the lines of one entry

-- what the kind says of the vector
abbrev pub Says : Presented → Bool → Option FlatKind → List Term → Type 0
Says p negated kind v = (f : FormalSum Place) × Fits p kind f × Same same_place (sum_of v) (turned negated f)

-- what a recipe says of the vector of the entry with this number
abbrev pub Tells : Presented → List (List Term) → Kinds → ℕ → Recipe → Type 0
Tells p b kinds n (Gen number negated) = Says p negated (slice_index_or kinds number None) (vector_at b n)
Tells p b kinds n (Sum steps) = Unit {0}

module _ (p : Presented) (few : length p.names ≤ GENERATORS) (b : List (List Term)) where
  lines_worth : (n : ℕ) (negated : Bool) (kind : Option FlatKind) (row : FormalSum Place) → AreLong row → AllByRecursion (λ t. t.1.c ≡ n) row
      → Says p negated kind (vector_at b n)
      → Same same_place (flat_image (certificate_sum p (lines_of negated kind row))) (value b row)
  lines_worth n negated (Some what) [] long own says = λ x. refl
  lines_worth n negated (Some what) (t ∷ row) long own (f, fits, same) = λ x.
      ap (λ u. coefficient same_place u x) (rename-append flat_place (multiple moved (cond negated (neg_ℤ t.0) t.0) t.1.m (generator_of p what))
      (certificate_sum p (lines_of negated (Some what) row)))
      ∙ Same-append same_place (flat_image (multiple moved (cond negated (neg_ℤ t.0) t.0) t.1.m (generator_of p what))) (scale t.0 (worth b t.1))
      (flat_image (certificate_sum p (lines_of negated (Some what) row))) (value b row)
      (line_worth negated t.0 t.1.m (generator_of p what) (sum_of (vector_at b t.1.c)) there)
      (lines_worth n negated (Some what) row long.1 own.1 (f, fits, same)) x
    where
      there : Same same_place (sum_of (vector_at b t.1.c)) (turned negated (generator_of p what))
      there y = ap (λ k. coefficient same_place (sum_of (vector_at b k)) y) own.0 ∙ same y ∙ ap (λ g. coefficient same_place (turned negated g) y) fits.1
  lines_worth n negated None [] long own says = λ x. refl
  lines_worth n negated None (t ∷ row) long own (f, unit, same) = λ x.
      lines_worth n negated None row long.1 own.1 (f, unit, same) x
      ∙ sym (Same-append same_place (scale t.0 (worth b t.1)) [] (value b row) (value b row)
      (unit_worth negated t.0 t.1.m unit.g unit.c (sum_of (vector_at b t.1.c)) (omega (arith, few, unit.below)) long.0 there) (λ y. refl) x)
    where
      there : Same same_place (sum_of (vector_at b t.1.c)) (turned negated (binomial (unit_monomial unit.g) unit.c))
      there y = ap (λ k. coefficient same_place (sum_of (vector_at b k)) y) own.0 ∙ same y ∙ ap (λ g. coefficient same_place (turned negated g) y) unit.is

  -- the row of a generator, and nothing of a sum
  abbrev own_row : Recipe → FormalSum Place → FormalSum Place
  own_row r row = cond (is_generator r) row []

  entry_worth : (kinds : Kinds) (n : ℕ) (r : Recipe) (row : FormalSum Place) → AreLong row → AllByRecursion (λ t. t.1.c ≡ n) row → Tells p b kinds n r
      → Same same_place (flat_image (certificate_sum p (entry_lines kinds r row))) (value b (own_row r row))
  entry_worth kinds n (Gen number negated) row long own tells = lines_worth n negated (slice_index_or kinds number None) row long own tells
  entry_worth kinds n (Sum steps) row long own tells = λ x. refl

  module _ (es : List EntryData) (kinds : Kinds) (all : FormalSum Place) (keys : AreKeys (length es) all)
      (tells : (n : ℕ) → n < length es → Tells p b kinds n (recipe_at es n)) where
    -- an entry of a generator from number n on
    abbrev pub late : ℕ → Place → Bool
    late n x = cond (nat_le n x.c) (is_generator (recipe_at es x.c)) false

    none_late : (n : ℕ) → n ≡ length es → (v : FormalSum Place) → AreKeys (length es) v → AllByRecursion (λ t. late n t.1 ≡ false) v
    none_late n e [] all = tt
    none_late n e (t ∷ v) all =
        let lt : t.1.c < length es = all.0.below in
        let past : nat_le n t.1.c ≡ false = grind arith in
        (rw past refl, none_late n e v all.1)

    late_split : (n : ℕ) (row : FormalSum Place) (r : Recipe) → recipe_at es n ≡ r → IsRow (coefficient same_place all) n row
        → Same same_place (part (late n) all) (own_row r row ++ part (late (suc n)) all)
    late_split n row r e is x =
        part_at (late n) all x ∙ by (nat_le n x.c) refl (nat_le (suc n) x.c) refl (is_generator r) refl
        ∙ ap (λ z. coefficient same_place (own_row r row) x +ℤ z) (sym (part_at (late (suc n)) all x))
        ∙ sym (coefficient-append same_place (own_row r row) (part (late (suc n)) all) x)
      where
        away : (g : Bool) (z : ℤ) → coefficient same_place row x ≡ pos 0 → z ≡ coefficient same_place (cond g row []) x +ℤ z
        away true z none = omega (arith, ints, none)
        away false z none = omega (arith, ints)

        there : (g : Bool) → x.c ≡ n → cond g (coefficient same_place all x) (pos 0) ≡ coefficient same_place (cond g row []) x +ℤ pos 0
        there true own = let same : coefficient same_place row x ≡ coefficient same_place all x = is.is x own in omega (arith, ints, same)
        there false own = omega (arith, ints)

        by : (a : Bool) → nat_le n x.c ≡ a → (c : Bool) → nat_le (suc n) x.c ≡ c → (g : Bool) → is_generator r ≡ g
            → cond (cond a (is_generator (recipe_at es x.c)) false) (coefficient same_place all x) (pos 0)
            ≡ coefficient same_place (cond g row []) x +ℤ cond (cond c (is_generator (recipe_at es x.c)) false) (coefficient same_place all x) (pos 0)
        by true f true h g i =
            let gt : n < x.c = grind arith in
            away g _ (elsewhere n row x is.own (λ own. absurd (omega (arith, own, gt))))
        by true f false h g i =
            let own : x.c ≡ n = grind arith in
            let here : is_generator (recipe_at es x.c) ≡ g = ap (λ k. is_generator (recipe_at es k)) own ∙ ap is_generator e ∙ i in
            rw here (there g own)
        by false f true h g i = absurd (grind arith)
        by false f false h g i =
            let lt : x.c < n = grind arith in
            away g (pos 0) (elsewhere n row x is.own (λ own. absurd (omega (arith, own, lt))))

    -- entries from number n on
    abbrev pub StandAt : ℕ → List EntryData → Type 0
    StandAt n fs = (n + length fs ≡ length es) × ((i : ℕ) (e : EntryData) → i < length fs → get_or fs i e ≡ get_or es (n + i) e)

    stand_on : (n : ℕ) (e : EntryData) (fs : List EntryData) → StandAt n (e ∷ fs) → StandAt (suc n) fs
    stand_on n e fs stand = (
      omega (arith, stand.0),
      λ i d lt. stand.1 (suc i) d (omega (arith, lt)) ∙ ap (λ k. get_or es k d) (let is : n + suc i ≡ suc n + i = omega arith in is),
    )

    stand_recipe : (n : ℕ) (e : EntryData) (fs : List EntryData) → StandAt n (e ∷ fs) → recipe_at es n ≡ e.recipe
    stand_recipe n e fs stand =
        let lt : n < length es = omega (arith, stand.0) in
        ap (λ (d : EntryData). d.recipe) (same_item es n (record { recipe = Sum []; vector = [] }) e lt
        ∙ ap (λ k. get_or es k e) (let is : n ≡ n + 0 = omega arith in is) ∙ sym (stand.1 0 e (omega arith)))

    -- THE LINES ARE WORTH what entries of generators have
    pub list_worth : (n : ℕ) (fs : List EntryData) (list : List Flat) → StandAt n fs → AreLinesFrom kinds (coefficient same_place all) n fs list
        → Same same_place (flat_image (certificate_sum p list)) (value b (part (late n) all))
    list_worth n [] list stand are = λ x.
        ap (λ l. coefficient same_place (flat_image (certificate_sum p l)) x) are
        ∙ ap (λ v. coefficient same_place (value b v) x) (sym (part_none (late n) all (none_late n (omega (arith, stand.0)) all keys)))
    list_worth n (e ∷ fs) list stand (row, rest, is, parts, are) = λ x.
        ap (λ l. coefficient same_place (flat_image (certificate_sum p l)) x) parts
        ∙ ap (λ v. coefficient same_place (flat_image v) x) (flat_map-append (value_of p) (entry_lines kinds e.recipe row) rest)
        ∙ ap (λ v. coefficient same_place v x) (rename-append flat_place (certificate_sum p (entry_lines kinds e.recipe row)) (certificate_sum p rest))
        ∙ Same-append same_place (flat_image (certificate_sum p (entry_lines kinds e.recipe row))) (value b (own_row e.recipe row))
        (flat_image (certificate_sum p rest)) (value b (part (late (suc n)) all))
        (entry_worth kinds n e.recipe row (keys_long (length es) row (row_keys (IsKey (length es)) all row n keys is)) is.own
        (subst (Tells p b kinds n) recipe (tells n (omega (arith, stand.0)))))
        (list_worth (suc n) fs rest (stand_on n e fs stand) are) x
        ∙ sym (value-append b (own_row e.recipe row) (part (late (suc n)) all) x)
        ∙ sym (value-same b (part (late n) all) (own_row e.recipe row ++ part (late (suc n)) all) (late_split n row e.recipe recipe is) x)
      where
        recipe : recipe_at es n ≡ e.recipe
        recipe = stand_recipe n e fs stand
