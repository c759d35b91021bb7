-- The flat certificate of a proof: what it is worth, and that it is a certificate.
use Rattle.std.proofs.Common.{◌≡◌, ◌≢◌, ◌∙◌, inl, inr, ℕ, zero, suc, ◌+◌, ◌<◌, ◌≤◌, nat_lt, Bool, true, false, cond, ℤ, pos, negsuc, ◌+ℤ◌, neg_ℤ, List, [], ◌∷◌, ◌++◌}
use Rattle.std.proofs.Common.{length, map, get_or, refl, sym, ap, subst, arith}
use Rattle.std.specs.Prelude.{Option, Some, None, slice_get, slice_index_or, Ok, Err}
use Rattle.std.specs.List.{AllByRecursion}
use borrow.Author.Differences.{ints}
use Rattle.presentation.specs.Presented.{Presented, IsPresented}
use Rattle.formal_sums.specs.FormalSum.{FormalSum, Same, coefficient, scale}
use Rattle.formal_sums.specs.Span.{multiple}
use Rattle.formal_sums.proofs.Coefficients.{coefficient-scale}
use Rattle.laurent_terms.specs.Monomials.{IsMonomial, one}
use Rattle.module_vec.specs.declared.places.Place.{Place}
use Rattle.module_vec.specs.declared.places.Term.{Term}
use Rattle.module_vec.specs.declared.steps.Step.{Step}
use Rattle.module_vec.specs.Modules.{vector_at, sum_of_steps}
use Rattle.module_vec.specs.Places.{same_place, moved}
use Rattle.module_vec.specs.Vectors.{sum_of, coefficient_at, IsTerm, IsVector}
use Rattle.module_vec.proofs.FallingTerms.{all_join}
use Rattle.step_text.specs.Over.{AreStepsOf}
use Rattle.vector_text.specs.Over.{MonoIsOver}
use Rattle.vector_text.proofs.Over.{product_over}
use Rattle.basis_entry.specs.declared.recipes.Recipe.{Recipe}
use Rattle.basis_entry.specs.declared.recipes.Recipe.TheVariants.{Gen, Sum}
use Rattle.report_reading.specs.declared.entry.EntryData.{EntryData}
use Rattle.flat_cert.specs.declared.lines.Flat.{Flat}
use Rattle.flat_cert.specs.declared.lines.FlatKind.{FlatKind}
use Rattle.flat_cert.specs.declared.totals.Total.{Total}
use Rattle.flat_cert.specs.Adding.{found, sum_at, weight_at, AreTotals, IsTotal, IsSmall, Adds}
use Rattle.flat_cert.specs.declared.faults.FlatFault.{FlatFault}
use Rattle.flat_cert.specs.declared.faults.FlatFault.TheVariants.{Beyond, NoMemory}
use Rattle.flat_cert.specs.Certificates.{IsKind, certificate_sum}
use Rattle.flat_cert.specs.Images.{flat_image, IsFlatMono}
use Rattle.flat_cert.specs.Texts.{IsCertificate}
use Rattle.flat_cert.specs.Weights.{weight, IsBeyond}
use Rattle.flat_cert.proofs.Entries.{found_is, small_found, not_beyond}
use Rattle.flat_cert.proofs.Weights.{beyond_more}
use Rattle.flat_making.specs.Handing.{steps_sum, hands_on, recipe_at, HandDown, IsHanded, Holds, HaveFactor, HasFactors, HaveFactors, HandsDown}
use Rattle.flat_making.specs.Kinds.{AreKinds}
use Rattle.flat_making.specs.Lines.{AreLinesFrom}
use Rattle.flat_making.specs.Making.{vectors_of, NameBelow, signed, IsValueOf, IsLog, IsProof, IsCertificateOf, Answers}
use Rattle.flat_making.proofs.Bounds.{IsFine, HasKind, list_is_flat, few_lines}
use Rattle.flat_making.proofs.Candidates.{Fits, IsNamed, generator_named}
use Rattle.flat_making.proofs.Handings.{Totals, row_as, holds_on, passes_on, down_there, down_more}
use Rattle.flat_making.proofs.Steps.{handed_by, handed_first}
use Rattle.flat_making.proofs.Listing.{turned, Says, Tells, late, StandAt, list_worth}
use Rattle.flat_making.proofs.Monomials.{cancelled_is_flat, cancelled_over}
use Rattle.flat_making.proofs.Naming.{Kinds}
use Rattle.flat_making.proofs.Parts.{part, part_at}
use Rattle.flat_making.proofs.Summing.{is_generator, AreGood, IsWorth, AreKeys, steps_keys, flat_keys, key_stands, row_keys, live, live_all}
use Rattle.flat_making.proofs.Values.{AreLong, value, value-same, value-flat, steps_value}

-- ---- entries by their numbers

get_some : {A : Type 0} (xs : List A) (n : ℕ) (d : A) → n < length xs → slice_get xs n ≡ Some (get_or xs n d)
get_some [] n d lt = absurd (omega (arith, lt))
get_some (x ∷ xs) zero d lt = refl
get_some (x ∷ xs) (suc n) d lt = get_some xs n d (omega (arith, lt))

vector_is : (es : List EntryData) (n : ℕ) (d : EntryData) → n < length es → vector_at (vectors_of es) n ≡ (get_or es n d).vector
vector_is [] n d lt = absurd (omega (arith, lt))
vector_is (e ∷ es) zero d lt = refl
vector_is (e ∷ es) (suc n) d lt = vector_is es n d (omega (arith, lt))

terms_long : (v : List Term) → AllByRecursion IsTerm v → AreLong (sum_of v)
terms_long [] all = tt
terms_long (t ∷ v) all = (all.0.place.variables, terms_long v all.1)

abbrev pub AreVectors : List EntryData → Type 0
AreVectors es = AllByRecursion (λ e. IsVector e.vector) es

vectors_long : (es : List EntryData) → AreVectors es → (i : ℕ) → AreLong (sum_of (vector_at (vectors_of es) i))
vectors_long [] known i = tt
vectors_long (e ∷ es) known zero = terms_long e.vector known.0.sparse.terms
vectors_long (e ∷ es) known (suc i) = vectors_long es known.1 i

-- ---- steps

steps_good : (n k : ℕ) (ss : List Step) → AreStepsOf n ss → NameBelow k ss → AreGood k ss
steps_good n k [] are below = record { long = tt; below = tt }
steps_good n k (s ∷ ss) are below =
    let rest : AreGood k ss = steps_good n k ss are.1 below.1 in
    record { long = (are.0.mono.mono.variables, rest.long); below = below }

steps_factor : (n : ℕ) (ss : List Step) → AreStepsOf n ss → HaveFactor ss
steps_factor n [] are = tt
steps_factor n (s ∷ ss) are = (are.0.nonzero, steps_factor n ss are.1)

-- a flat monomial over n generators
abbrev IsClean : ℕ → Place → Type 0
IsClean n x = IsFlatMono x.m × MonoIsOver n x.m

abbrev AreClean : ℕ → FormalSum Place → Type 0
AreClean n v = AllByRecursion (λ t. IsClean n t.1) v

flat_clean : (n : ℕ) (v : FormalSum Place) → AllByRecursion (λ t. MonoIsOver n t.1.m) v → AreClean n (flat_image v)
flat_clean n [] over = tt
flat_clean n (t ∷ v) over = ((cancelled_is_flat t.1.m, cancelled_over n t.1.m over.0), flat_clean n v over.1)

steps_over : (n : ℕ) (ss : List Step) → AreStepsOf n ss → AllByRecursion (λ t. MonoIsOver n t.1.m) (steps_sum ss)
steps_over n [] are = tt
steps_over n (s ∷ ss) are = (are.0.mono.over, steps_over n ss are.1)

multiple_over : (n : ℕ) (q : ℤ) (s : List ℕ) (v : FormalSum Place) → MonoIsOver n s → AllByRecursion (λ t. MonoIsOver n t.1.m) v
    → AllByRecursion (λ t. MonoIsOver n t.1.m) (multiple moved q s v)
multiple_over n q s [] own over = tt
multiple_over n q s (t ∷ v) own over = (product_over n s t.1.m own over.0, multiple_over n q s v own over.1)

hands_clean : (n : ℕ) (row : FormalSum Place) (steps : List Step) → AreClean n row → AreStepsOf n steps → AreClean n (hands_on row (Sum steps))
hands_clean n [] steps clean are = tt
hands_clean n (t ∷ row) steps clean are =
    all_join (λ u. IsClean n u.1) (flat_image (multiple moved t.0 t.1.m (steps_sum steps))) (hands_on row (Sum steps))
    (flat_clean n (multiple moved t.0 t.1.m (steps_sum steps)) (multiple_over n t.0 t.1.m (steps_sum steps) clean.0.1 (steps_over n steps are)))
    (hands_clean n row steps clean.1 are)

-- the steps of the recipe are over n generators
abbrev IsOverBy : ℕ → Recipe → Type 0
IsOverBy n (Gen number negated) = Unit {0}
IsOverBy n (Sum steps) = AreStepsOf n steps

next_clean : (n : ℕ) (h row : FormalSum Place) (r : Recipe) → AreClean n h → AreClean n row → IsOverBy n r → AreClean n (h ++ hands_on row r)
next_clean n h row (Gen number negated) clean rows over = all_join (λ u. IsClean n u.1) h [] clean tt
next_clean n h row (Sum steps) clean rows over = all_join (λ u. IsClean n u.1) h (hands_on row (Sum steps)) clean (hands_clean n row steps rows over)

all_clean : (names : ℕ) (es : List EntryData) → ((n : ℕ) → n < length es → IsOverBy names (recipe_at es n)) → (n : ℕ) (h all : FormalSum Place)
    → n ≤ length es → AreClean names h → HandDown es n h all → AreClean names all
all_clean names es over zero h all le clean down = subst (AreClean names) (sym down) clean
all_clean names es over (suc n) h all le clean (row, is, down) =
    all_clean names es over n (h ++ hands_on row (recipe_at es n)) all (omega (arith, le))
    (next_clean names h row (recipe_at es n) clean (row_keys (IsClean names) h row n clean is) (over n (omega (arith, le)))) down

-- ---- what the log says of each entry

each_entry : (P : EntryData → Type 0) (fs : List EntryData) → ((i : ℕ) (e : EntryData) → slice_get fs i ≡ Some e → P e) → AllByRecursion P fs
each_entry P [] reads = tt
each_entry P (e ∷ fs) reads = (reads 0 e refl, each_entry P fs (λ i d is. reads (suc i) d is))

module _ (p : Presented) (es : List EntryData) (log : IsLog p es) where
  abbrev vectors : List (List Term)
  vectors = vectors_of es

  abbrev nothing : EntryData
  nothing = record { recipe = Sum []; vector = [] }

  value_at : (n : ℕ) → n < length es → IsValueOf p log.gens vectors n (recipe_at es n) (coefficient_at (vector_at vectors n))
  value_at n lt =
      subst (λ v. IsValueOf p log.gens vectors n (recipe_at es n) (coefficient_at v)) (sym (vector_is es n nothing lt))
      (log.values n (get_or es n nothing) (get_some es n nothing lt))

  pub worth_at : (n : ℕ) → n < length es → IsWorth vectors n (recipe_at es n)
  worth_at n lt = by (recipe_at es n) (value_at n lt)
    where
      by : (r : Recipe) → IsValueOf p log.gens vectors n r (coefficient_at (vector_at vectors n)) → IsWorth vectors n r
      by (Gen number negated) is = tt
      by (Sum steps) is = (steps_good (length p.names) n steps is.0 is.1, is.2)

  pub over_at : (n : ℕ) → n < length es → IsOverBy (length p.names) (recipe_at es n)
  over_at n lt = by (recipe_at es n) (value_at n lt)
    where
      by : (r : Recipe) → IsValueOf p log.gens vectors n r (coefficient_at (vector_at vectors n)) → IsOverBy (length p.names) r
      by (Gen number negated) is = tt
      by (Sum steps) is = is.0

  module _ (kinds : Kinds) (are : AreKinds p kinds) where
    named : (i : ℕ) → i < length log.gens → IsNamed p (slice_index_or kinds i None) (vector_at log.gens i)
    named i lt = generator_named p kinds log.gens are log.generators i lt

    says : (negated : Bool) (i n : ℕ) → i < length log.gens
        → ((x : Place) → coefficient_at (vector_at vectors n) x ≡ signed negated (vector_at log.gens i) x)
        → Says p negated (slice_index_or kinds i None) (vector_at vectors n)
    says negated i n lt is =
        let name : IsNamed p (slice_index_or kinds i None) (vector_at log.gens i) = named i lt in
        (name.sum, name.fits, λ x. is x ∙ by negated name.sum x (name.is.same x))
      where
        by : (b : Bool) (f : FormalSum Place) (x : Place) → coefficient_at (vector_at log.gens i) x ≡ coefficient same_place f x
            → signed b (vector_at log.gens i) x ≡ coefficient same_place (turned b f) x
        by true f x e = ap neg_ℤ e ∙ (let is : neg_ℤ (coefficient same_place f x) ≡ coefficient same_place (scale (negsuc 0) f) x =
            omega (arith, ints, coefficient-scale same_place (negsuc 0) f x) in is)
        by false f x e = e

    pub tells_at : (n : ℕ) → n < length es → Tells p vectors kinds n (recipe_at es n)
    tells_at n lt = by (recipe_at es n) (value_at n lt)
      where
        by : (r : Recipe) → IsValueOf p log.gens vectors n r (coefficient_at (vector_at vectors n)) → Tells p vectors kinds n r
        by (Gen number negated) is = says negated number n is.0 is.1
        by (Sum steps) is = tt

    kind_known : (kind : Option FlatKind) (f : FormalSum Place) → Fits p kind f → (what : FlatKind) → kind ≡ Some what → IsKind p what
    kind_known (Some other) f fits what e = let same : other ≡ what = cc in subst (IsKind p) same fits.0
    kind_known None f fits what e = absurd cc

    pub has_kinds : AllByRecursion (λ e. HasKind p kinds e.recipe) es
    has_kinds = each_entry (λ e. HasKind p kinds e.recipe) es (λ i e is. kind_of i e.recipe (coefficient_at e.vector) (log.values i e is))
      where
        kind_of : (n : ℕ) (r : Recipe) (f : Place → ℤ) → IsValueOf p log.gens vectors n r f → HasKind p kinds r
        kind_of n (Gen number negated) f is =
            let name : IsNamed p (slice_index_or kinds number None) (vector_at log.gens number) = named number is.0 in
            λ what e. kind_known (slice_index_or kinds number None) name.sum name.fits what e
        kind_of n (Sum steps) f is = tt

  pub have_factors : HaveFactors es
  have_factors = each_entry (λ e. HasFactors e.recipe) es (λ i e is. factor i e.recipe (coefficient_at e.vector) (log.values i e is))
    where
      factor : (n : ℕ) (r : Recipe) (f : Place → ℤ) → IsValueOf p log.gens vectors n r f → HasFactors r
      factor n (Gen number negated) f is = tt
      factor n (Sum steps) f is = steps_factor (length p.names) steps is.0

-- ---- the certificate

lines_as : (kinds : Kinds) (M N : Place → ℤ) (n : ℕ) (fs : List EntryData) (list : List Flat) → ((x : Place) → M x ≡ N x) → AreLinesFrom kinds M n fs list
    → AreLinesFrom kinds N n fs list
lines_as kinds M N n [] list same are = are
lines_as kinds M N n (e ∷ fs) list same (row, rest, is, parts, are) =
    (row, rest, row_as M N n row same is, parts, lines_as kinds M N (suc n) fs rest same are)

module _ (p : Presented) (known : IsPresented p) (es : List EntryData) (log : IsLog p es) (vectors_known : AreVectors es) (proof : List Step)
    (is_proof : IsProof p es proof) where
  abbrev first : FormalSum Place
  first = flat_image (steps_sum proof)

  first_good : AreGood (length es) proof
  first_good = steps_good (length p.names) (length es) proof is_proof.steps is_proof.named

  first_keys : AreKeys (length es) first
  first_keys = flat_keys (length es) (steps_sum proof) (steps_keys (length es) proof first_good)

  pub proof_factor : HaveFactor proof
  proof_factor = steps_factor (length p.names) proof is_proof.steps

  pub proof_long : AllByRecursion (λ s. Rattle.fox_calculus.specs.Module.HasVariables s.t) proof
  proof_long = first_good.long

  module _ (all : FormalSum Place) (down : IsHanded es proof all) where
    abbrev long : (i : ℕ) → AreLong (sum_of (vector_at (vectors_of es) i))
    long = vectors_long es vectors_known

    kept : Same same_place (value (vectors_of es) first) (value (vectors_of es) (part (live es (vectors_of es) long (worth_at p es log) 0) all))
        × AreKeys (length es) all
    kept = live_all es (vectors_of es) long (worth_at p es log) first all first_keys down

    clean : AreClean (length p.names) all
    clean = all_clean (length p.names) es (over_at p es log) (length es) first all (omega arith)
        (flat_clean (length p.names) (steps_sum proof) (steps_over (length p.names) proof is_proof.steps)) down

    module _ (totals : Totals) (are_totals : AreTotals totals) (held : Holds totals all) where
      some_total : (x : Place) → sum_at totals x ≢ pos 0 → IsMonomial x.m × (0 < weight_at totals x)
      some_total x some = by (found totals x) refl
        where
          by : (o : Option Total) → found totals x ≡ o → IsMonomial x.m × (0 < weight_at totals x)
          by None e = absurd (some (ap Rattle.flat_cert.specs.Adding.sum_in e))
          by (Some t) e =
              let is : IsTotal (x, t) = found_is totals x t are_totals.all e in
              (is.place, (let w : weight_at totals x ≡ t.weight = ap Rattle.flat_cert.specs.Adding.weight_in e in omega (arith, w, is.some)))

      pub fine : (x : Place) → sum_at totals x ≢ pos 0 → IsFine (length p.names) (sum_at totals) x
      fine x some =
          let small : IsSmall (found totals x) = small_found totals x are_totals.all in
          let key = key_stands (IsClean (length p.names)) all x clean (λ none. some (held.sums x ∙ none)) in
          record {
            range = omega (arith, small.small, small.most);
            mono = record { mono = (some_total x some).0; over = key.1 };
            flat = key.0;
          }

      pub within : IsBeyond (weight all) → ⊥
      within beyond = not_beyond totals are_totals (beyond_more (weight all) (weight_at totals) (λ x. omega (arith, held.weights x)) beyond)

      module _ (kinds : Kinds) (are : AreKinds p kinds) (list : List Flat) (lines : AreLinesFrom kinds (sum_at totals) 0 es list) where
        pub certificate_lines : AreLinesFrom kinds (coefficient same_place all) 0 es list
        certificate_lines = lines_as kinds (sum_at totals) (coefficient same_place all) 0 es list held.sums lines

        pub is_certificate : IsCertificate p list
        is_certificate = record {
          flat = list_is_flat p (sum_at totals) fine kinds 0 es list (has_kinds p es log kinds are) lines;
          few = few_lines (sum_at totals) (weight_at totals) kinds es list (λ x some. (some_total x some).1) (not_beyond totals are_totals) lines;
        }

        stand : StandAt p known.few_names (vectors_of es) es kinds all kept.1 (tells_at p es log kinds are) 0 es
        stand = (omega arith, λ i e lt. ap (λ k. get_or es k e) (let is : i ≡ 0 + i = omega arith in is))

        -- THE SUM
        pub sum_kept : Same same_place (flat_image (certificate_sum p list)) (flat_image (sum_of_steps (vectors_of es) proof))
        sum_kept x =
            list_worth p known.few_names (vectors_of es) es kinds all kept.1 (tells_at p es log kinds are) 0 es list stand certificate_lines x
            ∙ value-same (vectors_of es) (part (late p known.few_names (vectors_of es) es kinds all kept.1 (tells_at p es log kinds are) 0) all)
            (part (live es (vectors_of es) long (worth_at p es log) 0) all)
            (λ y. part_at (late p known.few_names (vectors_of es) es kinds all kept.1 (tells_at p es log kinds are) 0) all y ∙ same_test y
            ∙ sym (part_at (live es (vectors_of es) long (worth_at p es log) 0) all y)) x
            ∙ sym (kept.0 x)
            ∙ ap (λ v. coefficient same_place v x)
            (value-flat (vectors_of es) long (steps_sum proof)
            (Rattle.flat_making.proofs.Summing.keys_long (length es) (steps_sum proof) (steps_keys (length es) proof first_good))
            ∙ sym (steps_value (vectors_of es) proof))
          where
            same_test : (y : Place) → cond (late p known.few_names (vectors_of es) es kinds all kept.1 (tells_at p es log kinds are) 0 y)
                (coefficient same_place all y) (pos 0)
                ≡ cond (live es (vectors_of es) long (worth_at p es log) 0 y) (coefficient same_place all y) (pos 0)
            same_test y =
                let below : nat_lt y.c 0 ≡ false = grind arith in
                let above : Rattle.std.proofs.Common.nat_le 0 y.c ≡ true = grind arith in
                rw below (rw above refl)

  -- ---- what is answered

  handed_are : handed_by (pos 1) one proof ≡ first
  handed_are = handed_first proof proof_long

  holds_nothing : Holds [] []
  holds_nothing = record { sums = λ x. refl; weights = λ x. refl }

  pub start_holds : (new : Totals) → Adds [] (handed_by (pos 1) one proof) new (Ok tt) → Holds new first
  start_holds new adds = subst (Holds new) handed_are (holds_on [] new [] (handed_by (pos 1) one proof) holds_nothing adds)

  pub start_fails : (new : Totals) (e : FlatFault) → Adds [] (handed_by (pos 1) one proof) new (Err e) → Answers p es proof (Err e)
  start_fails new Beyond adds =
      let (all, down) = down_there es (length es) first in (
        all,
        down,
        beyond_more (weight first) (weight all) (down_more es (length es) first all down)
            (subst (λ v. IsBeyond (weight v)) handed_are (passes_on [] new [] (handed_by (pos 1) one proof) holds_nothing adds)),
      )
  start_fails new NoMemory adds = tt

  pub then_fails : (old new : Totals) (e : FlatFault) → Holds old first → HandsDown es old new (Err e) → Answers p es proof (Err e)
  then_fails old new Beyond held fails = fails first held
  then_fails old new NoMemory held fails = tt

  module _ (totals : Totals) (are_totals : AreTotals totals) (reached : (all : FormalSum Place) × IsHanded es proof all × Holds totals all) (kinds : Kinds)
      (are : AreKinds p kinds) (list : List Flat)
      (lines : (all : FormalSum Place) → Holds totals all → AreLinesFrom kinds (coefficient same_place all) 0 es list) where
    by_totals : AreLinesFrom kinds (sum_at totals) 0 es list
    by_totals = lines_as kinds (coefficient same_place reached.0) (sum_at totals) 0 es list (λ x. sym (reached.2.sums x)) (lines reached.0 reached.2)

    pub flatten_exact : (all : FormalSum Place) × IsHanded es proof all × (IsBeyond (weight all) → ⊥) × IsCertificateOf p es all list
    flatten_exact = (reached.0, reached.1, within reached.0 reached.1 totals are_totals reached.2, (kinds, are, lines reached.0 reached.2))

    pub flatten_certificate : IsCertificate p list
    flatten_certificate = is_certificate reached.0 reached.1 totals are_totals reached.2 kinds are list by_totals

    pub flatten_sum : Same same_place (flat_image (certificate_sum p list)) (flat_image (sum_of_steps (vectors_of es) proof))
    flatten_sum = sum_kept reached.0 reached.1 totals are_totals reached.2 kinds are list by_totals
