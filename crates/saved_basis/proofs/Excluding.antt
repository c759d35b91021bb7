-- The file of a saved list has no line that fails.
use Rattle.std.proofs.Common.{◌≡◌, ◌≢◌, ℕ, zero, suc, ◌+◌, ◌<◌, ◌≤◌, ◌⊎◌, inl, inr, Bool, List, []}
use Rattle.std.proofs.Common.{◌∷◌, ◌++◌, length, take, Some, refl, sym, ap}
use Rattle.std.proofs.Common.{subst, ◌∙◌, arith, append_assoc, append-nil, length-append}
use Rattle.std.proofs.lemmas.List.{length-map, length-take-le}
use Rattle.std.proofs.lemmas.List.Sums.{sum_by-append, sum_by-cons}
use Rattle.std.proofs.lemmas.Option.{slice_get_within}
use Rattle.std.specs.List.{slice_get}
use Rattle.spelling.specs.Spelling.{cut}
use Rattle.spelling.proofs.Cuts.{cut_here}
use Rattle.presentation.specs.Presented.{Presented, IsPresented}
use Rattle.module_vec.specs.declared.places.Term.{Term}
use Rattle.module_vec.specs.Modules.{vector_at}
use Rattle.module_vec.specs.Vectors.{coefficient_at}
use Rattle.vector_text.proofs.PlaceTexts.{some_pair}
use Rattle.report_lines.specs.declared.lines.Made.{Made}
use Rattle.report_lines.specs.declared.lines.Line.{Line}
use Rattle.report_lines.specs.declared.lines.Line.TheVariants as lines
use Rattle.report_lines.specs.declared.trimmed.TrimmedLine.TheVariants.{Other}
use Rattle.report_lines.specs.Lines.{IsLineOf}
use Rattle.report_lines.specs.Texts.{pres_line, line_text, lines_text}
use Rattle.report_lines.proofs.Pairs.{literal}
use Rattle.report_lines.proofs.ReadingBack.{one_line}
use Rattle.report_reading.proofs.LineBytes.{whole_line, head_line}
use Rattle.basis_entry.specs.declared.recipes.Recipe.{Recipe}
use Rattle.basis_entry.specs.declared.recipes.Recipe.TheVariants.{Gen, Sum}
use Rattle.basis_entry.specs.Base.{IsOfGenerator}
use Rattle.basis_entry.specs.Entries.{BasisEntry, IsBasisEntry, vectors_of}
use Rattle.pair_work.specs.Outcomes.{recipe_steps}
use Rattle.pair_work.proofs.Reading.{all_get, take_left, take_whole}
use Rattle.cert_checker.specs.declared.phase.Phase.TheVariants.{Entries}
use Rattle.cert_checker.specs.States.{State, start, MayFollow, IsInTurn}
use Rattle.cert_checker.specs.Checking.{IsMadeOf, EntryFails}
use Rattle.report_text.specs.Histories.{entry_lines, made_by}
use Rattle.report_text.specs.Reports.{EntryIsOver}
use Rattle.report_acceptance.proofs.Entries.{IsNextEntry, generator_next, sum_next, entry_taken}
use Rattle.report_acceptance.proofs.Exclusion.{never_fails}
use Rattle.saved_basis.specs.declared.faults.LineKind.{LineKind}
use Rattle.saved_basis.specs.declared.faults.LineKind.TheVariants.{Text, NoEntry, NotEqual, Wide, Long}
use Rattle.saved_basis.specs.Files.{IsBeginning, AreWithin, title, last_line, begun_text, basis_text}
use Rattle.saved_basis.specs.Lines.{MayStand, as_checked, EntryLineFails}
use Rattle.saved_basis.specs.Lines.{LineFails, IsOther, CantFollow, IsFirstFault}
use Rattle.saved_basis.proofs.Beginning.{same_steps}
use Rattle.saved_basis.proofs.Texts.{behind_head}

-- ---- entries by their lines

-- the entry has the presentation, and its number where it is a generator
abbrev pub IsNumbered : Presented → ℕ → BasisEntry → Type 0
IsNumbered p k e = (e.source ≡ p) × (((negated : Bool) × (e.recipe ≡ Gen k negated)) ⊎ ((steps : List _) × (e.recipe ≡ Sum steps)))

same_recipe : (k : ℕ) (q r : Recipe) → made_by q ≡ made_by r → ((negated : Bool) × (q ≡ Gen k negated)) ⊎ ((steps : List _) × (q ≡ Sum steps))
    → ((negated : Bool) × (r ≡ Gen k negated)) ⊎ ((steps : List _) × (r ≡ Sum steps)) → q ≡ r
same_recipe k q r e (inl h) (inl g) = let f = sym (ap made_by h.1) ∙ e ∙ ap made_by g.1 in let s : h.0 ≡ g.0 = cc in h.1 ∙ ap (Gen k) s ∙ sym g.1
same_recipe k q r e (inl h) (inr g) = absurd (let f = sym (ap made_by h.1) ∙ e ∙ ap made_by g.1 in cc)
same_recipe k q r e (inr h) (inl g) = absurd (let f = sym (ap made_by h.1) ∙ e ∙ ap made_by g.1 in cc)
same_recipe k q r e (inr h) (inr g) = let f = sym (ap made_by h.1) ∙ e ∙ ap made_by g.1 in let s : h.0 ≡ g.0 = cc in h.1 ∙ ap Sum s ∙ sym g.1

same_line : (k : ℕ) (m n : Made) (v w : List Term) → lines.Entry k m v ≡ lines.Entry k n w → (m ≡ n) × (v ≡ w)
same_line k m n v w e = (cc, cc)

same_entry : (p : Presented) (k : ℕ) (e f : BasisEntry) → IsNumbered p k e → IsNumbered p k f
    → lines.Entry k (made_by e.recipe) e.vector ≡ lines.Entry k (made_by f.recipe) f.vector → e ≡ f
same_entry p k e f a b same =
    let parts = same_line k (made_by e.recipe) (made_by f.recipe) e.vector f.vector same in
    let source : e.source ≡ f.source = a.0 ∙ sym b.0 in
    let recipe : e.recipe ≡ f.recipe = same_recipe k e.recipe f.recipe parts.0 a.1 b.1 in
    λ i. record { source = source i; vector = parts.1 i; recipe = recipe i }

-- lines over the presentation, of entries that are numbered from k on
abbrev pub AreListed : Presented → ℕ → List BasisEntry → Type 0
AreListed p k [] = Unit {0}
AreListed p k (e ∷ es) = IsNumbered p k e × IsLineOf p (lines.Entry k (made_by e.recipe) e.vector) × AreListed p (k + 1) es

-- ---- cutting texts of lines

not_done : (k : ℕ) (m : Made) (v : List Term) → lines.Entry k m v ≡ lines.Done → ⊥
not_done k m v e = cc

-- the text of the entry's line
abbrev entry_text : Presented → ℕ → BasisEntry → List ℕ
entry_text p k e = line_text p (lines.Entry k (made_by e.recipe) e.vector)

-- a text is cut in one way
one_cut : (text a b c d : List ℕ) → cut 10 text ≡ Some (a, b) → cut 10 text ≡ Some (c, d) → (a ≡ c) × (b ≡ d)
one_cut text a b c d e f = some_pair (a, b) (c, d) (sym e ∙ f)

done_cut : (more : List ℕ) → cut 10 (last_line ++ 10 ∷ more) ≡ Some (last_line, more)
done_cut more = cut_here 10 last_line more (literal 10 last_line refl)

title_cut : (rest : List ℕ) → cut 10 (title ++ 10 ∷ rest) ≡ Some (title, rest)
title_cut rest = cut_here 10 title rest (literal 10 title refl)

module _ (p : Presented) (known : IsPresented p) where
  pres_cut : (rest : List ℕ) → cut 10 (pres_line p ++ 10 ∷ rest) ≡ Some (pres_line p, rest)
  pres_cut rest = cut_here 10 (pres_line p) rest (head_line p known)

  headed_same : (a b : List ℕ) → title ++ 10 ∷ (pres_line p ++ 10 ∷ a) ≡ title ++ 10 ∷ (pres_line p ++ 10 ∷ b) → a ≡ b
  headed_same a b e =
      let one = one_cut (title ++ 10 ∷ (pres_line p ++ 10 ∷ a)) title (pres_line p ++ 10 ∷ a) title (pres_line p ++ 10 ∷ b)
      (title_cut (pres_line p ++ 10 ∷ a)) (ap (cut 10) e ∙ title_cut (pres_line p ++ 10 ∷ b)) in
      (one_cut (pres_line p ++ 10 ∷ a) (pres_line p) a (pres_line p) b (pres_cut a) (ap (cut 10) one.1 ∙ pres_cut b)).1

  -- the first of the lines of entries, and what stands behind it
  first_cut : (k : ℕ) (e : BasisEntry) (es : List BasisEntry) (more : List ℕ) → IsLineOf p (lines.Entry k (made_by e.recipe) e.vector)
      → cut 10 (lines_text p (entry_lines k (e ∷ es)) ++ more) ≡ Some (entry_text p k e, lines_text p (entry_lines (k + 1) es) ++ more)
  first_cut k e es more valid =
      ap (cut 10) (append_assoc (entry_text p k e ++ 10 ∷ []) (lines_text p (entry_lines (k + 1) es)) more
      ∙ append_assoc (entry_text p k e) (10 ∷ []) (lines_text p (entry_lines (k + 1) es) ++ more))
      ∙ cut_here 10 (entry_text p k e) (lines_text p (entry_lines (k + 1) es) ++ more)
      (whole_line p known (lines.Entry k (made_by e.recipe) e.vector) valid)

  isnt_last : (k : ℕ) (m : Made) (v : List Term) → IsLineOf p (lines.Entry k m v) → line_text p (lines.Entry k m v) ≡ last_line → ⊥
  isnt_last k m v valid e = not_done k m v (one_line p (lines.Entry k m v) lines.Done known valid tt e)

  -- where a text goes on from some entries' lines, and ends as a file of others, the others go on from these entries
  pub prefix : (k : ℕ) (xs ys : List BasisEntry) (rest more : List ℕ) → AreListed p k xs → AreListed p k ys
      → lines_text p (entry_lines k xs) ++ rest ≡ lines_text p (entry_lines k ys) ++ (last_line ++ 10 ∷ more)
      → (zs : List BasisEntry) × (ys ≡ xs ++ zs) × (rest ≡ lines_text p (entry_lines (k + length xs) zs) ++ (last_line ++ 10 ∷ more))
      × AreListed p (k + length xs) zs
  prefix k [] ys rest more a b e =
      let same : k ≡ k + 0 = omega arith in
      (ys, refl, subst (λ n. rest ≡ lines_text p (entry_lines n ys) ++ (last_line ++ 10 ∷ more)) same e, subst (λ n. AreListed p n ys) same b)
  prefix k (x ∷ xs) [] rest more a b e =
      let parts = one_cut (last_line ++ 10 ∷ more) (entry_text p k x) (lines_text p (entry_lines (k + 1) xs) ++ rest) last_line more
      (ap (cut 10) (sym e) ∙ first_cut k x xs rest a.1) (done_cut more) in
      absurd (isnt_last k (made_by x.recipe) x.vector a.1 parts.0)
  prefix k (x ∷ xs) (y ∷ ys) rest more a b e =
      let parts = one_cut (lines_text p (entry_lines k (y ∷ ys)) ++ (last_line ++ 10 ∷ more)) (entry_text p k x)
      (lines_text p (entry_lines (k + 1) xs) ++ rest) (entry_text p k y) (lines_text p (entry_lines (k + 1) ys) ++ (last_line ++ 10 ∷ more))
      (ap (cut 10) (sym e) ∙ first_cut k x xs rest a.1) (first_cut k y ys (last_line ++ 10 ∷ more) b.1) in
      let same : x ≡ y = same_entry p k x y a.0 b.0 (one_line p (lines.Entry k (made_by x.recipe) x.vector) (lines.Entry k (made_by y.recipe) y.vector)
      known a.1 b.1 parts.0) in
      let r = prefix (k + 1) xs ys rest more a.2 b.2 parts.1 in
      let number : k + 1 + length xs ≡ k + length (x ∷ xs) = omega arith in (
        r.0,
        λ i. sym same i ∷ r.1 i,
        subst (λ n. rest ≡ lines_text p (entry_lines n r.0) ++ (last_line ++ 10 ∷ more)) number r.2,
        subst (λ n. AreListed p n r.0) number r.3,
      )

-- ---- the entries of a beginning

get_seam : {X : Type 0} (xs : List X) (y : X) (ys : List X) → slice_get (xs ++ y ∷ ys) (length xs) ≡ Some y
get_seam [] y ys = refl
get_seam (x ∷ xs) y ys = get_seam xs y ys

le_or_less : (m k : ℕ) → (m ≤ k) ⊎ (k < m)
le_or_less zero k = inl (omega arith)
le_or_less (suc m) zero = inr (omega arith)
le_or_less (suc m) (suc k) = elim (le_or_less m k) [
  | inl le ↦ inl (omega (arith, le))
  | inr lt ↦ inr (omega (arith, lt))
]

listed_from : (p : Presented) (xs : List BasisEntry) (k : ℕ) → ((i : ℕ) (e : BasisEntry) → slice_get xs i ≡ Some e
    → IsNumbered p (k + i) e × IsLineOf p (lines.Entry (k + i) (made_by e.recipe) e.vector)) → AreListed p k xs
listed_from p [] k f = tt
listed_from p (x ∷ xs) k f =
    let zeroth : k + 0 ≡ k = omega arith in
    let one = subst (λ n. IsNumbered p n x × IsLineOf p (lines.Entry n (made_by x.recipe) x.vector)) zeroth (f 0 x refl) in (
      one.0,
      one.1,
      listed_from p xs (k + 1) (λ i e at. let same : k + suc i ≡ k + 1 + i = omega arith in
          subst (λ n. IsNumbered p n e × IsLineOf p (lines.Entry n (made_by e.recipe) e.vector)) same (f (suc i) e at)),
    )

-- the line of an entry, with what the checker says of it
pub record Stands (p : Presented) (gens b : List (List Term)) (k : ℕ) (e : BasisEntry) : Type 0 where
  pub valid : IsLineOf p (lines.Entry k (made_by e.recipe) e.vector)
  pub turn : IsInTurn gens b (made_by e.recipe)
  pub is : IsMadeOf gens b (made_by e.recipe) (coefficient_at e.vector)

abbrev reached : List (List Term) → State
reached b = record start { phase = Entries; entries = b }

module _ (p : Presented) (gens : List (List Term)) (es : List BasisEntry) (b : IsBeginning p gens es) where
  number_at : (k : ℕ) (e : BasisEntry) → slice_get es k ≡ Some e → IsNumbered p k e
  number_at k e at = (all_get (λ (x : BasisEntry). x.source ≡ p) es k e b.source at, by (le_or_less (length gens) k))
    where
      by : (length gens ≤ k) ⊎ (k < length gens) → ((negated : Bool) × (e.recipe ≡ Gen k negated)) ⊎ ((steps : List _) × (e.recipe ≡ Sum steps))
      by (inl high) = let s = b.later k e high at in inr (s.steps, s.recipe)
      by (inr low) = let g = b.begins k e low at in inl (_, g.recipe)

  first_count : (k : ℕ) → k ≤ length es → length (vectors_of (take k es)) ≡ k
  first_count k le = length-map (take k es) (λ (e : BasisEntry). e.vector) ∙ length-take-le k es le

  next_at : (k : ℕ) (e : BasisEntry) → slice_get es k ≡ Some e → IsNextEntry gens (vectors_of (take k es)) e
  next_at k e at = by (le_or_less (length gens) k)
    where
      within : k < length es
      within = slice_get_within es k e at

      number : length (vectors_of (take k es)) ≡ k
      number = first_count k (omega (arith, within))

      by : (length gens ≤ k) ⊎ (k < length gens) → IsNextEntry gens (vectors_of (take k es)) e
      by (inl high) = sum_next gens (vectors_of (take k es)) e (omega (arith, number, high)) (b.later k e high at)
      by (inr low) = generator_next p gens (vectors_of (take k es)) e (omega (arith, number, low))
          (subst (λ i. IsOfGenerator p i (vector_at gens i) e) (sym number) (b.begins k e low at))

  pub stands_at : (k : ℕ) (e : BasisEntry) → slice_get es k ≡ Some e → Stands p gens (vectors_of (take k es)) k e
  stands_at k e at =
      let within = slice_get_within es k e at in
      let number = first_count k (omega (arith, within)) in
      let most = b.within.entries in
      let taken = entry_taken p gens (vectors_of (take k es)) k e (sym number) (omega (arith, number, within, most))
      (all_get IsBasisEntry es k e b.entries at) (all_get (EntryIsOver (length p.names)) es k e b.over at) (next_at k e at) in
      let h = taken.hold (reached (vectors_of (take k es))) (record { phase = refl; whole = refl; entries = refl; settled = omega arith }) in
      record { valid = h.0; turn = (next_at k e at).turn; is = (next_at k e at).is }

  pub listed : AreListed p 0 es
  listed = listed_from p es 0 (λ i e at. let same : i ≡ 0 + i = omega arith in
      subst (λ n. IsNumbered p n e × IsLineOf p (lines.Entry n (made_by e.recipe) e.vector)) same (number_at i e at, (stands_at i e at).valid))

-- ---- no line fails

module _ (p : Presented) (gens : List (List Term)) (known : IsPresented p) where
  -- a line of an entry that is what it is made to be
  never_made : (xs : List BasisEntry) (z : BasisEntry) (k : LineKind) → Stands p gens (vectors_of xs) (length xs) z
      → EntryLineFails p gens xs (entry_text p (length xs) z) k → ⊥
  never_made xs z k s h =
      let line : Line = lines.Entry (length xs) (made_by z.recipe) z.vector in
      let other : Line = lines.Entry (length xs) h.0 h.1 in
      let parts = same_line (length xs) (made_by z.recipe) h.0 z.vector h.1 (one_line p line other known s.valid h.2.valid h.2.spelled) in
      let fails : EntryFails gens (vectors_of xs) (made_by z.recipe) z.vector (as_checked k) =
      subst (λ (m : Made). EntryFails gens (vectors_of xs) m z.vector (as_checked k)) (sym parts.0)
      (subst (λ (v : List Term). EntryFails gens (vectors_of xs) h.0 v (as_checked k)) (sym parts.1) h.3) in
      let long : length xs ≡ length (vectors_of xs) = sym (length-map xs (λ (e : BasisEntry). e.vector)) in
      by k fails (refl, omega arith, long, s.turn)
    where
      by : (k : LineKind) → EntryFails gens (vectors_of xs) (made_by z.recipe) z.vector (as_checked k)
          → MayFollow gens (reached (vectors_of xs)) (lines.Entry (length xs) (made_by z.recipe) z.vector) → ⊥
      by Text f follows = f
      by NoEntry f follows = never_fails gens (reached (vectors_of xs)) (Other (lines.Entry (length xs) (made_by z.recipe) z.vector)) (as_checked NoEntry)
          follows s.is (follows, f)
      by (NotEqual at) f follows = never_fails gens (reached (vectors_of xs)) (Other (lines.Entry (length xs) (made_by z.recipe) z.vector))
          (as_checked (NotEqual at)) follows s.is (follows, f)
      by Wide f follows = never_fails gens (reached (vectors_of xs)) (Other (lines.Entry (length xs) (made_by z.recipe) z.vector)) (as_checked Wide)
          follows s.is (follows, f)
      by Long f follows = never_fails gens (reached (vectors_of xs)) (Other (lines.Entry (length xs) (made_by z.recipe) z.vector)) (as_checked Long)
          follows s.is (follows, f)

  entry_stands : (xs : List BasisEntry) (z : BasisEntry) (k : LineKind) → Stands p gens (vectors_of xs) (length xs) z
      → MayStand gens xs (made_by z.recipe) z.vector → LineFails p gens xs (entry_text p (length xs) z) k → ⊥
  entry_stands xs z Text s may h = h.0 (made_by z.recipe) z.vector (record { valid = s.valid; spelled = refl; may = may })
  entry_stands xs z NoEntry s may h = never_made xs z NoEntry s h
  entry_stands xs z (NotEqual at) s may h = never_made xs z (NotEqual at) s h
  entry_stands xs z Wide s may h = never_made xs z Wide s h
  entry_stands xs z Long s may h = never_made xs z Long s h

  no_entry : (xs : List BasisEntry) (k : LineKind) → EntryLineFails p gens xs last_line k → ⊥
  no_entry xs k h = isnt_last p known (length xs) h.0 h.1 h.2.valid (sym h.2.spelled)

  last_stands : (xs : List BasisEntry) (k : LineKind) → length gens ≤ length xs → LineFails p gens xs last_line k → ⊥
  last_stands xs Text all h = h.1 (all, refl)
  last_stands xs NoEntry all h = no_entry xs NoEntry h
  last_stands xs (NotEqual at) all h = no_entry xs (NotEqual at) h
  last_stands xs Wide all h = no_entry xs Wide h
  last_stands xs Long all h = no_entry xs Long h

  module _ (es : List BasisEntry) (b : IsBeginning p gens es) (all : length gens ≤ length es) where
    may_stand : (xs zs : List BasisEntry) (z : BasisEntry) → es ≡ xs ++ z ∷ zs → Stands p gens (vectors_of xs) (length xs) z
        → IsBasisEntry z → MayStand gens xs (made_by z.recipe) z.vector
    may_stand xs zs z e s known =
        let w : AreWithin (xs ++ z ∷ zs) = subst AreWithin e b.within in
        let n = length-append xs (z ∷ zs) in
        let t = sum_by-append (λ (x : BasisEntry). length x.vector) xs (z ∷ zs) in
        let u = sum_by-append (λ (x : BasisEntry). recipe_steps x.recipe) xs (z ∷ zs) in
        let t1 = sum_by-cons (λ (x : BasisEntry). length x.vector) z zs in
        let u1 = sum_by-cons (λ (x : BasisEntry). recipe_steps x.recipe) z zs in
        let same = same_steps z.recipe in
        record {
          turn = s.turn;
          entry = known.entry;
          entries = omega (arith, w.entries, n);
          terms = omega (arith, w.terms, t, t1);
          steps = omega (arith, w.steps, u, u1, same);
        }

    entry_follows : (xs zs : List BasisEntry) (z : BasisEntry) (k : LineKind) → es ≡ xs ++ z ∷ zs → LineFails p gens xs (entry_text p (length xs) z) k → ⊥
    entry_follows xs zs z k e h =
        let at : slice_get es (length xs) ≡ Some z = subst (λ (ys : List BasisEntry). slice_get ys (length xs) ≡ Some z) (sym e) (get_seam xs z zs) in
        let first : take (length xs) es ≡ xs = ap (take (length xs)) e ∙ take_left xs (z ∷ zs) (length xs) (omega arith) ∙ take_whole xs in
        let s : Stands p gens (vectors_of xs) (length xs) z =
        subst (λ (ys : List BasisEntry). Stands p gens (vectors_of ys) (length xs) z) first (stands_at p gens es b (length xs) z at) in
        entry_stands xs z k s (may_stand xs zs z e s (all_get IsBasisEntry es (length xs) z b.entries at)) h

    -- behind some of the entries the next line can stand
    nothing_fails : (xs : List BasisEntry) (rest : List ℕ) (k : LineKind) → IsBeginning p gens xs → begun_text p xs ++ rest ≡ basis_text p es
        → CantFollow p gens xs (cut 10 rest) k → ⊥
    nothing_fails xs rest k x e cant =
        let f : lines_text p (entry_lines 0 xs) ++ rest ≡ lines_text p (entry_lines 0 es) ++ (last_line ++ 10 ∷ []) =
        headed_same p known (lines_text p (entry_lines 0 xs) ++ rest) (lines_text p (entry_lines 0 es) ++ (last_line ++ 10 ∷ []))
        (sym (behind_head p (lines_text p (entry_lines 0 xs)) rest) ∙ e ∙ behind_head p (lines_text p (entry_lines 0 es)) (last_line ++ 10 ∷ [])) in
        let r = prefix p known 0 xs es rest [] (listed p gens xs x) (listed p gens es b) f in
        let number : 0 + length xs ≡ length xs = omega arith in
        by r.0 r.1 (subst (λ n. rest ≡ lines_text p (entry_lines n r.0) ++ (last_line ++ 10 ∷ [])) number r.2)
        (subst (λ n. AreListed p n r.0) number r.3)
      where
        by : (zs : List BasisEntry) → es ≡ xs ++ zs → rest ≡ lines_text p (entry_lines (length xs) zs) ++ (last_line ++ 10 ∷ [])
            → AreListed p (length xs) zs → ⊥
        by [] whole is are =
            let same : es ≡ xs = whole ∙ append-nil xs in
            last_stands xs k (subst (λ (ys : List BasisEntry). length gens ≤ length ys) same all)
            (subst (λ o. CantFollow p gens xs o k) (ap (cut 10) is ∙ done_cut []) cant)
        by (z ∷ zs) whole is are =
            entry_follows xs zs z k whole (subst (λ o. CantFollow p gens xs o k)
            (ap (cut 10) is ∙ first_cut p known (length xs) z zs (last_line ++ 10 ∷ []) are.1) cant)

    nothing_behind : (xs : List BasisEntry) (rest : List ℕ) → IsBeginning p gens xs → basis_text p xs ++ rest ≡ basis_text p es → rest ≢ [] → ⊥
    nothing_behind xs rest x e some =
        let g : begun_text p xs ++ (last_line ++ 10 ∷ rest) ≡ basis_text p es =
        ap (λ t. begun_text p xs ++ t) (sym (append_assoc last_line (10 ∷ []) rest))
        ∙ sym (append_assoc (begun_text p xs) (last_line ++ 10 ∷ []) rest) ∙ e in
        let f : lines_text p (entry_lines 0 xs) ++ (last_line ++ 10 ∷ rest) ≡ lines_text p (entry_lines 0 es) ++ (last_line ++ 10 ∷ []) =
        headed_same p known (lines_text p (entry_lines 0 xs) ++ (last_line ++ 10 ∷ rest)) (lines_text p (entry_lines 0 es) ++ (last_line ++ 10 ∷ []))
        (sym (behind_head p (lines_text p (entry_lines 0 xs)) (last_line ++ 10 ∷ rest)) ∙ g
        ∙ behind_head p (lines_text p (entry_lines 0 es)) (last_line ++ 10 ∷ [])) in
        let r = prefix p known 0 xs es (last_line ++ 10 ∷ rest) [] (listed p gens xs x) (listed p gens es b) f in
        by (0 + length xs) r.0 r.2 r.3
      where
        by : (n : ℕ) (zs : List BasisEntry) → last_line ++ 10 ∷ rest ≡ lines_text p (entry_lines n zs) ++ (last_line ++ 10 ∷ []) → AreListed p n zs → ⊥
        by n [] is are = some (one_cut (last_line ++ 10 ∷ []) last_line rest last_line [] (ap (cut 10) (sym is) ∙ done_cut rest) (done_cut [])).1
        by n (z ∷ zs) is are =
            let parts = one_cut (last_line ++ 10 ∷ rest) last_line rest (entry_text p n z) (lines_text p (entry_lines (n + 1) zs) ++ (last_line ++ 10 ∷ []))
            (done_cut rest) (ap (cut 10) is ∙ first_cut p known n z zs (last_line ++ 10 ∷ []) are.1) in
            isnt_last p known n (made_by z.recipe) z.vector are.1 (sym parts.0)

    headed : basis_text p es ≡ title ++ 10 ∷ (pres_line p ++ 10 ∷ (lines_text p (entry_lines 0 es) ++ (last_line ++ 10 ∷ [])))
    headed = behind_head p (lines_text p (entry_lines 0 es)) (last_line ++ 10 ∷ [])

    pub no_fault : (text : List ℕ) (n : ℕ) (k : LineKind) → text ≡ basis_text p es → IsFirstFault p gens text n k → ⊥
    no_fault text _ _ is (IsFirstFault.at_title other) =
        subst (IsOther title)
        (ap (cut 10) (is ∙ headed) ∙ title_cut (pres_line p ++ 10 ∷ (lines_text p (entry_lines 0 es) ++ (last_line ++ 10 ∷ [])))) other refl
    no_fault text _ _ is (IsFirstFault.at_presentation rest begins other) =
        let body : List ℕ = lines_text p (entry_lines 0 es) ++ (last_line ++ 10 ∷ []) in
        let parts = one_cut text title rest title (pres_line p ++ 10 ∷ body) (ap (cut 10) begins ∙ title_cut rest)
        (ap (cut 10) (is ∙ headed) ∙ title_cut (pres_line p ++ 10 ∷ body)) in
        subst (IsOther (pres_line p)) (ap (cut 10) parts.1 ∙ pres_cut p known body) other refl
    no_fault text _ k is (IsFirstFault.behind xs rest _ x begins cant) = nothing_fails xs rest k x (sym begins ∙ is) cant
    no_fault text _ _ is (IsFirstFault.after_last xs rest x most begins some) = nothing_behind xs rest x (sym begins ∙ is) some

    -- the file tells its entries
    pub one_list : (ys : List BasisEntry) → IsBeginning p gens ys → basis_text p ys ≡ basis_text p es → ys ≡ es
    one_list ys y e =
        let f : lines_text p (entry_lines 0 ys) ++ (last_line ++ 10 ∷ []) ≡ lines_text p (entry_lines 0 es) ++ (last_line ++ 10 ∷ []) =
        headed_same p known (lines_text p (entry_lines 0 ys) ++ (last_line ++ 10 ∷ [])) (lines_text p (entry_lines 0 es) ++ (last_line ++ 10 ∷ []))
        (sym (behind_head p (lines_text p (entry_lines 0 ys)) (last_line ++ 10 ∷ [])) ∙ e ∙ headed) in
        let r = prefix p known 0 ys es (last_line ++ 10 ∷ []) [] (listed p gens ys y) (listed p gens es b) f in
        by (0 + length ys) r.0 r.1 r.2 r.3
      where
        by : (n : ℕ) (zs : List BasisEntry) → es ≡ ys ++ zs → last_line ++ 10 ∷ [] ≡ lines_text p (entry_lines n zs) ++ (last_line ++ 10 ∷ [])
            → AreListed p n zs → ys ≡ es
        by n [] whole is are = sym (append-nil ys) ∙ sym whole
        by n (z ∷ zs) whole is are =
            let parts = one_cut (last_line ++ 10 ∷ []) last_line [] (entry_text p n z) (lines_text p (entry_lines (n + 1) zs) ++ (last_line ++ 10 ∷ []))
            (done_cut []) (ap (cut 10) is ∙ first_cut p known n z zs (last_line ++ 10 ∷ []) are.1) in
            absurd (isnt_last p known n (made_by z.recipe) z.vector are.1 (sym parts.0))
