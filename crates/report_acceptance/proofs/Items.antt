-- The lines of all items, with the answers between them, are taken.
use Rattle.std.proofs.Common.{◌≡◌, ℕ, zero, suc, ◌+◌, ◌<◌, ◌≤◌, ◌^◌, nat_lt, Bool, true, false, List, [], ◌∷◌, ◌++◌, length, take, drop, slice_get, Option}
use Rattle.std.proofs.Common.{Some, None, refl, sym, ap, subst, ◌∙◌, append-nil, take-append-drop, arith}
use Rattle.std.proofs.lemmas.List.{length-map, map-append, take_all}
use Rattle.std.proofs.lemmas.Option.{slice_get_within}
use Rattle.std.specs.List.{AllByRecursion}
use Rattle.presentation.specs.Presented.{Presented, IsPresented}
use Rattle.module_vec.specs.declared.places.Term.{Term}
use Rattle.module_vec.specs.Modules.{vector_at}
use Rattle.module_vec.specs.Reducers.{AreEntries}
use Rattle.module_vec.proofs.Scans.{take_read}
use Rattle.vector_text.specs.Over.{VectorIsOver}
use Rattle.basis_entry.specs.Base.{IsOfGenerator}
use Rattle.basis_entry.specs.Entries.{BasisEntry, IsBasisEntry, vectors_of}
use Rattle.basis_entry.specs.Seals.{Seal}
use Rattle.basis_entry.proofs.Vectors.{are_entries}
use Rattle.report_lines.specs.declared.lines.Line.TheVariants as lines
use Rattle.cert_checker.specs.declared.version.Version.{Version}
use Rattle.cert_checker.specs.declared.phase.Phase.{Phase}
use Rattle.cert_checker.specs.declared.phase.Phase.TheVariants.{Entries, Sealed}
use Rattle.cert_checker.specs.States.{HasGeneratorsIn}
use Rattle.report_text.specs.Histories.{SessionAnswers, made_by, live_at, entry_lines, seal_lines, told_from}
use Rattle.report_text.specs.Reports.{IsSumOver, EntryIsOver}
use Rattle.report_text.proofs.Lists.{all_first, at_place}
use Rattle.report_acceptance.proofs.Taking.{Leads, nothing, one, both}
use Rattle.report_acceptance.proofs.Proving.{IsAt}
use Rattle.report_acceptance.proofs.Entries.{IsNextEntry, generator_next, sum_next, entry_taken}
use Rattle.report_acceptance.proofs.Sessions.{IsSessionTold}
use Rattle.report_acceptance.proofs.Answering.{front_taken}

-- ---- lists

-- the first of what is left
drop_cons : {A : Type 0} (xs : List A) (k : ℕ) (x : A) (rest : List A) → drop k xs ≡ x ∷ rest → (slice_get xs k ≡ Some x) × (drop (k + 1) xs ≡ rest)
drop_cons [] zero x rest e = absurd cc
drop_cons [] (suc k) x rest e = absurd cc
drop_cons (y ∷ xs) zero x rest e = (cc, cc)
drop_cons (y ∷ xs) (suc k) x rest e = let more : suc k + 1 ≡ suc (k + 1) = omega arith in let h = drop_cons xs k x rest e in (h.0, rw more h.1)

pub length_take : {A : Type 0} (xs : List A) (k : ℕ) → k ≤ length xs → length (take k xs) ≡ k
length_take xs zero le = refl
length_take [] (suc k) le = absurd (omega (arith, le))
length_take (x ∷ xs) (suc k) le = ap suc (length_take xs k (omega (arith, le)))

pub get_first : {A : Type 0} (xs : List A) (n k : ℕ) (x : A) → k < n → slice_get xs k ≡ Some x → slice_get (take n xs) k ≡ Some x
get_first xs zero k x lt e = absurd (omega (arith, lt))
get_first [] (suc n) k x lt e = absurd cc
get_first (y ∷ xs) (suc n) zero x lt e = e
get_first (y ∷ xs) (suc n) (suc k) x lt e = get_first xs n k x (omega (arith, lt)) e

-- ---- what is known of the first entries

pub vectors_over : (n : ℕ) (es : List BasisEntry) → AllByRecursion (EntryIsOver n) es → AllByRecursion (VectorIsOver n) (vectors_of es)
vectors_over n [] h = tt
vectors_over n (e ∷ es) h = (h.0.vector, vectors_over n es h.1)

-- the phase in which all items were taken
abbrev pub phase_of : Option Seal → Phase
phase_of None = Entries
phase_of (Some seal) = Sealed

-- what is known of all entries
pub record AreKnown (p : Presented) (gens : List (List Term)) (base : ℕ) (es : List BasisEntry) : Type 0 where
  pub entries : AllByRecursion IsBasisEntry es
  pub over : AllByRecursion (EntryIsOver (length p.names)) es
  pub few : length es + 1 < 2 ^ 32
  pub within : base ≤ length es
  pub generators : length gens ≡ base
  pub begins : (k : ℕ) (e : BasisEntry) → k < base → slice_get es k ≡ Some e → IsOfGenerator p k (vector_at gens k) e
  pub later : (k : ℕ) (e : BasisEntry) → base ≤ k → slice_get es k ≡ Some e → IsSumOver (vectors_of (take k es)) e

module _ (p : Presented) (gens : List (List Term)) (pres : IsPresented p) (es : List BasisEntry) (seal : Option Seal) (base : ℕ)
    (known : AreKnown p gens base es) where
  pub first_entries : (k : ℕ) → AreEntries (vectors_of (take k es))
  first_entries k = are_entries (take k es) (all_first IsBasisEntry k es known.entries)

  pub first_over : (k : ℕ) → AllByRecursion (VectorIsOver (length p.names)) (vectors_of (take k es))
  first_over k = vectors_over (length p.names) (take k es) (all_first (EntryIsOver (length p.names)) k es known.over)

  first_length : (k : ℕ) → k ≤ length es → length (vectors_of (take k es)) ≡ k
  first_length k le = length-map (take k es) (λ (e : BasisEntry). e.vector) ∙ length_take es k le

  pub next_by : (k : ℕ) (e : BasisEntry) (t : Bool) → nat_lt k base ≡ t → k < length es → slice_get es k ≡ Some e → IsNextEntry gens (vectors_of (take k es)) e
  next_by k e true lt within has =
      let number = first_length k (omega (arith, within)) in
      let below : k < base = grind arith in
      let all = known.generators in
      generator_next p gens (vectors_of (take k es)) e (omega (arith, number, all, below))
      (subst (λ i. IsOfGenerator p i (vector_at gens i) e) (sym number) (known.begins k e below has))
  next_by k e false lt within has =
      let number = first_length k (omega (arith, within)) in
      let above : base ≤ k = grind arith in
      let all = known.generators in
      sum_next gens (vectors_of (take k es)) e (omega (arith, number, all, above)) (known.later k e above has)

  -- an entry, after those before it
  item_taken : (k : ℕ) (e : BasisEntry) → slice_get es k ≡ Some e
      → Leads p gens (IsAt Entries (vectors_of (take k es))) (lines.Entry k (made_by e.recipe) e.vector ∷ []) (IsAt Entries (vectors_of (take (k + 1) es)))
  item_taken k e has =
      let within = slice_get_within es k e has in
      let number = first_length k (omega (arith, within)) in
      let next : vectors_of (take k es) ++ e.vector ∷ [] ≡ vectors_of (take (k + 1) es) =
      sym (ap vectors_of (take_read es k e has) ∙ map-append (λ (x : BasisEntry). x.vector) (take k es) (e ∷ [])) in
      subst (λ c. Leads p gens (IsAt Entries (vectors_of (take k es))) (lines.Entry k (made_by e.recipe) e.vector ∷ []) (IsAt Entries c)) next
      (entry_taken p gens (vectors_of (take k es)) k e (sym number) (let few = known.few
      in omega (arith, number, within, few)) (at_place IsBasisEntry es k e known.entries has)
      (at_place (EntryIsOver (length p.names)) es k e known.over has) (next_by k e (nat_lt k base) refl within has))

  module _ (ts : List SessionAnswers) (told : AllByRecursion (IsSessionTold p es seal base) ts) where
    -- the answers behind the entries up to one
    answers_taken : (k : ℕ) → k ≤ length es → Leads p gens (IsAt Entries (vectors_of (take k es))) (live_at k ts) (IsAt Entries (vectors_of (take k es)))
    answers_taken k le =
        let number = first_length k le in
        let few = known.few in
        let all = known.generators in
        front_taken p gens pres es seal base (vectors_of (take k es)) (first_entries k) (first_over k) (omega (arith, number, le, few)) Entries k refl
        (omega (arith, le, few)) tt
        (λ low. omega (arith, number, all, low)) (omega (arith, number)) ts told

    -- and behind the seal
    sealed_taken : Leads p gens (IsAt Sealed (vectors_of es)) (live_at (length es + 1) ts) (IsAt Sealed (vectors_of es))
    sealed_taken =
        let number = length-map es (λ (e : BasisEntry). e.vector) in
        let few = known.few in
        let all = known.generators in
        let within = known.within in
        let whole : vectors_of (take (length es + 1) es) ≡ vectors_of es = ap vectors_of (take_all (length es + 1) es (omega arith)) in
        front_taken p gens pres es seal base (vectors_of es) (are_entries es known.entries) (vectors_over (length p.names) es known.over)
        (omega (arith, number, few)) Sealed (length es + 1) whole
        (omega (arith, few)) tt (λ low. omega (arith, number, all, within)) (omega (arith, number)) ts told

    seal_taken : Leads p gens (IsAt Entries (vectors_of es)) (lines.Seal ∷ []) (IsAt Sealed (vectors_of es))
    seal_taken =
        let number = length-map es (λ (e : BasisEntry). e.vector) in
        let all = known.generators in
        let within = known.within in
        one p gens (IsAt Entries (vectors_of es)) (IsAt Sealed (vectors_of es)) lines.Seal tt (λ s h. h.whole)
        (λ s h. let same : length s.entries ≡ length (vectors_of es) = ap length h.entries in (
          (
            h.phase,
            h.settled,
            subst (λ (v : Version). HasGeneratorsIn v gens s.entries) (sym h.whole) (omega (arith, same, number, all, within)),
          ),
          (tt, record { phase = refl; whole = h.whole; entries = h.entries; settled = h.settled }),
        ))

    end_taken : (o : Option Seal) (k : ℕ) → k ≡ length es → Leads p gens (IsAt Entries (vectors_of es)) (told_from ts k (seal_lines o))
        (IsAt (phase_of o) (vectors_of es))
    end_taken None k at = nothing p gens (IsAt Entries (vectors_of es))
    end_taken (Some s) k at =
        let lines_here : Leads p gens (IsAt Sealed (vectors_of es)) (live_at (k + 1) ts) (IsAt Sealed (vectors_of es)) =
        subst (λ j. Leads p gens (IsAt Sealed (vectors_of es)) (live_at (j + 1) ts) (IsAt Sealed (vectors_of es))) (sym at) sealed_taken in
        both p gens (IsAt Entries (vectors_of es)) (IsAt Sealed (vectors_of es)) (IsAt Sealed (vectors_of es)) (lines.Seal ∷ [])
        (live_at (k + 1) ts ++ []) seal_taken
        (both p gens (IsAt Sealed (vectors_of es)) (IsAt Sealed (vectors_of es)) (IsAt Sealed (vectors_of es)) (live_at (k + 1) ts) [] lines_here
        (nothing p gens (IsAt Sealed (vectors_of es))))

    -- from entry number k on
    pub items_taken : (k : ℕ) (left : List BasisEntry) → k ≤ length es → drop k es ≡ left
        → Leads p gens (IsAt Entries (vectors_of (take k es))) (told_from ts k (entry_lines k left ++ seal_lines seal)) (IsAt (phase_of seal) (vectors_of es))
    items_taken k [] le is =
        let whole : take k es ≡ es = sym (append-nil (take k es)) ∙ sym (ap (λ l. take k es ++ l) is) ∙ take-append-drop k es in
        let all : k ≡ length es = sym (length_take es k le) ∙ ap length whole in
        subst (λ c. Leads p gens (IsAt Entries (vectors_of c)) (told_from ts k (seal_lines seal)) (IsAt (phase_of seal) (vectors_of es))) (sym whole)
        (end_taken seal k all)
    items_taken k (e ∷ left) le is =
        let h = drop_cons es k e left is in
        let within = slice_get_within es k e h.0 in
        both p gens (IsAt Entries (vectors_of (take k es))) (IsAt Entries (vectors_of (take (k + 1) es))) (IsAt (phase_of seal) (vectors_of es))
        (lines.Entry k (made_by e.recipe) e.vector ∷ [])
        (live_at (k + 1) ts ++ told_from ts (k + 1) (entry_lines (k + 1) left ++ seal_lines seal)) (item_taken k e h.0)
        (both p gens (IsAt Entries (vectors_of (take (k + 1) es))) (IsAt Entries (vectors_of (take (k + 1) es))) (IsAt (phase_of seal) (vectors_of es))
        (live_at (k + 1) ts) (told_from ts (k + 1) (entry_lines (k + 1) left ++ seal_lines seal))
        (answers_taken (k + 1) (omega (arith, within))) (items_taken (k + 1) left (omega (arith, within)) h.1))
