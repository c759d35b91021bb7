-- The book of the generator entries.
use Rattle.std.proofs.Common.{ℕ, zero, suc, ◌<◌, ◌≤◌, ◌≡◌, ◌⊎◌, inl, inr, arith, refl, sym, ap, ◌∙◌, List, [], ◌∷◌, length, Bool, true, false, not, ◌||◌, Some}
use Rattle.std.proofs.Common.{None, subst, eq-eqb}
use borrow.Author.Differences.{ints}
use Rattle.std.proofs.lemmas.Bool.{eqb-true}
use Rattle.std.proofs.lemmas.List.Sums.{sum_by-cons}
use Rattle.std.proofs.lemmas.Option.{slice_get_within}
use Rattle.std.specs.List.{slice_get, AllByRecursion}
use Rattle.std.specs.Prelude.{ℤ, pos, negsuc, ◌<ℤ◌, nat_eq, ◌%◌, ◌↔◌}
use Rattle.presentation.specs.Presented.{Presented, IsPresented}
use Rattle.outcomes.specs.declared.tasks.Task.{Task}
use Rattle.outcomes.specs.declared.kinds.PairKind.{PairKind}
use Rattle.outcomes.specs.declared.kinds.PairKind.TheVariants.{S, G}
use Rattle.module_vec.specs.declared.places.Term.{Term}
use Rattle.module_vec.specs.Reducers.{AreEntries}
use Rattle.strong_pairs.specs.Covering.{Divides, divides_number}
use Rattle.strong_pairs.specs.Pairs.{lead_of, lead_at, IsPair}
use Rattle.strong_pairs.specs.Tasks.{IsClosed, IsClosedFromStart}
use Rattle.strong_pairs.proofs.CoverTests.{divides_test}
use Rattle.strong_pairs.proofs.Determination.{closed_from_start}
use Rattle.task_table.specs.Tasks.{is_unclosed, is_never}
use Rattle.task_table.specs.Tables.{Table}
use Rattle.task_table.specs.Rows.{first_state, settled_of}
use Rattle.basis_entry.specs.Base.{AreBase}
use Rattle.basis_entry.specs.Entries.{BasisEntry, IsBasisEntry, vectors_of}
use Rattle.basis_entry.specs.declared.TheConstants.{BASE, BASE_TERMS}
use Rattle.basis_entry.proofs.Sizes.{few_terms, bases_alike}
use Rattle.basis_entry.proofs.Vectors.{are_entries}
use Rattle.pair_book.specs.declared.limits.Limits.{Limits}
use Rattle.pair_book.specs.Logs.{IsLawful}
use Rattle.pair_book.specs.Settled.{settled_by}
use Rattle.pair_work.specs.Outcomes.{recipe_steps, IsShort}
use Rattle.pair_book.specs.LogEntries.{terms_of, steps_of}
use Rattle.pair_book.specs.Books.{IsBook, AreNew, AreWithin}
use Rattle.pair_work.proofs.Reading.{all_from, take_whole}
use Rattle.pair_book.proofs.Starting.{settled_at}

pub lead_positive : (b : List (List Term)) → AreEntries b → (i : ℕ) → i < length b → pos 0 <ℤ (lead_at b i).k
lead_positive [] all i h = absurd (omega (arith, h))
lead_positive (v ∷ b) all zero h = subst (λ (w : List Term). pos 0 <ℤ (lead_of w).k) (sym all.0.is) all.0.positive
lead_positive (v ∷ b) all (suc i) h = lead_positive b all.1 i (omega (arith, h))

pub number_divides : (k l : ℤ) → pos 0 <ℤ k → pos 0 <ℤ l → divides_number k l ≡ true → Divides k l
number_divides (pos k) (pos l) h g e = (divides_test (pos k) (pos l) h g).0 (ap pos (eqb-true (l % k) 0 e))
number_divides (negsuc k) l h g e = absurd (omega (arith, ints, h))
number_divides (pos k) (negsuc l) h g e = absurd (omega (arith, ints, g))

pub divides_tested : (k l : ℤ) → pos 0 <ℤ k → pos 0 <ℤ l → Divides k l → divides_number k l ≡ true
divides_tested (pos k) (pos l) h g e = let z : pos (l % k) ≡ pos 0 = (divides_test (pos k) (pos l) h g).1 e in let n : l % k ≡ 0 = cc in eq-eqb (l % k) 0 n
divides_tested (negsuc k) l h g e = absurd (omega (arith, ints, h))
divides_tested (pos k) (negsuc l) h g e = absurd (omega (arith, ints, g))

either_true : (a b : Bool) → (a || b) ≡ true → (a ≡ true) ⊎ (b ≡ true)
either_true true b e = inl refl
either_true false b e = inr e

not_same : (m n : ℕ) → m ≡ n → not (nat_eq m n) ≡ true → ⊥
not_same m n e t = let q = eq-eqb m n e in cc

-- a settled task of a pair is truly closed
pub settled_closed : (b : List (List Term)) → AreEntries b → (t : Task) → IsPair b t.i t.j → settled_at b t ≡ true → IsClosed b t.kind t.i t.j
settled_closed b all t pair e = by_kind t.kind refl where
  first : pos 0 <ℤ (lead_at b t.i).k
  first = let o = pair.order in let w = pair.within in lead_positive b all t.i (omega (arith, o, w))

  second : pos 0 <ℤ (lead_at b t.j).k
  second = lead_positive b all t.j pair.within

  divided : (divides_number (lead_at b t.i).k (lead_at b t.j).k || divides_number (lead_at b t.j).k (lead_at b t.i).k) ≡ true → IsClosedFromStart b G t.i t.j
  divided d = elim (either_true (divides_number (lead_at b t.i).k (lead_at b t.j).k) (divides_number (lead_at b t.j).k (lead_at b t.i).k) d) [
    | inl x ↦ inl (number_divides (lead_at b t.i).k (lead_at b t.j).k first second x)
    | inr x ↦ inr (number_divides (lead_at b t.j).k (lead_at b t.i).k second first x)
  ]

  settled : PairKind → Bool
  settled k = settled_of k (settled_by (lead_at b t.i) (lead_at b t.j))

  by_kind : (k : PairKind) → t.kind ≡ k → IsClosed b t.kind t.i t.j
  by_kind S s = absurd (not_same (lead_at b t.i).at.c (lead_at b t.j).at.c pair.component
      (sym (ap (λ (k : PairKind). settled_of k (settled_by (lead_at b t.i) (lead_at b t.j))) s) ∙ e))
  by_kind G g =
      let f : settled_of G (settled_by (lead_at b t.i) (lead_at b t.j)) ≡ true =
      sym (ap (λ (k : PairKind). settled_of k (settled_by (lead_at b t.i) (lead_at b t.j))) g) ∙ e in
      elim (either_true (not (nat_eq (lead_at b t.i).at.c (lead_at b t.j).at.c)) (divides_number (lead_at b t.i).k (lead_at b t.j).k || divides_number
      (lead_at b t.j).k (lead_at b t.i).k) f) [
        | inl x ↦ absurd (not_same (lead_at b t.i).at.c (lead_at b t.j).at.c pair.component x)
        | inr x ↦ subst (λ (k : PairKind). IsClosed b k t.i t.j) (sym g) (closed_from_start b all G t.i t.j pair (divided x))
      ]

pub first_never : (s : Bool) → is_never (first_state s) ≡ s
first_never true = refl
first_never false = refl

pub first_shut : (s : Bool) → is_unclosed (first_state s) ≡ false → s ≡ true
first_shut true h = refl
first_shut false h = cc

pub none_of : (es : List BasisEntry) → ((i : ℕ) (e : BasisEntry) → slice_get es i ≡ Some e → recipe_steps e.recipe ≡ 0) → steps_of es ≡ 0
none_of [] h = refl
none_of (e ∷ es) h =
    let c = sum_by-cons (λ (z : BasisEntry). recipe_steps z.recipe) e es in
    let first = h 0 e refl in
    let rest = none_of es (λ i x s. h (suc i) x s) in
    omega (arith, c, first, rest)

pub base_steps : (p : Presented) (es : List BasisEntry) → AreBase p es → (i : ℕ) (e : BasisEntry) → slice_get es i ≡ Some e → recipe_steps e.recipe ≡ 0
base_steps p es base i e s = ap recipe_steps (base.each i e s).recipe

lawful_base : (p : Presented) (es : List BasisEntry) → AreBase p es → AllByRecursion IsBasisEntry es → IsLawful p (length es) es
lawful_base p es base all = record {
  source = all_from (λ e. e.source ≡ p) es (λ i e s. (base.each i e s).source);
  entries = all;
  within = omega arith;
  begins = subst (λ (xs : List BasisEntry). AreBase p xs) (sym (take_whole es)) base;
  later = λ k e le s. let w = slice_get_within es k e s in absurd (omega (arith, le, w));
}

pub book_new : (p : Presented) (limits : Limits) (es : List BasisEntry) (tasks : Table) → AreBase p es → AllByRecursion IsBasisEntry es → AreNew es tasks
    → length es ≤ limits.entries → terms_of es ≤ limits.terms →
    tasks.order ≡ limits.order → tasks.room ≡ limits.entries → IsBook (record {
      source = p;
      limits = limits;
      base = length es;
      entries = es;
      tasks = tasks;
      commits = 0;
      seal = None;
    })
book_new p limits es tasks base all fresh few terms order room = record {
  lawful = lawful_base p es base all;
  short = all_from IsShort es (λ i e s. let z = base_steps p es base i e s in omega (arith, z));
  within = few;
  terms = terms;
  steps = let z = none_of es (base_steps p es base) in omega (arith, z);
  table = fresh.table;
  order = order;
  count = fresh.count;
  over = fresh.over;
  room = room;
  truly = λ t k c pair. settled_closed (vectors_of es) (are_entries es all) t pair
      (first_shut (settled_at (vectors_of es) t) (sym (ap is_unclosed (fresh.each t k)) ∙ c));
  settled = λ t k. ap is_never (fresh.each t k) ∙ first_never (settled_at (vectors_of es) t);
  commits = omega arith;
  seal = tt;
}

or_left : (a b : Bool) → a ≡ true → (a || b) ≡ true
or_left true b e = refl
or_left false b e = cc

or_right : (a b : Bool) → b ≡ true → (a || b) ≡ true
or_right true b e = refl
or_right false b e = e

-- the test of two leads is right
pub settled_right : (b : List (List Term)) → AreEntries b → (kind : PairKind) (i j : ℕ) → IsPair b i j
    → (settled_of kind (settled_by (lead_at b i) (lead_at b j)) ≡ true) ↔ IsClosedFromStart b kind i j
settled_right b all S i j pair = ((λ e. absurd (not_same (lead_at b i).at.c (lead_at b j).at.c pair.component e)), (λ h. absurd h))
settled_right b all G i j pair = (forth, back) where
  first : pos 0 <ℤ (lead_at b i).k
  first = let o = pair.order in let w = pair.within in lead_positive b all i (omega (arith, o, w))

  second : pos 0 <ℤ (lead_at b j).k
  second = lead_positive b all j pair.within

  one : Bool
  one = divides_number (lead_at b i).k (lead_at b j).k

  two : Bool
  two = divides_number (lead_at b j).k (lead_at b i).k

  apart : Bool
  apart = not (nat_eq (lead_at b i).at.c (lead_at b j).at.c)

  forth : (apart || (one || two)) ≡ true → IsClosedFromStart b G i j
  forth e = elim (either_true apart (one || two) e) [
    | inl x ↦ absurd (not_same (lead_at b i).at.c (lead_at b j).at.c pair.component x)
    | inr x ↦ elim (either_true one two x) [
      | inl y ↦ inl (number_divides (lead_at b i).k (lead_at b j).k first second y)
      | inr y ↦ inr
          (number_divides (lead_at b j).k (lead_at b i).k second first y)
    ]
  ]

  back : IsClosedFromStart b G i j → (apart || (one || two)) ≡ true
  back (inl d) = or_right apart (one || two) (or_left one two (divides_tested (lead_at b i).k (lead_at b j).k first second d))
  back (inr d) = or_right apart (one || two) (or_right one two (divides_tested (lead_at b j).k (lead_at b i).k second first d))

differs : (m n : ℕ) (x : Bool) → nat_eq m n ≡ x → (m ≡ n → ⊥) → not (nat_eq m n) ≡ true
differs m n true p ne = absurd (ne (eqb-true m n p))
differs m n false p ne = ap not p

pub settled_apart : (d e : Term) (kind : PairKind) → (d.at.c ≡ e.at.c → ⊥) → settled_of kind (settled_by d e) ≡ true
settled_apart d e S ne = differs d.at.c e.at.c (nat_eq d.at.c e.at.c) refl ne
settled_apart d e G ne = or_left (not (nat_eq d.at.c e.at.c)) (divides_number d.k e.k || divides_number e.k d.k)
    (differs d.at.c e.at.c (nat_eq d.at.c e.at.c) refl ne)

-- limits on entries and terms that no generator entries pass
pub within : (p : Presented) (limits : Limits) → IsPresented p → BASE ≤ limits.entries → BASE_TERMS ≤ limits.terms → AreWithin p limits
within p limits h many long es base = (omega (arith, base.few, many), omega (arith, few_terms p es h base, long))

-- what is true of one list of the generator entries is true of each
pub each_within : (p : Presented) (limits : Limits) (es : List BasisEntry) → AreBase p es → length es ≤ limits.entries → terms_of es ≤ limits.terms
    → AreWithin p limits
each_within p limits es base many long fs other = let like = bases_alike p es fs base other in (omega (arith, like.0, many), omega (arith, like.1, long))
