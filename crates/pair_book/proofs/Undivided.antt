-- No lead of a list divides that of a rest which the work of a task leaves.
use Rattle.std.proofs.Common.{ℕ, zero, suc, ◌<◌, ◌≡◌, ◌≢◌, arith, refl, sym, ap, ◌∙◌, List, [], ◌∷◌, length, Bool, true, false, subst, MatchBool, ℤ}
use Rattle.std.proofs.Common.{pos, negsuc, ◌*ℤ◌}
use borrow.Author.Differences.{ints}
use Rattle.std.specs.Prelude.{◌<ℤ◌, ◌≤ℤ◌}
use Rattle.formal_sums.specs.FormalSum.{scale}
use Rattle.presentation.specs.Presented.{Presented}
use Rattle.module_vec.specs.declared.places.Term.{Term}
use Rattle.module_vec.specs.Modules.{vector_at}
use Rattle.module_vec.specs.Reducers.{AreEntries, IsEntry}
use Rattle.module_vec.specs.Vectors.{sum_of, coefficient_at, IsVector}
use Rattle.module_vec.proofs.Lookups.{coefficient_read}
use Rattle.outcomes.specs.declared.tasks.Task.{Task}
use Rattle.strong_pairs.specs.Pairs.{lead_of, lead_at}
use Rattle.strong_pairs.proofs.Entered.{as_entry, behind}
use Rattle.strong_pairs.proofs.Exactness.{at_end}
use Rattle.basis_entry.specs.Base.{has_negative_lead}
use Rattle.basis_entry.proofs.Vectors.{positive_entry, turned_entry}
use Rattle.basis_entry.specs.Entries.{BasisEntry}
use Rattle.pair_book.specs.Logs.{DividesLead}
use Rattle.pair_work.specs.Works.{LeavesRest}
use Rattle.pair_work.proofs.Turning.{at_turned}

none_below : (a l q : ℤ) → pos 0 ≤ℤ a → a <ℤ l → a ≡ q *ℤ l → a ≡ pos 0
none_below a (pos l) (pos zero) n h e = omega (arith, ints, e)
none_below a (pos l) (pos (suc q)) n h e = absurd (omega (arith, ints, e, h, n))
none_below a (pos l) (negsuc q) n h e = absurd (omega (arith, ints, e, h, n))
none_below a (negsuc l) q n h e = absurd (omega (arith, ints, n, h))

-- the coefficient of the rest at the lead of its entry
at_lead : (negated : Bool) (w v : List Term) → IsEntry v → MatchBool negated (sum_of v ≡ scale (negsuc 0) (sum_of w)) (v ≡ w)
    → pos 0 ≤ℤ coefficient_at w (lead_of v).at → (coefficient_at w (lead_of v).at ≡ (lead_of v).k) × (pos 0 <ℤ (lead_of v).k)
at_lead negated w [] is e from = let wrong = is.is in absurd cc
at_lead negated w (t ∷ v) is e from = (by negated e, positive)
  where
    same : is.lead ≡ t
    same = let whole : t ∷ v ≡ is.lead ∷ is.others = is.is in cc

    positive : pos 0 <ℤ t.k
    positive = subst (λ (u : Term). pos 0 <ℤ u.k) same is.positive

    own : coefficient_at (t ∷ v) t.at ≡ t.k
    own = coefficient_read (t ∷ v) 0 t (omega arith) is.vector.sparse.falling

    by : (negated : Bool) → MatchBool negated (sum_of (t ∷ v) ≡ scale (negsuc 0) (sum_of w)) (t ∷ v ≡ w) → coefficient_at w t.at ≡ t.k
    by true e = let turns = at_turned w (t ∷ v) e t.at in absurd (omega (arith, ints, turns, own, positive, from))
    by false e = sym (ap (λ (u : List Term). coefficient_at u t.at) e) ∙ own

entry_of : (negated : Bool) (w v : List Term) → IsVector w → w ≢ [] → has_negative_lead w ≡ negated
    → MatchBool negated (sum_of v ≡ scale (negsuc 0) (sum_of w)) (v ≡ w) → IsEntry v
entry_of true w v vector some sign e = turned_entry w v vector some sign e
entry_of false w v vector some sign e = subst IsEntry (sym e) (positive_entry w vector some sign)

pub undivided : (p : Presented) (b : List (List Term)) (t : Task) (e : BasisEntry) → AreEntries b → LeavesRest p b t e → (m : ℕ) → m < length b
    → DividesLead (lead_at b m) (lead_of e.vector) → ⊥
undivided p b t e entries r m lt (reduces, (factor, divides)) =
    let entry = entry_of (has_negative_lead r.rest) r.rest e.vector r.reduces.rest.vector r.some refl r.entry.vector in
    let place = (lead_of e.vector).at in
    let f = coefficient_at r.rest in
    let small = at_end b entries f r.reduces.rest.end place m (lead_at b m) (behind (vector_at b m)) (as_entry b entries m lt) reduces in
    let own = at_lead (has_negative_lead r.rest) r.rest e.vector entry r.entry.vector small.0 in
    let none = none_below (f place) (lead_at b m).k factor small.0 small.1 (own.0 ∙ divides) in
    let k = own.0 in
    let positive = own.1 in
    omega (arith, ints, none, k, positive)
