-- Vectors with positive leads, and lists of entries as lists of vectors.
use Rattle.std.proofs.Common.{◌≡◌, ◌≢◌, ℕ, Bool, true, false, ℤ, pos, negsuc, ◌*ℤ◌, MatchBool, List, [], ◌∷◌, refl, sym, ap, subst, ◌∙◌, arith}
use borrow.Author.Differences.{ints}
use Rattle.std.proofs.lemmas.Option.{slice_get-map}
use Rattle.std.specs.Int.{is_negative}
use Rattle.std.specs.List.{AllByRecursion}
use Rattle.std.specs.Option.{option_map}
use Rattle.std.specs.Prelude.{◌<ℤ◌, Some, slice_get}
use Rattle.presentation.specs.Presented.{Presented}
use Rattle.formal_sums.specs.FormalSum.{scale}
use Rattle.module_vec.specs.declared.places.Place.{Place}
use Rattle.module_vec.specs.declared.places.Term.{Term}
use Rattle.module_vec.specs.Reducers.{IsEntry, AreEntries}
use Rattle.module_vec.specs.Vectors.{sum_of, IsVector}
use Rattle.module_vec.proofs.Lookups.{turned_vector}
use Rattle.fox_calculus.specs.Module.{IsMember}
use Rattle.basis_entry.specs.Base.{has_negative_lead}
use Rattle.basis_entry.specs.Entries.{BasisEntry, IsBasisEntry, vectors_of}
use Rattle.basis_entry.proofs.Members.{member_scale}

-- ---- signs
is_below_zero : (z : ℤ) → is_negative z ≡ true → z <ℤ pos 0
is_below_zero z e = grind (arith, ints)

is_above_zero : (z : ℤ) → is_negative z ≡ false → z ≢ pos 0 → pos 0 <ℤ z
is_above_zero z e n = grind (arith, ints)

-- a vector whose lead coefficient isn't negative
pub positive_entry : (v : List Term) → IsVector v → v ≢ [] → has_negative_lead v ≡ false → IsEntry v
positive_entry [] is some sign = absurd (some refl)
positive_entry (e ∷ g) is some sign = record { vector = is; lead = e; others = g; is = refl; positive = is_above_zero e.k sign is.sparse.terms.0.nonzero }

abbrev same_pair : ℤ → Place → ℤ → Place → Type 0
same_pair a p b q = Path (ℤ × Place) (a, p) (b, q)

-- a vector with all signs turned, whose lead coefficient was negative
pub turned_entry : (v w : List Term) → IsVector v → v ≢ [] → has_negative_lead v ≡ true → sum_of w ≡ scale (negsuc 0) (sum_of v) → IsEntry w
turned_entry [] w is some sign turned = absurd (some refl)
turned_entry (e ∷ g) [] is some sign turned = absurd cc
turned_entry (e ∷ g) (f ∷ h) is some sign turned =
    let whole : (f.k, f.at) ∷ sum_of h ≡ (negsuc 0 *ℤ e.k, e.at) ∷ scale (negsuc 0) (sum_of g) = turned in
    let first : same_pair (f.k) (f.at) (negsuc 0 *ℤ e.k) (e.at) = cc in
    let own : f.k ≡ negsuc 0 *ℤ e.k = λ i. (first i).0 in
    let low : e.k <ℤ pos 0 = is_below_zero e.k sign in
    record { vector = turned_vector (e ∷ g) (f ∷ h) turned is; lead = f; others = h; is = refl; positive = omega (arith, ints, own, low) }

-- either way the vector lies in the module still
pub either_member : (p : Presented) (b : Bool) (v w : List Term) → MatchBool b (sum_of w ≡ scale (negsuc 0) (sum_of v)) (w ≡ v) → IsMember p (sum_of v)
    → IsMember p (sum_of w)
either_member p true v w e h = subst (IsMember p) (sym e) (member_scale p (negsuc 0) (sum_of v) h)
either_member p false v w e h = subst (λ (u : List Term). IsMember p (sum_of u)) (sym e) h

-- ---- lists of entries
pub are_entries : (es : List BasisEntry) → AllByRecursion IsBasisEntry es → AreEntries (vectors_of es)
are_entries [] h = tt
are_entries (e ∷ es) h = (h.0.entry, are_entries es h.1)

pub read_vector : (es : List BasisEntry) (at : ℕ) (e : BasisEntry) (v : List Term) → slice_get es at ≡ Some e → v ≡ e.vector
    → slice_get (vectors_of es) at ≡ Some v
read_vector es at e v read is = slice_get-map (λ (x : BasisEntry). x.vector) es at ∙ ap (option_map (λ (x : BasisEntry). x.vector)) read ∙ ap Some (sym is)
