-- The leads of a list, and the reducer among them.
use Rattle.std.proofs.Common.{◌≡◌, ℕ, zero, suc, ◌+◌, ◌<◌, List, [], ◌∷◌, ◌++◌, length, map, take, refl, sym, ap, subst, ◌∙◌, arith}
use Rattle.std.proofs.lemmas.List.{map-append, length-map}
use Rattle.std.specs.Prelude.{Option, Some, None, slice_get}
use Rattle.module_vec.specs.declared.places.Place.{Place}
use Rattle.module_vec.specs.declared.places.Term.{Term}
use Rattle.module_vec.specs.Reducers.{AreEntries, Entry, FindsReducer}
use Rattle.reducer_index.specs.Leads.{lead_of, AreLeads, FindsLead}

pub leads_more : (b : List (List Term)) (es : List Term) (e : Term) (g : List Term) → AreLeads b es → AreLeads (b ++ (e ∷ g) ∷ []) (es ++ e ∷ [])
leads_more b es e g h = ap (λ (l : List Term). l ++ e ∷ []) h ∙ sym (map-append lead_of b ((e ∷ g) ∷ []))

-- ---- the leads of the first vectors of a list
take_next : (b : List (List Term)) (i : ℕ) (v : List Term) → slice_get b i ≡ Some v → take i b ++ v ∷ [] ≡ take (i + 1) b
take_next [] i v read = absurd cc
take_next (w ∷ b) zero v read = cc
take_next (w ∷ b) (suc i) v read =
    let next : suc (i + 1) ≡ suc i + 1 = omega arith in
    subst (λ (n : ℕ). w ∷ (take i b ++ v ∷ []) ≡ take n (w ∷ b)) next (ap (λ (l : List (List Term)). w ∷ l) (take_next b i v read))

lead_is : (v : List Term) (e : Term) → slice_get v 0 ≡ Some e → lead_of v ≡ e
lead_is [] e read = absurd cc
lead_is (f ∷ g) e read = cc

-- one more of them
pub taken_more : (b : List (List Term)) (i : ℕ) (es : List Term) (v : List Term) (e : Term) → slice_get b i ≡ Some v → slice_get v 0 ≡ Some e
    → AreLeads (take i b) es
    → AreLeads (take (i + 1) b) (es ++ e ∷ [])
taken_more b i es v e read lead are =
    (λ j. are j ++ sym (lead_is v e lead) j ∷ []) ∙ sym (map-append lead_of (take i b) (v ∷ [])) ∙ ap (map lead_of) (take_next b i v read)

-- ---- the first elements of a list
pub taken_read : {A : Type 0} (n : ℕ) (xs : List A) (i : ℕ) (x : A) → slice_get (take n xs) i ≡ Some x → (i < n) × (slice_get xs i ≡ Some x)
taken_read zero xs i x e = absurd cc
taken_read (suc n) [] i x e = absurd cc
taken_read (suc n) (y ∷ xs) zero x e = (omega arith, e)
taken_read (suc n) (y ∷ xs) (suc i) x e = let h = taken_read n xs i x e in (omega (arith, h.0), h.1)

pub read_taken : {A : Type 0} (n : ℕ) (xs : List A) (i : ℕ) (x : A) → i < n → slice_get xs i ≡ Some x → slice_get (take n xs) i ≡ Some x
read_taken zero xs i x lt e = absurd (omega (arith, lt))
read_taken (suc n) [] i x lt e = absurd cc
read_taken (suc n) (y ∷ xs) zero x lt e = e
read_taken (suc n) (y ∷ xs) (suc i) x lt e = read_taken n xs i x (omega (arith, lt)) e

pub entries_taken : (n : ℕ) (b : List (List Term)) → AreEntries b → AreEntries (take n b)
entries_taken zero b h = tt
entries_taken (suc n) [] h = tt
entries_taken (suc n) (v ∷ b) h = (h.0, entries_taken n b h.1)

leads_taken : (n : ℕ) (b : List (List Term)) → take n (map lead_of b) ≡ map lead_of (take n b)
leads_taken zero b = refl
leads_taken (suc n) [] = refl
leads_taken (suc n) (v ∷ b) = ap (λ (l : List Term). lead_of v ∷ l) (leads_taken n b)

-- ---- the lead of an entry, and the entry of a lead
lead_read : (b : List (List Term)) (i : ℕ) (e : Term) (g : List Term) → Entry b i e g → slice_get (map lead_of b) i ≡ Some e
lead_read [] i e g entry = absurd cc
lead_read (v ∷ b) zero e g entry = let same : v ≡ e ∷ g = cc in ap (λ (w : List Term). Some (lead_of w)) same
lead_read (v ∷ b) (suc i) e g entry = lead_read b i e g entry

entry_read : (b : List (List Term)) → AreEntries b → (i : ℕ) (e : Term) → slice_get (map lead_of b) i ≡ Some e → (g : List Term) × Entry b i e g
entry_read [] h i e read = absurd cc
entry_read (v ∷ b) h zero e read =
    let own : lead_of v ≡ e = cc in
    let lead : h.0.lead ≡ e = sym (ap lead_of h.0.is) ∙ own in
    (h.0.others, ap Some (h.0.is ∙ ap (λ (t : Term). t ∷ h.0.others) lead))
entry_read (v ∷ b) h (suc i) e read = entry_read b h.1 i e read

reducer_by : (b : List (List Term)) (p : Place) → AreEntries b → (r : Option ℕ) → FindsLead (map lead_of b) p r → FindsReducer b p r
reducer_by b p h None none = λ i e g entry reduces. none i e (lead_read b i e g entry) reduces
reducer_by b p h (Some i) (e, is) =
    let own = entry_read b h i e is.lead in (
      e,
      own.0,
      record {
        entry = own.1;
        reduces = is.reduces;
        first = λ j f g entry reduces. is.first j f (lead_read b j f g entry) reduces;
      },
    )

-- what is found among the leads is found among the vectors
pub reducer_of_leads : (b : List (List Term)) (es : List Term) (front : ℕ) (p : Place) (r : Option ℕ) → AreEntries b → AreLeads b es
    → FindsLead (take front es) p r → FindsReducer (take front b) p r
reducer_of_leads b es front p r entries are found =
    reducer_by (take front b) p (entries_taken front b entries) r
    (subst (λ (l : List Term). FindsLead l p r) (ap (take front) are ∙ leads_taken front b) found)

pub length-leads : (b : List (List Term)) (es : List Term) → AreLeads b es → length es ≡ length b
length-leads b es are = ap length are ∙ length-map b lead_of
