-- Lists that grow by an element.
use Rattle.std.proofs.Common.{◌≡◌, ◌≢◌, append-nil, ℕ, zero, suc, ◌+◌, ◌<◌, List, [], ◌∷◌, ◌++◌, length, map, take, get_or, length-append, ◌⊎◌, inl, inr, refl}
use Rattle.std.proofs.Common.{sym, ap, subst, ◌∙◌, arith}
use Rattle.std.proofs.lemmas.List.{take_more, map-append}
use Rattle.std.specs.List.{AllByRecursion}
use Rattle.std.specs.Prelude.{Some, slice_get}
use Rattle.presentation.specs.Presented.{Presented, IsPresented}
use Rattle.module_vec.specs.declared.places.Term.{Term}
use Rattle.module_vec.specs.Modules.{vector_at}
use Rattle.module_vec.specs.Vectors.{sum_of}
use Rattle.module_vec.proofs.Scans.{read_push}
use Rattle.vector_text.specs.Over.{VectorIsOver}
use Rattle.fox_calculus.specs.Generators.{AreGenerators}
use Rattle.fox_calculus.specs.Module.{IsMember}
use Rattle.basis_entry.specs.declared.TheConstants.{BASE}
use Rattle.basis_entry.specs.Base.{IsOfGenerator, AreBase}
use Rattle.basis_entry.specs.Entries.{BasisEntry}
use Rattle.basis_entry.proofs.Generators.{generator_some, generator_member, few_generators}
use Rattle.basis_entry.proofs.Over.{generator_over}

pub all_more : {X : Type 0} (P : X → Type 0) (xs : List X) (x : X) → AllByRecursion P xs → P x → AllByRecursion P (xs ++ x ∷ [])
all_more P [] x h own = (own, tt)
all_more P (y ∷ xs) x h own = (h.0, all_more P xs x h.1 own)

-- one more element of the same meaning
pub map_more : {A B : Type 0} (f : A → B) (xs made : List A) (i : ℕ) (x y : A) → i < length xs → x ≡ get_or xs i x → map f made ≡ map f (take i xs) → f y ≡ f x
    → map f (made ++ y ∷ []) ≡ map f (take (i + 1) xs)
map_more f xs made i x y lt read so same =
    map-append f made (y ∷ []) ∙ (λ j. so j ++ same j ∷ [])
    ∙ ap (λ z. map f (take i xs) ++ f z ∷ []) read
    ∙ sym (ap (map f) (take_more xs i x lt) ∙ map-append f (take i xs) (get_or xs i x ∷ []))

pub vector_before : (gs : List (List Term)) (g : List Term) (i : ℕ) → i < length gs → vector_at (gs ++ g ∷ []) i ≡ vector_at gs i
vector_before [] g i lt = absurd (omega (arith, lt))
vector_before (h ∷ gs) g zero lt = refl
vector_before (h ∷ gs) g (suc i) lt = vector_before gs g i (omega (arith, lt))

pub vector_behind : (gs hs : List (List Term)) (g : List Term) → vector_at (gs ++ g ∷ hs) (length gs) ≡ g
vector_behind [] hs g = refl
vector_behind (h ∷ gs) hs g = vector_behind gs hs g

-- the entries of these generators
pub record AreOfGenerators (p : Presented) (gs : List (List Term)) (es : List BasisEntry) : Type 0 where
  pub count : length es ≡ length gs
  pub each : (i : ℕ) (e : BasisEntry) → slice_get es i ≡ Some e → IsOfGenerator p i (vector_at gs i) e

pub of_none : (p : Presented) → AreOfGenerators p [] []
of_none p = record { count = refl; each = λ i e read. absurd cc }

-- one more of them
pub of_more : (p : Presented) (gs : List (List Term)) (es : List BasisEntry) (g : List Term) (e : BasisEntry) → AreOfGenerators p gs es
    → IsOfGenerator p (length gs) g e
    → AreOfGenerators p (gs ++ g ∷ []) (es ++ e ∷ [])
of_more p gs es g e h own = record {
  count = omega (arith, h.count, length-append es (e ∷ []), length-append gs (g ∷ []));
  each = λ i f read. by i f (read_push e es i f read);
}
  where
    by : (i : ℕ) (f : BasisEntry) → ((slice_get es i ≡ Some f) × (i < length es)) ⊎ ((i ≡ length es) × (e ≡ f))
        → IsOfGenerator p i (vector_at (gs ++ g ∷ []) i) f
    by i f (inl old) =
        let lt : i < length gs = omega (arith, old.1, h.count) in
        subst (λ (v : List Term). IsOfGenerator p i v f) (sym (vector_before gs g i lt)) (h.each i f old.0)
    by i f (inr new) =
        let last : length gs ≡ i = sym (new.0 ∙ h.count) in
        subst (λ (n : ℕ). IsOfGenerator p n (vector_at (gs ++ g ∷ []) n) f) last
        (subst (λ (v : List Term). IsOfGenerator p (length gs) v f) (sym (vector_behind gs [] g)) (subst (IsOfGenerator p (length gs) g) new.1 own))

-- ---- a list of generators, some of which were taken
next_within : (gens done rest : List (List Term)) (g : List Term) → done ++ g ∷ rest ≡ gens → length done < length gens
next_within gens done rest g is = omega (arith, ap length is, length-append done (g ∷ rest))

next_is : (gens done rest : List (List Term)) (g : List Term) → done ++ g ∷ rest ≡ gens → vector_at gens (length done) ≡ g
next_is gens done rest g is = subst (λ (b : List (List Term)). vector_at b (length done) ≡ g) is (vector_behind done rest g)

module _ (p : Presented) (gens done rest : List (List Term)) (g : List Term) (is : done ++ g ∷ rest ≡ gens) (are : AreGenerators p gens) where
  pub next_some : g ≢ []
  next_some e = generator_some p gens are (length done) (next_within gens done rest g is) (next_is gens done rest g is ∙ e)

  pub next_member : IsMember p (sum_of g)
  next_member = subst (λ (v : List Term). IsMember p (sum_of v)) (next_is gens done rest g is)
      (generator_member p gens are (length done) (next_within gens done rest g is))

  pub next_over : IsPresented p → VectorIsOver (length p.names) g
  next_over known = subst (VectorIsOver (length p.names)) (next_is gens done rest g is)
      (generator_over p gens known are (length done) (next_within gens done rest g is))

  pub next_few : IsPresented p → length done < BASE
  next_few h = omega (arith, next_within gens done rest g is, few_generators p gens h are)

-- when all were taken
pub all_taken : (p : Presented) (gens done rest : List (List Term)) (es : List BasisEntry) → IsPresented p → AreGenerators p gens → done ++ rest ≡ gens
    → length rest ≡ 0 → AreOfGenerators p done es → AreBase p es
all_taken p gens done [] es h are split none of =
    let is : done ≡ gens = sym (append-nil done) ∙ split in
    let all : AreOfGenerators p gens es = subst (λ (gs : List (List Term)). AreOfGenerators p gs es) is of in
    record { gens = gens; generators = are; count = all.count; few = omega (arith, all.count, few_generators p gens h are); each = all.each }
all_taken p gens done (g ∷ rest) es h are split none of = absurd (omega (arith, none))
