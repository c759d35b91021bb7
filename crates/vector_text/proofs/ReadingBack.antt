-- What is written is read back.
use Rattle.std.proofs.Common.{◌≡◌, ℕ, List, length, Result, Ok, Err, sym, ◌∙◌}
use Rattle.presentation.specs.Presented.{Presented, IsPresented}
use Rattle.presentation.proofs.WritingBack.{names_of}
use Rattle.laurent_terms.specs.Monomials.{IsMonomial}
use Rattle.module_vec.specs.Places.{IsPlace}
use Rattle.module_vec.specs.Vectors.{IsVector}
use Rattle.module_vec.specs.declared.places.Place.{Place}
use Rattle.module_vec.specs.declared.places.Term.{Term}
use Rattle.vector_text.specs.declared.fault.SpellFault.{SpellFault}
use Rattle.vector_text.specs.declared.fault.SpellFault.TheVariants.{Spelling, NoMemory}
use Rattle.vector_text.specs.Spelling.{monomial_text, place_text, vector_text}
use Rattle.vector_text.specs.Over.{MonoIsOver, PlaceIsOver, VectorIsOver, IsMonoOf, IsPlaceOf, IsVectorOf}
use Rattle.vector_text.specs.Reading.{Reads, ReadBack, IsReadBack}
use Rattle.vector_text.proofs.MonomialTexts.{monomial_same}
use Rattle.vector_text.proofs.PlaceTexts.{place_same}
use Rattle.vector_text.proofs.VectorTexts.{vector_same}

back : {X : Type 0} (spelling : X → List ℕ) (IsValid : X → Type 0) → ((x y : X) → IsValid x → IsValid y → spelling x ≡ spelling y → x ≡ y)
    → (x : X) (text : List ℕ) → IsValid x → text ≡ spelling x → (read : Result X SpellFault) → Reads spelling IsValid text read → ReadBack x read
back spelling IsValid one x text h e (Ok y) r = one y x r.0 h (sym r.1 ∙ e)
back spelling IsValid one x text h e (Err Spelling) r = r x h e
back spelling IsValid one x text h e (Err NoMemory) r = tt

pub one_monomial : (p : Presented) (s t : List ℕ) → IsPresented p → IsMonoOf (length p.names) s → IsMonoOf (length p.names) t
    → monomial_text p.names s ≡ monomial_text p.names t → s ≡ t
one_monomial p s t known h k e = monomial_same p.names (names_of p known) s t h k e

pub one_place : (p : Presented) (x y : Place) → IsPresented p → IsPlaceOf (length p.names) x → IsPlaceOf (length p.names) y
    → place_text p.names x ≡ place_text p.names y → x ≡ y
one_place p x y known h k e = place_same p.names (names_of p known) x y h k e

pub one_vector : (p : Presented) (v w : List Term) → IsPresented p → IsVectorOf (length p.names) v → IsVectorOf (length p.names) w
    → vector_text p.names v ≡ vector_text p.names w → v ≡ w
one_vector p v w known h k e = vector_same p.names (names_of p known) v w h k e

pub monomial_back : (p : Presented) (s text : List ℕ) → IsPresented p → IsMonomial s → MonoIsOver (length p.names) s → text ≡ monomial_text p.names s
    → IsReadBack (monomial_text p.names) (IsMonoOf (length p.names)) s text
monomial_back p s text known mono over e =
    back (monomial_text p.names) (IsMonoOf (length p.names)) (λ x y a b f. one_monomial p x y known a b f) s text (record { mono = mono; over = over }) e

pub place_back : (p : Presented) (x : Place) (text : List ℕ) → IsPresented p → IsPlace x → PlaceIsOver (length p.names) x → text ≡ place_text p.names x
    → IsReadBack (place_text p.names) (IsPlaceOf (length p.names)) x text
place_back p x text known place over e =
    back (place_text p.names) (IsPlaceOf (length p.names)) (λ y z a b f. one_place p y z known a b f) x text (record { place = place; over = over }) e

pub vector_back : (p : Presented) (v : List Term) (text : List ℕ) → IsPresented p → IsVector v → VectorIsOver (length p.names) v → text ≡ vector_text p.names v
    → IsReadBack (vector_text p.names) (IsVectorOf (length p.names)) v text
vector_back p v text known vector over e =
    back (vector_text p.names) (IsVectorOf (length p.names)) (λ x y a b f. one_vector p x y known a b f) v text (record { vector = vector; over = over }) e
