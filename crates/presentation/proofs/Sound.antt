-- What is read is in the grammar.
use Rattle.std.proofs.Common.{◌≡◌, ℕ, zero, suc, ◌<◌, ◌≤◌, Bool, true, false, nat_le, nat_lt, List, [], ◌∷◌, ◌++◌, length, drop, Ok, Err, refl, sym, ◌∙◌, ap}
use Rattle.std.proofs.Common.{subst, append_assoc, length-append, arith, if◌then◌else◌}
use Rattle.std.specs.List.{list_any}
use Rattle.std.specs.Str.{bytes_eq}
use Rattle.std.proofs.lemmas.Bool.Decides.{nat_tests}
use Rattle.free_words.specs.declared.letter.Letter.{Letter}
use Rattle.free_words.specs.declared.TheConstants.{GENERATORS, WRITTEN}
use Rattle.free_words.specs.Words.{inverse}
use Rattle.word_text.specs.declared.fault.TextKind.TheVariants.{TooManyNames, RepeatedName, TooManyRelators, WordTooLong}
use Rattle.word_text.specs.declared.scan.Mark.{Mark}
use Rattle.word_text.specs.declared.scan.Mark.TheVariants as marks
use Rattle.word_text.specs.Scan.{first_is, after_blanks, name_at, after_name, mark_of}
use Rattle.word_text.specs.Machine.{Find, word_at}
use Rattle.word_text.specs.declared.machine.Spot.{Spot}
use Rattle.word_text.specs.Grammar.{Product, Spelled}
use Rattle.word_text.proofs.Reached.{word_spelled}
use Rattle.presentation.specs.declared.TheConstants.{RELATORS}
use Rattle.presentation.specs.Presented.{AreDistinct}
use Rattle.presentation.specs.Reading.{new_name, name_on, name_behind, names_from, quotient, equation_at, relator_at, relators_from, relators_at}
use Rattle.presentation.specs.Grammar.{NameAt, NamesAt, RelatorAt, SomeRelatorsAt, RelatorsAt}
use Rattle.presentation.proofs.Steps.{bind_ok, ok_is, guard_ok}
use Rattle.presentation.proofs.Distinct.{distinct_push}

not_past : (m n : ℕ) → nat_lt m n ≡ false → n ≤ m
not_past m n e = grind (arith, nat_tests)

below : (m n : ℕ) → nat_le m n ≡ false → n < m
below m n e = grind (arith, nat_tests)

-- a name was read behind others
pub record Named (seen : List (List ℕ)) (bs name rest : List ℕ) : Type 0 where
  pub stands : NameAt bs name rest
  pub room : length seen < GENERATORS
  pub new : list_any (bytes_eq name) seen ≡ false

on_letter : (m : Mark) (seen : List (List ℕ)) (bs : List ℕ) (x : List ℕ × List ℕ) → name_on m seen bs ≡ Ok x → (m ≡ marks.Letter) × (new_name seen bs ≡ Ok x)
on_letter marks.Letter seen bs x e = (refl, e)
on_letter marks.One seen bs x e = cc
on_letter marks.Round seen bs x e = cc
on_letter marks.Square seen bs x e = cc
on_letter marks.Star seen bs x e = cc
on_letter marks.Bad seen bs x e = cc
on_letter marks.Other seen bs x e = cc

-- what is known of a new name
new_ok : (seen : List (List ℕ)) (bs : List ℕ) (x : List ℕ × List ℕ) → new_name seen bs ≡ Ok x
    → (length seen < GENERATORS) × (list_any (bytes_eq (name_at bs)) seen ≡ false) × ((name_at bs, after_name bs) ≡ x)
new_ok seen bs x e =
    let g = guard_ok (nat_le GENERATORS (length seen)) (record { kind = TooManyNames; left = length bs })
    (if list_any (bytes_eq (name_at bs)) seen then Err (record { kind = RepeatedName; left = length bs }) else Ok (name_at bs, after_name bs)) x e in
    let h = guard_ok (list_any (bytes_eq (name_at bs)) seen) (record { kind = RepeatedName; left = length bs }) (Ok (name_at bs, after_name bs)) x g.1 in
    (below GENERATORS (length seen) g.0, h.0, ok_is (name_at bs, after_name bs) x h.1)

pub name_sound : (seen : List (List ℕ)) (bs name rest : List ℕ) → name_behind seen bs ≡ Ok (name, rest) → Named seen bs name rest
unfolding name_behind
name_sound seen bs name rest e =
    let here = after_blanks bs in
    let x = bind_ok (name_on (mark_of here) seen here) (λ (x : List ℕ × List ℕ). Ok (x.0, after_blanks x.1)) (name, rest) e in
    let l = on_letter (mark_of here) seen here x.0 x.1 in
    let n = new_ok seen here x.0 l.1 in
    let p : (x.0.0, after_blanks x.0.1) ≡ (name, rest) = ok_is _ _ x.2 in
    let is : name_at here ≡ name = ap (λ (y : List ℕ × List ℕ). y.0) n.2 ∙ ap (λ (y : List ℕ × List ℕ). y.0) p in
    let leaves : after_blanks (after_name here) ≡ rest = ap (λ (y : List ℕ × List ℕ). after_blanks y.1) n.2 ∙ ap (λ (y : List ℕ × List ℕ). y.1) p in
    record { stands = record { begins = l.0; is = sym is; leaves = sym leaves }; room = n.0; new = rw is at n.1 }

-- names were read behind others
pub record NewNames (seen : List (List ℕ)) (bs : List ℕ) (all : List (List ℕ)) (rest : List ℕ) : Type 0 where
  pub new : List (List ℕ)
  pub are : all ≡ seen ++ new
  pub stand : NamesAt bs new rest
  pub few : length all ≤ GENERATORS
  pub distinct : AreDistinct seen → AreDistinct all

names_more : (bs n mid : List ℕ) (ns : List (List ℕ)) (rest : List ℕ) → NameAt bs n mid → first_is 44 mid ≡ true → NamesAt (drop 1 mid) ns rest
    → NamesAt bs (n ∷ ns) rest
names_more bs n mid [] rest a t h = absurd h
names_more bs n mid (m ∷ ns) rest a t h = (mid, a, t, h)

names_by : (n : ℕ) (seen : List (List ℕ)) (bs name mid : List ℕ) (all : List (List ℕ)) (rest : List ℕ) (b : Bool) → first_is 44 mid ≡ b
    → Named seen bs name mid
    → (if b then names_from n (seen ++ name ∷ []) (drop 1 mid) else Ok (seen ++ name ∷ [], mid)) ≡ Ok (all, rest)
    → (names_from n (seen ++ name ∷ []) (drop 1 mid) ≡ Ok (all, rest) → NewNames (seen ++ name ∷ []) (drop 1 mid) all rest)
    → NewNames seen bs all rest
names_by n seen bs name mid all rest true t h e goes =
    let g = goes e in
    record {
      new = name ∷ g.new;
      are = g.are ∙ append_assoc seen (name ∷ []) g.new;
      stand = names_more bs name mid g.new rest h.stands t g.stand;
      few = g.few;
      distinct = λ d. g.distinct (distinct_push seen name d h.new);
    }
names_by n seen bs name mid all rest false t h e goes =
    let p = ok_is {A = List (List ℕ) × List ℕ} (seen ++ name ∷ [], mid) (all, rest) e in
    let is : seen ++ name ∷ [] ≡ all = ap (λ (x : List (List ℕ) × List ℕ). x.0) p in
    let leaves : mid ≡ rest = ap (λ (x : List (List ℕ) × List ℕ). x.1) p in
    record {
      new = name ∷ [];
      are = sym is;
      stand = rw leaves at h.stands;
      few = rw (← is) (omega (arith, length-append seen (name ∷ []), h.room));
      distinct = λ d. rw is at (distinct_push seen name d h.new);
    }

pub names_sound : (n : ℕ) (seen : List (List ℕ)) (bs : List ℕ) (all : List (List ℕ)) (rest : List ℕ) → names_from n seen bs ≡ Ok (all, rest)
    → NewNames seen bs all rest
unfolding names_from
names_sound zero seen bs all rest e = cc
names_sound (suc n) seen bs all rest e =
    let x = bind_ok (name_behind seen bs) (λ (x : List ℕ × List ℕ). if first_is 44 x.1 then names_from n (seen ++ x.0 ∷ []) (drop 1 x.1) else Ok
    (seen ++ x.0 ∷ [], x.1)) (all, rest) e in
    names_by n seen bs x.0.0 x.0.1 all rest (first_is 44 x.0.1) refl (name_sound seen bs x.0.0 x.0.1 x.1) x.2
    (λ g. names_sound n (seen ++ x.0.0 ∷ []) (drop 1 x.0.1) all rest g)

quotient_ok : (start : ℕ) (u v w : List Letter) → quotient start u v ≡ Ok w → (length (u ++ inverse v) ≤ WRITTEN) × (u ++ inverse v ≡ w)
quotient_ok start u v w e =
    let g = guard_ok (nat_lt WRITTEN (length (u ++ inverse v))) (record { kind = WordTooLong; left = start }) (Ok (u ++ inverse v)) w e in
    (not_past WRITTEN (length (u ++ inverse v)) g.0, ok_is (u ++ inverse v) w g.1)

-- a relator is a word or an equation
equation_by : (find : Find) (s : Spot) (bs mid : List ℕ) (u v w : List Letter) (rest : List ℕ) → Spelled find (Product s) (after_blanks bs) u mid
    → first_is 61 mid ≡ true → word_at find (drop 1 mid) ≡ Ok (v, rest) → quotient (length mid) u v ≡ Ok w → RelatorAt find bs w rest
equation_by find s bs mid u v w rest h t e q =
    let k = word_spelled find (drop 1 mid) v rest e in
    let g = quotient_ok (length mid) u v w q in
    subst (λ (x : List Letter). RelatorAt find bs x rest) g.1 (RelatorAt.equation s k.0 bs mid rest u v h t k.1 g.0)

equation_sound : (find : Find) (s : Spot) (bs mid : List ℕ) (u w : List Letter) (rest : List ℕ) → Spelled find (Product s) (after_blanks bs) u mid
    → first_is 61 mid ≡ true → equation_at find u mid ≡ Ok (w, rest) → RelatorAt find bs w rest
unfolding equation_at
equation_sound find s bs mid u w rest h t e =
    let v = bind_ok (word_at find (drop 1 mid)) _ (w, rest) e in
    let q = bind_ok (quotient (length mid) u v.0.0) _ (w, rest) v.2 in
    subst (λ (x : List Letter × List ℕ). RelatorAt find bs x.0 x.1) (ok_is _ (w, rest) q.2)
    (equation_by find s bs mid u v.0.0 q.0 v.0.1 h t v.1 q.1)

relator_by : (find : Find) (s : Spot) (bs mid : List ℕ) (u w : List Letter) (rest : List ℕ) (b : Bool) → first_is 61 mid ≡ b
    → Spelled find (Product s) (after_blanks bs) u mid → (if b then equation_at find u mid else Ok (u, mid)) ≡ Ok (w, rest) → RelatorAt find bs w rest
relator_by find s bs mid u w rest true t h e = equation_sound find s bs mid u w rest h t e
relator_by find s bs mid u w rest false t h e =
    let p = ok_is {A = List Letter × List ℕ} (u, mid) (w, rest) e in
    subst (λ (x : List Letter × List ℕ). RelatorAt find bs x.0 x.1) p (RelatorAt.word s bs mid u h)

pub relator_sound : (find : Find) (bs : List ℕ) (w : List Letter) (rest : List ℕ) → relator_at find bs ≡ Ok (w, rest) → RelatorAt find bs w rest
unfolding relator_at
relator_sound find bs w rest e =
    let u = bind_ok (word_at find bs) (λ (u : List Letter × List ℕ). if first_is 61 u.1 then equation_at find u.0 u.1 else Ok u) (w, rest) e in
    let h = word_spelled find bs u.0.0 u.0.1 u.1 in
    relator_by find h.0 bs u.0.1 u.0.0 w rest (first_is 61 u.0.1) refl h.1 u.2

-- relators were read behind others
pub record NewRelators (find : Find) (before : List (List Letter)) (bs : List ℕ) (all : List (List Letter)) (rest : List ℕ) : Type 0 where
  pub new : List (List Letter)
  pub are : all ≡ before ++ new
  pub stand : SomeRelatorsAt find bs new rest
  pub few : length before < RELATORS → length all ≤ RELATORS

relators_more : (find : Find) (bs mid : List ℕ) (r : List Letter) (rs : List (List Letter)) (rest : List ℕ) → RelatorAt find bs r mid → first_is 44 mid ≡ true
    → SomeRelatorsAt find (drop 1 mid) rs rest → SomeRelatorsAt find bs (r ∷ rs) rest
relators_more find bs mid r [] rest a t h = absurd h
relators_more find bs mid r (q ∷ rs) rest a t h = (mid, a, t, h)

relators_by : (n : ℕ) (find : Find) (before : List (List Letter)) (bs mid : List ℕ) (r : List Letter) (all : List (List Letter)) (rest : List ℕ) (b : Bool)
    → first_is 44 mid ≡ b → RelatorAt find bs r mid
    → (if b then (if nat_le RELATORS (length (before ++ r ∷ [])) then Err (record { kind = TooManyRelators; left = length mid })
    else relators_from n find (before ++ r ∷ []) (drop 1 mid)) else Ok (before ++ r ∷ [], mid)) ≡ Ok (all, rest)
    → (relators_from n find (before ++ r ∷ []) (drop 1 mid) ≡ Ok (all, rest) → NewRelators find (before ++ r ∷ []) (drop 1 mid) all rest)
    → NewRelators find before bs all rest
relators_by n find before bs mid r all rest true t h e goes =
    let c = guard_ok (nat_le RELATORS (length (before ++ r ∷ []))) (record { kind = TooManyRelators; left = length mid })
    (relators_from n find (before ++ r ∷ []) (drop 1 mid)) (all, rest) e in
    let g = goes c.1 in
    record {
      new = r ∷ g.new;
      are = g.are ∙ append_assoc before (r ∷ []) g.new;
      stand = relators_more find bs mid r g.new rest h t g.stand;
      few = λ lt. g.few (below RELATORS (length (before ++ r ∷ [])) c.0);
    }
relators_by n find before bs mid r all rest false t h e goes =
    let p = ok_is {A = List (List Letter) × List ℕ} (before ++ r ∷ [], mid) (all, rest) e in
    let is : before ++ r ∷ [] ≡ all = ap (λ (x : List (List Letter) × List ℕ). x.0) p in
    let leaves : mid ≡ rest = ap (λ (x : List (List Letter) × List ℕ). x.1) p in
    record {
      new = r ∷ [];
      are = sym is;
      stand = rw leaves at h;
      few = λ lt. rw (← is) (omega (arith, length-append before (r ∷ []), lt));
    }

pub some_relators_sound : (n : ℕ) (find : Find) (before : List (List Letter)) (bs : List ℕ) (all : List (List Letter)) (rest : List ℕ)
    → relators_from n find before bs ≡ Ok (all, rest) → NewRelators find before bs all rest
unfolding relators_from
some_relators_sound zero find before bs all rest e = cc
some_relators_sound (suc n) find before bs all rest e =
    let r = bind_ok (relator_at find bs) (λ (r : List Letter × List ℕ). if first_is 44 r.1
    then (if nat_le RELATORS (length (before ++ r.0 ∷ [])) then Err (record { kind = TooManyRelators; left = length r.1 })
    else relators_from n find (before ++ r.0 ∷ []) (drop 1 r.1)) else Ok (before ++ r.0 ∷ [], r.1)) (all, rest) e in
    relators_by n find before bs r.0.1 r.0.0 all rest (first_is 44 r.0.1) refl (relator_sound find bs r.0.0 r.0.1 r.1) r.2
    (λ g. some_relators_sound n find (before ++ r.0.0 ∷ []) (drop 1 r.0.1) all rest g)

some_stand : (find : Find) (bs : List ℕ) (rs : List (List Letter)) (rest : List ℕ) → first_is 62 (after_blanks bs) ≡ false → SomeRelatorsAt find bs rs rest
    → RelatorsAt find bs rs rest
some_stand find bs [] rest f h = absurd h
some_stand find bs (r ∷ rs) rest f h = (f, h)

relators_at_by : (find : Find) (bs : List ℕ) (rs : List (List Letter)) (rest : List ℕ) (b : Bool) → first_is 62 (after_blanks bs) ≡ b
    → (if b then Ok ([], after_blanks bs) else relators_from RELATORS find [] bs) ≡ Ok (rs, rest) → RelatorsAt find bs rs rest × (length rs ≤ RELATORS)
relators_at_by find bs rs rest true t e =
    let p = ok_is {A = List (List Letter) × List ℕ} ([], after_blanks bs) (rs, rest) e in
    let is : [] ≡ rs = ap (λ (x : List (List Letter) × List ℕ). x.0) p in
    let leaves : after_blanks bs ≡ rest = ap (λ (x : List (List Letter) × List ℕ). x.1) p in
    rw (← is) ((t, sym leaves), omega arith)
relators_at_by find bs rs rest false t e =
    let g = some_relators_sound RELATORS find [] bs rs rest e in
    (some_stand find bs rs rest t (rw (← g.are) at g.stand), g.few (omega arith))

pub relators_sound : (find : Find) (bs : List ℕ) (rs : List (List Letter)) (rest : List ℕ) → relators_at find bs ≡ Ok (rs, rest)
    → RelatorsAt find bs rs rest × (length rs ≤ RELATORS)
unfolding relators_at
relators_sound find bs rs rest e = relators_at_by find bs rs rest (first_is 62 (after_blanks bs)) refl e
