-- What stands in a text by the grammar is within the limits, and it leaves an end of the text.
use Rattle.std.proofs.Common.{inl, ◌≡◌, ℕ, ◌<◌, Bool, true, false, List, [], ◌∷◌, length, drop, take_while, refl, ap, arith}
use Rattle.std.specs.List.{AllByRecursion}
use Rattle.std.proofs.lemmas.List.Sums.{take_while-cons}
use Rattle.free_words.specs.declared.letter.Letter.{Letter}
use Rattle.free_words.proofs.OverLemmas.{IsOver-append, IsOver-inverse}
use Rattle.word_text.specs.declared.scan.Mark.TheVariants as marks
use Rattle.word_text.specs.Scan.{is_name_byte, after_blanks, name_at, after_name, mark_byte, mark_of}
use Rattle.word_text.specs.Machine.{Find, finding}
use Rattle.word_text.specs.Grammar.{Product}
use Rattle.word_text.proofs.Marks.{name_some}
use Rattle.word_text.specs.Powers.{written}
use Rattle.word_text.proofs.Tails.{Tail}
use Rattle.word_text.proofs.Suffixes.{spelled}
use Rattle.presentation.specs.Presented.{IsName, IsWritten, IsPresented}
use Rattle.presentation.specs.Grammar.{NameAt, NamesAt, RelatorAt, SomeRelatorsAt, RelatorsAt, PresentationAt}
use Rattle.presentation.proofs.Ends.{join, blanks, name, first}
use Rattle.presentation.proofs.WordsRead.{product_written}

-- a name is the name at its own head
again_by : (p : ℕ → Bool) (b : ℕ) (bs : List ℕ) (t : Bool) → p b ≡ t → take_while p (take_while p bs) ≡ take_while p bs
    → take_while p (take_while p (b ∷ bs)) ≡ take_while p (b ∷ bs)
again_by p b bs true e h = rw (take_while-cons p b bs, e) (rw (take_while-cons p b (take_while p bs), e) (ap (λ (l : List ℕ). b ∷ l) h))
again_by p b bs false e h = rw (take_while-cons p b bs, e) refl

take_while-again : (p : ℕ → Bool) (bs : List ℕ) → take_while p (take_while p bs) ≡ take_while p bs
take_while-again p [] = refl
take_while-again p (b ∷ bs) = again_by p b bs (p b) refl (take_while-again p bs)

marked_by : (b : ℕ) (bs : List ℕ) (t : Bool) → is_name_byte b ≡ t → 0 < length (take_while is_name_byte (b ∷ bs)) → mark_byte b ≡ marks.Letter
    → mark_of (take_while is_name_byte (b ∷ bs)) ≡ marks.Letter
marked_by b bs true e some m = rw (take_while-cons is_name_byte b bs, e) m
marked_by b bs false e some m =
    let none : length (take_while is_name_byte (b ∷ bs)) ≡ 0 = rw (take_while-cons is_name_byte b bs, e) refl in
    absurd (omega arith)

marked : (bs : List ℕ) → mark_of bs ≡ marks.Letter → mark_of (take_while is_name_byte bs) ≡ marks.Letter
marked [] m = cc
marked (b ∷ bs) m = marked_by b bs (is_name_byte b) refl (name_some (b ∷ bs) m) m

is_name : (bs n rest : List ℕ) → NameAt bs n rest → IsName n
unfolding name_at
is_name bs n rest h = rw (h.is) (marked (after_blanks bs) h.begins, take_while-again is_name_byte (after_blanks bs))

pub are_names : (bs : List ℕ) (ns : List (List ℕ)) (rest : List ℕ) → NamesAt bs ns rest → AllByRecursion IsName ns
are_names bs [] rest h = tt
are_names bs (n ∷ []) rest h = (is_name bs n rest h, tt)
are_names bs (n ∷ m ∷ ns) rest h = (is_name bs n h.0 h.1, are_names (drop 1 h.0) (m ∷ ns) rest h.3)

pub some_name : (bs : List ℕ) (ns : List (List ℕ)) (rest : List ℕ) → NamesAt bs ns rest → 0 < length ns
some_name bs [] rest h = absurd h
some_name bs (n ∷ ns) rest h = omega arith

is_written : (names : List (List ℕ)) (bs : List ℕ) (w : List Letter) (rest : List ℕ) → RelatorAt (finding names) bs w rest → IsWritten (length names) w
is_written names _ _ _ (RelatorAt.word s bs rest w h) = product_written names s (after_blanks bs) w rest h
is_written names _ _ _ (RelatorAt.equation s t bs mid rest u v h e k le) =
    let a = product_written names s (after_blanks bs) u mid h in
    let b = product_written names t (after_blanks (drop 1 mid)) v rest k in
    (IsOver-append (length names) u _ a.0 (IsOver-inverse (length names) v b.0), le)

some_written : (names : List (List ℕ)) (bs : List ℕ) (rs : List (List Letter)) (rest : List ℕ) → SomeRelatorsAt (finding names) bs rs rest
    → AllByRecursion (IsWritten (length names)) rs
some_written names bs [] rest h = tt
some_written names bs (r ∷ []) rest h = (is_written names bs r rest h, tt)
some_written names bs (r ∷ q ∷ rs) rest h = (is_written names bs r h.0 h.1, some_written names (drop 1 h.0) (q ∷ rs) rest h.3)

pub are_written : (names : List (List ℕ)) (bs : List ℕ) (rs : List (List Letter)) (rest : List ℕ) → RelatorsAt (finding names) bs rs rest
    → AllByRecursion (IsWritten (length names)) rs
are_written names bs [] rest h = tt
are_written names bs (r ∷ rs) rest h = some_written names bs (r ∷ rs) rest h.1

-- the limits of a presentation
pub is_presented : (bs : List ℕ) (names : List (List ℕ)) (relators : List (List Letter)) (rest : List ℕ) → PresentationAt bs names relators rest
    → IsPresented (record { names = names; relators = relators; modulus = 0 })
is_presented bs names relators rest h = record {
  some_name = some_name (drop 1 (after_blanks bs)) names h.bar h.names_stand;
  few_names = h.few_names;
  names = are_names (drop 1 (after_blanks bs)) names h.bar h.names_stand;
  distinct = h.distinct;
  few_relators = h.few_relators;
  relators = are_written names (drop 1 h.bar) relators h.end h.relators_stand;
  modulus = inl refl;
}

-- ends
name_end : (bs n rest : List ℕ) → NameAt bs n rest → Tail bs rest
name_end bs n rest h =
    let here : List ℕ = after_blanks bs in
    rw (h.leaves) (join bs here (after_blanks (after_name here)) (blanks bs) (join here (after_name here) (after_blanks (after_name here)) (name here)
    (blanks (after_name here))))

names_end : (bs : List ℕ) (ns : List (List ℕ)) (rest : List ℕ) → NamesAt bs ns rest → Tail bs rest
names_end bs [] rest h = absurd h
names_end bs (n ∷ []) rest h = name_end bs n rest h
names_end bs (n ∷ m ∷ ns) rest h =
    join bs h.0 rest (name_end bs n h.0 h.1) (join h.0 (drop 1 h.0) rest (first h.0) (names_end (drop 1 h.0) (m ∷ ns) rest h.3))

relator_end : (find : Find) (bs : List ℕ) (w : List Letter) (rest : List ℕ) → RelatorAt find bs w rest → Tail bs rest
relator_end find _ _ _ (RelatorAt.word s bs rest w h) = join bs (after_blanks bs) rest (blanks bs) (spelled written find (Product s) (after_blanks bs) w rest h)
relator_end find _ _ _ (RelatorAt.equation s t bs mid rest u v h e k le) =
    let next : List ℕ = after_blanks (drop 1 mid) in
    join bs (after_blanks bs) rest (blanks bs) (join (after_blanks bs) mid rest (spelled written find (Product s) (after_blanks bs) u mid h)
    (join mid (drop 1 mid) rest (first mid) (join (drop 1 mid) next rest (blanks (drop 1 mid)) (spelled written find (Product t) next v rest k))))

some_end : (find : Find) (bs : List ℕ) (rs : List (List Letter)) (rest : List ℕ) → SomeRelatorsAt find bs rs rest → Tail bs rest
some_end find bs [] rest h = absurd h
some_end find bs (r ∷ []) rest h = relator_end find bs r rest h
some_end find bs (r ∷ q ∷ rs) rest h =
    join bs h.0 rest (relator_end find bs r h.0 h.1) (join h.0 (drop 1 h.0) rest (first h.0) (some_end find (drop 1 h.0) (q ∷ rs) rest h.3))

relators_end : (find : Find) (bs : List ℕ) (rs : List (List Letter)) (rest : List ℕ) → RelatorsAt find bs rs rest → Tail bs rest
relators_end find bs [] rest h = rw (h.1) (blanks bs)
relators_end find bs (r ∷ rs) rest h = some_end find bs (r ∷ rs) rest h.1

pub presentation_end : (bs : List ℕ) (names : List (List ℕ)) (relators : List (List Letter)) (rest : List ℕ) → PresentationAt bs names relators rest
    → Tail bs rest
presentation_end bs names relators rest h =
    let begin : List ℕ = after_blanks bs in
    rw (h.leaves)
    (join bs begin (drop 1 h.end) (blanks bs) (join begin (drop 1 begin) (drop 1 h.end) (first begin)
    (join (drop 1 begin) h.bar (drop 1 h.end) (names_end (drop 1 begin) names h.bar h.names_stand)
    (join h.bar (drop 1 h.bar) (drop 1 h.end) (first h.bar)
    (join (drop 1 h.bar) h.end (drop 1 h.end) (relators_end (finding names) (drop 1 h.bar) relators h.end h.relators_stand) (first h.end))))))
