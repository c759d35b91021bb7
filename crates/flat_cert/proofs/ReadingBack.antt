-- What is written of a certificate is read back: its text is that of no other, and none of its lines can't stand.
use Rattle.std.proofs.Common.{◌≡◌, ◌≢◌, ℕ, ◌==◌, Bool, true, false, cond, List, [], ◌∷◌, ◌++◌, Some, None, Ok, Err, decimal, refl, sym, ap, subst, ◌∙◌, arith, append_assoc}
use Rattle.std.proofs.Common.{inl, append-nil}
use Rattle.std.specs.Prelude.{codes, Result, Vec}
use Rattle.std.specs.declared.alloc.Global.{Global}
use Rattle.std.proofs.lemmas.List.{length-append}
use Rattle.spelling.specs.Spelling.{cut, coefficient}
use Rattle.spelling.proofs.Cuts.{cut_here, some_same}
use Rattle.spelling.proofs.Lacking.{Lacks, lacks_append, decimal_lacks, coefficient_lacks, coefficient_same}
use Rattle.spelling.proofs.Numbers.{decimal_same}
use Rattle.word_text.specs.Scan.{is_name_byte, is_letter, is_digit}
use Rattle.word_text.specs.Machine.{finding}
use Rattle.presentation.specs.Presented.{Presented, IsPresented}
use Rattle.presentation.specs.Writing.{name_of}
use Rattle.presentation.proofs.WritingBack.{names_of}
use Rattle.vector_text.specs.Spelling.{monomial_text}
use Rattle.vector_text.proofs.MonomialTexts.{IsSeparator, name_lacks, monomial_lacks, monomial_same}
use Rattle.flat_cert.specs.declared.faults.FlatTextFault.{FlatTextFault}
use Rattle.flat_cert.specs.declared.faults.FlatTextFault.TheVariants.{Line, NoMemory}
use Rattle.flat_cert.specs.declared.lines.Flat.{Flat}
use Rattle.flat_cert.specs.declared.lines.FlatKind.{FlatKind}
use Rattle.flat_cert.specs.declared.lines.FlatKind.TheVariants.{Rel, Bin, Mod}
use Rattle.flat_cert.specs.Certificates.{IsKind, IsFlat, AreFlat}
use Rattle.flat_cert.specs.Texts.{kind_text, line_text, lines_text, title, last_line, certificate_text, IsCertificate, IsNoTitle, CantStand, IsFirstFault, ReadsText}
use Rattle.flat_cert.specs.Texts.{IsReadBack}
use Rattle.flat_cert.specs.Texts.IsFirstFault.{at_title, behind, after_last}
use Rattle.flat_cert.proofs.LineTexts.{first_byte, small_relator, number_cut, found, word_of, rest_of, word_cut, words, factor, star_cut, space_cut, fronts, lasts}

none_some : {X : Type 0} {x : X} → None ≡ Some x → ⊥
none_some e = cc

-- a line end
ender : IsSeparator 10
unfolding is_name_byte is_letter is_digit
ender = record { name = refl; digit = inl (omega arith); tick = λ e. omega (arith, e); hat = λ e. omega (arith, e) }

-- a literal without the byte
is_clear : ℕ → List ℕ → Bool
is_clear c [] = true
is_clear c (b ∷ t) = cond (b == c) false (is_clear c t)

literal : (c : ℕ) (text : List ℕ) → is_clear c text ≡ true → Lacks c text
unfolding is_clear
literal c [] e = tt
literal c (b ∷ t) e = by (b == c) refl e (literal c t)
  where
    by : (r : Bool) → (b == c) ≡ r → cond r false (is_clear c t) ≡ true → (is_clear c t ≡ true → Lacks c t) → Lacks c (b ∷ t)
    by true s e rest = absurd cc
    by false s e rest = (s, rest e)

module _ (p : Presented) (known : IsPresented p) where
  -- ---- a line has no line end in it

  kind_lacks : (what : FlatKind) → IsKind p what → Lacks 10 (kind_text p.names what)
  unfolding is_clear
  kind_lacks (Rel j) is = lacks_append 10 (codes "rel ") (decimal j) (literal 10 (codes "rel ") refl)
      (decimal_lacks 10 j (inl (omega arith)) (omega (arith, small_relator p known j is)))
  kind_lacks (Bin j c) is = lacks_append 10 (codes "bin ") (decimal j ++ (codes " " ++ name_of p.names c)) (literal 10 (codes "bin ") refl)
      (lacks_append 10 (decimal j) (codes " " ++ name_of p.names c) (decimal_lacks 10 j (inl (omega arith)) (omega (arith, small_relator p known j is.0)))
      (refl, name_lacks 10 p.names c ender.name (names_of p known) is.1))
  kind_lacks (Mod c) is = lacks_append 10 (codes "mod ") (name_of p.names c) (literal 10 (codes "mod ") refl)
      (name_lacks 10 p.names c ender.name (names_of p known) is.0)

  line_lacks : (l : Flat) → IsFlat p l → Lacks 10 (line_text p.names l)
  line_lacks l is =
      lacks_append 10 (coefficient l.k) (codes "*" ++ (monomial_text p.names l.t ++ (codes " " ++ kind_text p.names l.what)))
      (coefficient_lacks 10 l.k (inl (omega arith)) (λ e. omega (arith, e)) (λ e. omega (arith, e)) (factor p known l is)) (
        refl,
        lacks_append 10 (monomial_text p.names l.t) (codes " " ++ kind_text p.names l.what)
            (monomial_lacks 10 p.names l.t ender (λ e. omega (arith, e)) (names_of p known) is.mono) (refl, kind_lacks l.what is.kind),
      )

  -- ---- a line is that of one value alone

  kind_same : (v w : FlatKind) → IsKind p v → IsKind p w → kind_text p.names v ≡ kind_text p.names w → v ≡ w
  kind_same (Rel j) (Rel i) a b e =
      ap Rel (decimal_same j i (omega (arith, small_relator p known j a)) (omega (arith, small_relator p known i b))
      (words p known (kind_text p.names (Rel j)) (word_of p known (Rel j)) (rest_of p known (Rel j)) (Rel i) (word_cut p known (Rel j)) e).1)
  kind_same (Rel j) (Bin i c) a b e = let same : 114 ≡ 98 = ap first_byte e in absurd (omega (arith, same))
  kind_same (Rel j) (Mod c) a b e = let same : 114 ≡ 109 = ap first_byte e in absurd (omega (arith, same))
  kind_same (Bin j c) (Rel i) a b e = let same : 98 ≡ 114 = ap first_byte e in absurd (omega (arith, same))
  kind_same (Bin j c) (Bin i d) a b e =
      let rest = (words p known (kind_text p.names (Bin j c)) (word_of p known (Bin j c)) (rest_of p known (Bin j c)) (Bin i d)
      (word_cut p known (Bin j c)) e).1 in
      let both = some_same (sym (number_cut p known j c a.0) ∙ ap (cut 32) rest ∙ number_cut p known i d b.0) in
      let number : j ≡ i = decimal_same j i (omega (arith, small_relator p known j a.0)) (omega (arith, small_relator p known i b.0)) (ap (λ x. x.0) both) in
      let name : Some c ≡ Some d = sym (found p known c a.1) ∙ ap (λ x. finding p.names x.1) both ∙ found p known d b.1 in
      let component : c ≡ d = cc in
      λ k. Bin (number k) (component k)
  kind_same (Bin j c) (Mod d) a b e = let same : 98 ≡ 109 = ap first_byte e in absurd (omega (arith, same))
  kind_same (Mod c) (Rel i) a b e = let same : 109 ≡ 114 = ap first_byte e in absurd (omega (arith, same))
  kind_same (Mod c) (Bin i d) a b e = let same : 109 ≡ 98 = ap first_byte e in absurd (omega (arith, same))
  kind_same (Mod c) (Mod d) a b e =
      let rest = (words p known (kind_text p.names (Mod c)) (word_of p known (Mod c)) (rest_of p known (Mod c)) (Mod d) (word_cut p known (Mod c)) e).1 in
      let name : Some c ≡ Some d = sym (found p known c a.0) ∙ ap (finding p.names) rest ∙ found p known d b.0 in
      let component : c ≡ d = cc in
      ap Mod component

  line_same : (l m : Flat) → IsFlat p l → IsFlat p m → line_text p.names l ≡ line_text p.names m → l ≡ m
  line_same l m a b e =
      let front = fronts p known (line_text p.names l) (coefficient l.k) _ m (star_cut p known l a) b e in
      let last = lasts p known _ (monomial_text p.names l.t) (kind_text p.names l.what) m (space_cut p known l a) b front.1 in
      let k : l.k ≡ m.k = coefficient_same l.k m.k (factor p known l a) (factor p known m b) front.0 in
      let t : l.t ≡ m.t = monomial_same p.names (names_of p known) l.t m.t a.mono b.mono last.0 in
      let what : l.what ≡ m.what = kind_same l.what m.what a.kind b.kind last.1 in
      λ i. record { k = k i; t = t i; what = what i }

  -- no line of a certificate is the last one: it has a star
  not_last : (l : Flat) → IsFlat p l → line_text p.names l ≢ last_line
  not_last l is e = none_some (ap (cut 42) (sym e) ∙ star_cut p known l is)

  -- ---- what stands behind the title

  line_cut : (l : Flat) (ls : List Flat) (rest : List ℕ) → IsFlat p l
      → cut 10 (lines_text p.names (l ∷ ls) ++ rest) ≡ Some (line_text p.names l, lines_text p.names ls ++ rest)
  line_cut l ls rest is =
      ap (cut 10) (append_assoc (line_text p.names l ++ 10 ∷ []) (lines_text p.names ls) rest
      ∙ append_assoc (line_text p.names l) (10 ∷ []) (lines_text p.names ls ++ rest))
      ∙ cut_here 10 (line_text p.names l) (lines_text p.names ls ++ rest) (line_lacks l is)

  last_cut : (rest : List ℕ) → cut 10 ((last_line ++ 10 ∷ []) ++ rest) ≡ Some (last_line, rest)
  unfolding is_clear
  last_cut rest = ap (cut 10) (append_assoc last_line (10 ∷ []) rest) ∙ cut_here 10 last_line rest (literal 10 last_line refl)

  -- the lines with the last one behind them, and some bytes
  abbrev body : List Flat → List ℕ → List ℕ
  body ls rest = lines_text p.names ls ++ ((last_line ++ 10 ∷ []) ++ rest)

  one_body : (ls ms : List Flat) (a b : List ℕ) → AreFlat p ls → AreFlat p ms → body ls a ≡ body ms b → (ls ≡ ms) × (a ≡ b)
  one_body [] [] a b h k e = (refl, ap (λ x. x.1) (some_same (sym (last_cut a) ∙ ap (cut 10) e ∙ last_cut b)))
  one_body [] (m ∷ ms) a b h k e =
      absurd (not_last m k.0 (sym (ap (λ x. x.0) (some_same (sym (last_cut a) ∙ ap (cut 10) e ∙ line_cut m ms ((last_line ++ 10 ∷ []) ++ b) k.0)))))
  one_body (l ∷ ls) [] a b h k e =
      absurd (not_last l h.0 (ap (λ x. x.0) (some_same (sym (line_cut l ls ((last_line ++ 10 ∷ []) ++ a) h.0) ∙ ap (cut 10) e ∙ last_cut b))))
  one_body (l ∷ ls) (m ∷ ms) a b h k e =
      let same = some_same (sym (line_cut l ls ((last_line ++ 10 ∷ []) ++ a) h.0) ∙ ap (cut 10) e ∙ line_cut m ms ((last_line ++ 10 ∷ []) ++ b) k.0) in
      let first : l ≡ m = line_same l m h.0 k.0 (ap (λ x. x.0) same) in
      let rest = one_body ls ms a b h.1 k.1 (ap (λ x. x.1) same) in
      ((λ i. first i ∷ rest.0 i), rest.1)

  -- lines with others behind them: the first of what is left may stand
  stands : (ls ms : List Flat) (rest : List ℕ) → AreFlat p ls → AreFlat p ms → body ls [] ≡ lines_text p.names ms ++ rest
      → (ns : List Flat) × (ls ≡ ms ++ ns) × (rest ≡ body ns [])
  stands ls [] rest h k e = (ls, refl, sym e)
  stands [] (m ∷ ms) rest h k e =
      absurd (not_last m k.0 (sym (ap (λ x. x.0) (some_same (sym (last_cut []) ∙ ap (cut 10) e ∙ line_cut m ms rest k.0)))))
  stands (l ∷ ls) (m ∷ ms) rest h k e =
      let same = some_same (sym (line_cut l ls ((last_line ++ 10 ∷ []) ++ []) h.0) ∙ ap (cut 10) e ∙ line_cut m ms rest k.0) in
      let first : l ≡ m = line_same l m h.0 k.0 (ap (λ x. x.0) same) in
      let (ns, is, left) = stands ls ms rest h.1 k.1 (ap (λ x. x.1) same) in
      (ns, (λ i. first i ∷ is i), left)

  title_cut : (rest : List ℕ) → cut 10 (title ++ 10 ∷ rest) ≡ Some (title, rest)
  unfolding is_clear
  title_cut rest = cut_here 10 title rest (literal 10 title refl)

  body_of : (ls : List Flat) (text : List ℕ) (rest : List ℕ) → text ≡ certificate_text p.names ls → text ≡ title ++ 10 ∷ rest → body ls [] ≡ rest
  body_of ls text rest is was =
      ap (λ t. lines_text p.names ls ++ t) (append-nil (last_line ++ 10 ∷ []))
      ∙ ap (λ x. x.1) (some_same (sym (title_cut (lines_text p.names ls ++ (last_line ++ 10 ∷ []))) ∙ ap (cut 10) (sym is ∙ was) ∙ title_cut rest))

  -- one more of the lines, within the limit
  front_known : (ms ns : List Flat) (n : Flat) → IsCertificate p (ms ++ n ∷ ns) → IsCertificate p (ms ++ n ∷ [])
  front_known ms ns n all = record {
    flat = Rattle.module_vec.proofs.FallingTerms.all_join (IsFlat p) ms (n ∷ [])
        (Rattle.module_vec.proofs.FallingTerms.all_front (IsFlat p) ms (n ∷ ns) all.flat)
        ((Rattle.module_vec.proofs.FallingTerms.all_back (IsFlat p) ms (n ∷ ns) all.flat).0, tt);
    few = omega (arith, all.few, length-append ms (n ∷ ns), length-append ms (n ∷ []));
  }

  none_fails : (ls : List Flat) (n : ℕ) (text : List ℕ) → IsCertificate p ls → text ≡ certificate_text p.names ls → IsFirstFault p text n → ⊥
  none_fails ls _ text all is (at_title other) =
      subst IsNoTitle (ap (cut 10) is ∙ title_cut (lines_text p.names ls ++ (last_line ++ 10 ∷ []))) other refl
  none_fails ls _ text all is (after_last ms rest known_ms was some) =
      let e : body ls [] ≡ body ms rest = body_of ls text (body ms rest) is
      (was ∙ ap (λ t. title ++ 10 ∷ t) (append_assoc (lines_text p.names ms) (last_line ++ 10 ∷ []) rest)) in
      some (sym (one_body ls ms [] rest all.flat known_ms.flat e).1)
  none_fails ls _ text all is (behind ms rest known_ms was fails) =
      let e : body ls [] ≡ lines_text p.names ms ++ rest = body_of ls text (lines_text p.names ms ++ rest) is was in
      let (ns, parts, left) = stands ls ms rest all.flat known_ms.flat e in
      by ms rest ns (subst (IsCertificate p) parts all) left fails
    where
      by : (ms : List Flat) (rest : List ℕ) (ns : List Flat) → IsCertificate p (ms ++ ns) → rest ≡ body ns [] → CantStand p ms (cut 10 rest) → ⊥
      by ms rest [] whole left fails = (subst (CantStand p ms) (ap (cut 10) left ∙ last_cut []) fails).0 refl
      by ms rest (n ∷ ns) whole left fails =
          let own : IsFlat p n = (Rattle.module_vec.proofs.FallingTerms.all_back (IsFlat p) ms (n ∷ ns) whole.flat).0 in
          (subst (CantStand p ms) (ap (cut 10) left ∙ line_cut n ns ((last_line ++ 10 ∷ []) ++ []) own) fails).1 n (front_known ms ns n whole) refl

pub is_read_back : (p : Presented) (ls : List Flat) (r : Result (Vec Flat Global) FlatTextFault) → IsPresented p → IsCertificate p ls
    → ReadsText p (certificate_text p.names ls) r → IsReadBack ls r
is_read_back p ls (Ok ms) known all reads =
    let e = body_of p known ls (certificate_text p.names ls) (lines_text p.names ms.items ++ (last_line ++ 10 ∷ [])) refl reads.1 in
    sym (one_body p known ls ms.items [] [] all.flat reads.0.flat
    (e ∙ ap (λ t. lines_text p.names ms.items ++ t) (sym (append-nil (last_line ++ 10 ∷ []))))).0
is_read_back p ls (Err (Line n)) known all reads = none_fails p known ls n (certificate_text p.names ls) all refl reads
is_read_back p ls (Err NoMemory) known all reads = tt
