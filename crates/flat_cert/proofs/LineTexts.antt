-- The texts of lines.
use Rattle.std.proofs.Common.{◌≡◌, ◌≢◌, ◌⊎◌, inl, inr, ℕ, zero, suc, ◌+◌, ◌-◌, ◌*◌, ◌<◌, slice_index, ℤ, pos, negsuc, List, [], ◌∷◌, ◌++◌, length, Some}
use Rattle.std.proofs.Common.{None, Ok, Err, decimal, refl}
use Rattle.std.proofs.Common.{sym, ap, subst, ◌∙◌, arith}
use Rattle.std.specs.Prelude.{codes}
use Rattle.std.proofs.lemmas.Option.{none-some}
use Rattle.spelling.specs.Spelling.{IsRead, IsSmall, cut, coefficient, IsCoefficient}
use Rattle.spelling.proofs.Cuts.{cut_here, cut_joins}
use Rattle.spelling.proofs.Numbers.{decimal_same}
use Rattle.spelling.proofs.Lacking.{decimal_lacks, coefficient_lacks}
use Rattle.word_text.specs.Scan.{is_name_byte, is_letter, is_digit}
use Rattle.word_text.specs.Machine.{finding}
use Rattle.presentation.specs.Presented.{Presented, IsPresented}
use Rattle.presentation.specs.Writing.{name_of}
use Rattle.presentation.proofs.WritingNames.{name_found}
use Rattle.presentation.proofs.WritingBack.{AreNames, names_of}
use Rattle.module_vec.specs.Vectors.{InRange}
use Rattle.vector_text.specs.declared.fault.SpellFault.{SpellFault}
use Rattle.vector_text.specs.declared.fault.SpellFault.TheVariants.{Spelling}
use Rattle.vector_text.specs.Spelling.{monomial_text}
use Rattle.vector_text.specs.Over.{IsMonoOf}
use Rattle.vector_text.specs.Reading.{Reads}
use Rattle.vector_text.proofs.FactorTexts.{name_is}
use Rattle.vector_text.proofs.PlaceTexts.{some_pair}
use Rattle.vector_text.proofs.MonomialTexts.{IsSeparator, monomial_lacks, monomial_same}
use Rattle.flat_cert.specs.declared.lines.Flat.{Flat}
use Rattle.flat_cert.specs.declared.lines.FlatKind.{FlatKind}
use Rattle.flat_cert.specs.declared.lines.FlatKind.TheVariants.{Rel, Bin, Mod}
use Rattle.flat_cert.specs.Images.{cancelled, IsFlatMono}
use Rattle.flat_cert.specs.Certificates.{IsRelator, IsKind, IsFlat}
use Rattle.flat_cert.specs.Texts.{kind_text, line_text}

-- ---- coefficients

nonzero : (n : ℕ) → pos n ≢ pos 0 → 0 < n
nonzero zero some = absurd (some refl)
nonzero (suc n) some = omega arith

pub spelled_coefficient : (z : ℤ) → z ≢ pos 0 → InRange z → IsCoefficient z
spelled_coefficient (pos n) some h = (omega (arith, nonzero n some), omega (arith, h))
spelled_coefficient (negsuc n) some h = omega (arith, h)

in_range : (z : ℤ) → IsCoefficient z → (z ≢ pos 0) × InRange z
in_range (pos n) h = (λ e. some n h.0 e, omega (arith, h.1)) where
  some : (n : ℕ) → 0 < n → pos n ≢ pos 0
  some zero lt e = absurd (omega arith)
  some (suc n) lt e = cc
in_range (negsuc n) h = (λ e. cc, omega (arith, h))

pub space : IsSeparator 32
unfolding is_name_byte is_letter is_digit
space = record { name = refl; digit = inl (omega arith); tick = λ e. omega (arith, e); hat = λ e. omega (arith, e) }

-- words are told apart by their first bytes
abbrev pub first_byte : List ℕ → ℕ
first_byte [] = 0
first_byte (b ∷ t) = b

-- ---- flat monomials

one_missing : (a b : ℕ) → a - b ≡ a → (a ≡ 0) ⊎ (b ≡ 0)
one_missing zero b e = inl refl
one_missing (suc a) zero e = inr refl
one_missing (suc a) (suc b) e = absurd (omega (arith, e))

pub flat_at : (s : List ℕ) (k : ℕ) → IsFlatMono s → (slice_index s (2 * k) ≡ 0) ⊎ (slice_index s (2 * k + 1) ≡ 0)
flat_at [] k e = inl refl
flat_at (a ∷ []) zero e = inr refl
flat_at (a ∷ []) (suc k) e = let even : 2 * suc k ≡ suc (suc (2 * k)) = omega arith in inl (ap (slice_index (a ∷ [])) even)
flat_at (a ∷ b ∷ s) zero e = let first : a - b ≡ a = cc in one_missing a b first
flat_at (a ∷ b ∷ s) (suc k) e =
    let rest : cancelled s ≡ s = cc in
    let even : 2 * suc k ≡ suc (suc (2 * k)) = omega arith in
    let odd : 2 * suc k + 1 ≡ suc (suc (2 * k + 1)) = omega arith in
    by (ap (slice_index (a ∷ b ∷ s)) even) (ap (slice_index (a ∷ b ∷ s)) odd) (flat_at s k rest)
  where
    by : slice_index (a ∷ b ∷ s) (2 * suc k) ≡ slice_index s (2 * k) → slice_index (a ∷ b ∷ s) (2 * suc k + 1) ≡ slice_index s (2 * k + 1)
        → (slice_index s (2 * k) ≡ 0) ⊎ (slice_index s (2 * k + 1) ≡ 0)
        → (slice_index (a ∷ b ∷ s) (2 * suc k) ≡ 0) ⊎ (slice_index (a ∷ b ∷ s) (2 * suc k + 1) ≡ 0)
    by x y (inl z) = inl (x ∙ z)
    by x y (inr z) = inr (y ∙ z)

pub flat_from : (n : ℕ) (s : List ℕ) → length s ≡ 2 * n → ((k : ℕ) → k < n → (slice_index s (2 * k) ≡ 0) ⊎ (slice_index s (2 * k + 1) ≡ 0)) → IsFlatMono s
flat_from n [] e h = refl
flat_from n (a ∷ []) e h = refl
flat_from zero (a ∷ b ∷ s) e h = absurd (omega (arith, e))
flat_from (suc n) (a ∷ b ∷ s) e h =
    let rest : cancelled s ≡ s = flat_from n s (omega (arith, e)) (λ k lt.
    let even : 2 * suc k ≡ suc (suc (2 * k)) = omega arith in
    let odd : 2 * suc k + 1 ≡ suc (suc (2 * k + 1)) = omega arith in
    subst (λ i. (slice_index (a ∷ b ∷ s) i ≡ 0) ⊎ (slice_index s (2 * k + 1) ≡ 0)) even
    (subst (λ i. (slice_index (a ∷ b ∷ s) (2 * suc k) ≡ 0) ⊎ (slice_index (a ∷ b ∷ s) i ≡ 0)) odd (h (suc k) (omega (arith, lt))))) in
    by (h 0 (omega arith)) rest
  where
    by : (a ≡ 0) ⊎ (b ≡ 0) → cancelled s ≡ s → (a - b) ∷ (b - a) ∷ cancelled s ≡ a ∷ b ∷ s
    by (inl z) rest = let x : a - b ≡ a = omega (arith, z) in let y : b - a ≡ b = omega (arith, z) in λ i. x i ∷ y i ∷ rest i
    by (inr z) rest = let x : a - b ≡ a = omega (arith, z) in let y : b - a ≡ b = omega (arith, z) in λ i. x i ∷ y i ∷ rest i

pub not_missing : (s : List ℕ) (k : ℕ) → 0 < slice_index s (2 * k) → 0 < slice_index s (2 * k + 1) → IsFlatMono s → ⊥
not_missing s k a b e = by (flat_at s k e)
  where
    by : (slice_index s (2 * k) ≡ 0) ⊎ (slice_index s (2 * k + 1) ≡ 0) → ⊥
    by (inl z) = absurd (omega (arith, z, a))
    by (inr z) = absurd (omega (arith, z, b))

-- ---- relators' numbers

module _ (p : Presented) (known : IsPresented p) where
  abbrev names : List (List ℕ)
  names = p.names

  abbrev all_names : AreNames p.names
  all_names = names_of p known

  -- ---- kinds

  pub small_relator : (j : ℕ) → IsRelator p j → IsSmall j
  small_relator j is = omega (arith, is.1, known.few_relators)

  pub no_relator_number : (text : List ℕ) → IsRead decimal IsSmall text None → IsRead decimal (IsRelator p) text None
  no_relator_number text bad = λ j is e. bad j (small_relator j is) e

  pub other_number : (text : List ℕ) (j : ℕ) → IsRead decimal IsSmall text (Some j) → (j ≡ 0) ⊎ (length p.relators < j) → IsRead decimal (IsRelator p) text None
  other_number text j good bad = λ i is e. by i is (decimal_same j i (omega (arith, good.0)) (omega (arith, small_relator i is)) (sym good.1 ∙ e)) bad
    where
      by : (i : ℕ) → IsRelator p i → j ≡ i → (j ≡ 0) ⊎ (length p.relators < j) → ⊥
      by i is same (inl z) = absurd (omega (arith, z, same, is.0))
      by i is same (inr z) = absurd (omega (arith, z, same, is.1))

  pub number_cut : (j c : ℕ) → IsRelator p j → cut 32 (decimal j ++ 32 ∷ name_of p.names c) ≡ Some (decimal j, name_of p.names c)
  number_cut j c is = cut_here 32 (decimal j) (name_of p.names c) (decimal_lacks 32 j (inl (omega arith)) (omega (arith, small_relator j is)))

  pub found : (c : ℕ) → c < length p.names → finding p.names (name_of p.names c) ≡ Some c
  found c below = name_found p.names c known.distinct below

  abbrev pub word_of : FlatKind → List ℕ
  word_of (Rel j) = codes "rel"
  word_of (Bin j c) = codes "bin"
  word_of (Mod c) = codes "mod"

  abbrev pub rest_of : FlatKind → List ℕ
  rest_of (Rel j) = decimal j
  rest_of (Bin j c) = decimal j ++ 32 ∷ name_of p.names c
  rest_of (Mod c) = name_of p.names c

  pub word_cut : (what : FlatKind) → cut 32 (kind_text p.names what) ≡ Some (word_of what, rest_of what)
  word_cut (Rel j) = refl
  word_cut (Bin j c) = refl
  word_cut (Mod c) = refl

  pub words : (text word rest : List ℕ) (what : FlatKind) → cut 32 text ≡ Some (word, rest) → text ≡ kind_text p.names what
      → (word ≡ word_of what) × (rest ≡ rest_of what)
  words text word rest what k e = some_pair (word, rest) (word_of what, rest_of what) (sym k ∙ ap (cut 32) e ∙ word_cut what)

  pub no_word : (text : List ℕ) → cut 32 text ≡ None → IsRead (kind_text p.names) (IsKind p) text None
  no_word text none = λ what is e. none-some _ (sym none ∙ ap (cut 32) e ∙ word_cut what)

  pub no_kind : (text word rest : List ℕ) → cut 32 text ≡ Some (word, rest) → (word ≢ codes "rel") → (word ≢ codes "bin")
      → ((word ≡ codes "mod") → (p.modulus ≡ 0)) → IsRead (kind_text p.names) (IsKind p) text None
  no_kind text word rest k rel bin known_modulus (Rel j) is e = rel (words text word rest (Rel j) k e).0
  no_kind text word rest k rel bin known_modulus (Bin j c) is e = bin (words text word rest (Bin j c) k e).0
  no_kind text word rest k rel bin known_modulus (Mod c) is e = absurd (omega (arith, is.1, known_modulus (words text word rest (Mod c) k e).0))

  pub no_relator : (text word rest : List ℕ) → cut 32 text ≡ Some (word, rest) → word ≡ codes "rel" → IsRead decimal (IsRelator p) rest None
      → IsRead (kind_text p.names) (IsKind p) text None
  no_relator text word rest k w bad (Rel j) is e = bad j is (words text word rest (Rel j) k e).1
  no_relator text word rest k w bad (Bin j c) is e = let same : 114 ≡ 98 = ap first_byte (sym w ∙ (words text word rest (Bin j c) k e).0)
      in absurd (omega (arith, same))
  no_relator text word rest k w bad (Mod c) is e = let same : 114 ≡ 109 = ap first_byte (sym w ∙ (words text word rest (Mod c) k e).0)
      in absurd (omega (arith, same))

  pub relator_read : (text word rest : List ℕ) (j : ℕ) → cut 32 text ≡ Some (word, rest) → word ≡ codes "rel" → IsRead decimal (IsRelator p) rest (Some j)
      → IsRead (kind_text p.names) (IsKind p) text (Some (Rel j))
  relator_read text word rest j k w good = (good.0, cut_joins 32 text word rest k ∙ rw (w, good.1) refl)

  pub no_parts : (text word rest : List ℕ) → cut 32 text ≡ Some (word, rest) → word ≡ codes "bin"
      → ((j c : ℕ) → IsRelator p j → c < length p.names → rest ≡ decimal j ++ 32 ∷ name_of p.names c → ⊥) → IsRead (kind_text p.names) (IsKind p) text None
  no_parts text word rest k w bad (Rel j) is e = let same : 98 ≡ 114 = ap first_byte (sym w ∙ (words text word rest (Rel j) k e).0)
      in absurd (omega (arith, same))
  no_parts text word rest k w bad (Bin j c) is e = bad j c is.0 is.1 (words text word rest (Bin j c) k e).1
  no_parts text word rest k w bad (Mod c) is e = let same : 98 ≡ 109 = ap first_byte (sym w ∙ (words text word rest (Mod c) k e).0)
      in absurd (omega (arith, same))

  pub no_space : (rest : List ℕ) → cut 32 rest ≡ None → (j c : ℕ) → IsRelator p j → c < length p.names → rest ≡ decimal j ++ 32 ∷ name_of p.names c → ⊥
  no_space rest none j c is below e = none-some _ (sym none ∙ ap (cut 32) e ∙ number_cut j c is)

  both : (rest number name : List ℕ) (j c : ℕ) → cut 32 rest ≡ Some (number, name) → IsRelator p j → rest ≡ decimal j ++ 32 ∷ name_of p.names c
      → (number ≡ decimal j) × (name ≡ name_of p.names c)
  both rest number name j c k is e = some_pair (number, name) (decimal j, name_of p.names c) (sym k ∙ ap (cut 32) e ∙ number_cut j c is)

  pub no_number : (rest number name : List ℕ) → cut 32 rest ≡ Some (number, name) → IsRead decimal (IsRelator p) number None
      → (j c : ℕ) → IsRelator p j → c < length p.names → rest ≡ decimal j ++ 32 ∷ name_of p.names c → ⊥
  no_number rest number name k bad j c is below e = bad j is (both rest number name j c k is e).0

  pub no_name : (rest number name : List ℕ) → cut 32 rest ≡ Some (number, name) → finding p.names name ≡ None
      → (j c : ℕ) → IsRelator p j → c < length p.names → rest ≡ decimal j ++ 32 ∷ name_of p.names c → ⊥
  no_name rest number name k none j c is below e =
      none-some c (sym none ∙ ap (finding p.names) (both rest number name j c k is e).1 ∙ found c below)

  pub binomial_read : (text word rest number name : List ℕ) (j c : ℕ) → cut 32 text ≡ Some (word, rest) → word ≡ codes "bin"
      → cut 32 rest ≡ Some (number, name) → IsRead decimal (IsRelator p) number (Some j) → finding p.names name ≡ Some c → c < length p.names
      → IsRead (kind_text p.names) (IsKind p) text (Some (Bin j c))
  binomial_read text word rest number name j c k w m good is below =
      ((good.0, below), cut_joins 32 text word rest k ∙ rw (w, cut_joins 32 rest number name m, good.1, name_is p.names name c is) refl)

  pub no_component : (text word rest : List ℕ) → cut 32 text ≡ Some (word, rest) → word ≡ codes "mod" → finding p.names rest ≡ None
      → IsRead (kind_text p.names) (IsKind p) text None
  no_component text word rest k w none (Rel j) is e = let same : 109 ≡ 114 = ap first_byte (sym w ∙ (words text word rest (Rel j) k e).0)
      in absurd (omega (arith, same))
  no_component text word rest k w none (Bin j c) is e = let same : 109 ≡ 98 = ap first_byte (sym w ∙ (words text word rest (Bin j c) k e).0)
      in absurd (omega (arith, same))
  no_component text word rest k w none (Mod c) is e =
      none-some c (sym none ∙ ap (finding p.names) (words text word rest (Mod c) k e).1 ∙ found c is.0)

  pub modulus_read : (text word rest : List ℕ) (c : ℕ) → cut 32 text ≡ Some (word, rest) → word ≡ codes "mod" → finding p.names rest ≡ Some c
      → c < length p.names → 0 < p.modulus → IsRead (kind_text p.names) (IsKind p) text (Some (Mod c))
  modulus_read text word rest c k w is below some =
      ((below, some), cut_joins 32 text word rest k ∙ rw (w, name_is p.names rest c is) refl)

  -- ---- lines

  abbrev pub behind : Flat → List ℕ
  behind l = monomial_text p.names l.t ++ 32 ∷ kind_text p.names l.what

  pub factor : (l : Flat) → IsFlat p l → IsCoefficient l.k
  factor l is = spelled_coefficient l.k is.nonzero is.range

  pub star_cut : (l : Flat) → IsFlat p l → cut 42 (line_text p.names l) ≡ Some (coefficient l.k, behind l)
  star_cut l is =
      cut_here 42 (coefficient l.k) (behind l) (coefficient_lacks 42 l.k (inl (omega arith)) (λ e. omega (arith, e)) (λ e. omega (arith, e)) (factor l is))

  pub space_cut : (l : Flat) → IsFlat p l → cut 32 (behind l) ≡ Some (monomial_text p.names l.t, kind_text p.names l.what)
  space_cut l is =
      cut_here 32 (monomial_text p.names l.t) (kind_text p.names l.what) (monomial_lacks 32 p.names l.t space (λ e. omega (arith, e))
      (names_of p known) is.mono)

  pub fronts : (text front rest : List ℕ) (l : Flat) → cut 42 text ≡ Some (front, rest) → IsFlat p l → text ≡ line_text p.names l
      → (front ≡ coefficient l.k) × (rest ≡ behind l)
  fronts text front rest l k is e = some_pair (front, rest) (coefficient l.k, behind l) (sym k ∙ ap (cut 42) e ∙ star_cut l is)

  pub lasts : (rest middle last : List ℕ) (l : Flat) → cut 32 rest ≡ Some (middle, last) → IsFlat p l → rest ≡ behind l
      → (middle ≡ monomial_text p.names l.t) × (last ≡ kind_text p.names l.what)
  lasts rest middle last l k is e = some_pair (middle, last) (monomial_text p.names l.t, kind_text p.names l.what) (sym k ∙ ap (cut 32) e ∙ space_cut l is)

  pub no_star : (text : List ℕ) → cut 42 text ≡ None → IsRead (line_text p.names) (IsFlat p) text None
  no_star text none = λ l is e. none-some _ (sym none ∙ ap (cut 42) e ∙ star_cut l is)

  pub no_coefficient : (text front rest : List ℕ) → cut 42 text ≡ Some (front, rest) → IsRead coefficient IsCoefficient front None
      → IsRead (line_text p.names) (IsFlat p) text None
  no_coefficient text front rest k bad = λ l is e. bad l.k (factor l is) (fronts text front rest l k is e).0

  module _ (text front rest : List ℕ) (k : cut 42 text ≡ Some (front, rest)) where
    pub no_middle : cut 32 rest ≡ None → IsRead (line_text p.names) (IsFlat p) text None
    no_middle none = λ l is e. none-some _ (sym none ∙ ap (cut 32) (fronts text front rest l k is e).1 ∙ space_cut l is)

    module _ (middle last : List ℕ) (m : cut 32 rest ≡ Some (middle, last)) where
      pub no_monomial : (f : SpellFault) → Reads (monomial_text p.names) (IsMonoOf (length p.names)) middle (Err f) → f ≡ Spelling
          → IsRead (line_text p.names) (IsFlat p) text None
      no_monomial f bad is = λ l flat e.
          let bad' = rw is at bad in
          bad' l.t flat.mono (lasts rest middle last l m flat (fronts text front rest l k flat e).1).0

      pub no_what : IsRead (kind_text p.names) (IsKind p) last None → IsRead (line_text p.names) (IsFlat p) text None
      no_what bad = λ l flat e. bad l.what flat.kind (lasts rest middle last l m flat (fronts text front rest l k flat e).1).1

      module _ (t : List ℕ) (mono : Reads (monomial_text p.names) (IsMonoOf (length p.names)) middle (Ok t)) where
        pub not_flat : (IsFlatMono t → ⊥) → IsRead (line_text p.names) (IsFlat p) text None
        not_flat bad = λ l flat e.
            let same : t ≡ l.t =
            monomial_same p.names (names_of p known) t l.t mono.0 flat.mono (sym mono.1
            ∙ (lasts rest middle last l m flat (fronts text front rest l k flat e).1).0)
            in bad (subst IsFlatMono (sym same) flat.flat)

        pub line_read : (q : ℤ) (what : FlatKind) → IsRead coefficient IsCoefficient front (Some q) → IsFlatMono t
            → IsRead (kind_text p.names) (IsKind p) last (Some what)
            → IsRead (line_text p.names) (IsFlat p) text (Some (record { k = q; t = t; what = what }))
        line_read q what a flat b =
            let r = in_range q a.0 in (
              record { range = r.1; nonzero = r.0; mono = mono.0; flat = flat; kind = b.0 },
              cut_joins 42 text front rest k
                  ∙ rw (a.1, cut_joins 32 rest middle last m, mono.1, b.1) refl,
            )
