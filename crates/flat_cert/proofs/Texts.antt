-- Reading a certificate: what is told by each way out.
use Rattle.std.proofs.Common.{◌≡◌, ℕ, suc, ◌+◌, ◌<◌, ◌≤◌, ◌==◌, true, false, List, [], ◌∷◌, ◌++◌, length, Some, None, refl, sym, ap, subst, ◌∙◌, arith}
use Rattle.std.proofs.Common.{append_assoc, append-nil}
use Rattle.std.proofs.lemmas.List.{length-append}
use Rattle.std.proofs.lemmas.Grind.{flat_map-append}
use Rattle.spelling.specs.Spelling.{IsRead, cut}
use Rattle.spelling.proofs.Cuts.{cut_joins}
use Rattle.presentation.specs.Presented.{Presented}
use Rattle.module_vec.proofs.FallingTerms.{all_join, all_back}
use Rattle.flat_cert.specs.declared.TheConstants.{LINES}
use Rattle.flat_cert.specs.declared.lines.Flat.{Flat}
use Rattle.flat_cert.specs.Certificates.{IsFlat}
use Rattle.flat_cert.specs.Texts.{line_text, lines_text, title, last_line, certificate_text, IsCertificate, IsNoTitle, CantStand, IsFirstFault}
use Rattle.flat_cert.specs.Texts.IsFirstFault.{at_title, behind, after_last}

pub nothing_left : (t : List ℕ) → true ≡ (length t == 0) → t ≡ []
nothing_left [] e = refl
nothing_left (b ∷ t) e = let wrong : (suc (length t) == 0) ≡ false = grind arith in let clash : true ≡ false = e ∙ wrong in absurd cc

pub something_left : (t : List ℕ) → false ≡ (length t == 0) → t ≡ [] → ⊥
something_left t e none = let wrong : false ≡ true = e ∙ ap (λ (u : List ℕ). length u == 0) none in cc

module _ (p : Presented) (text : List ℕ) where
  pub no_title : cut 10 text ≡ None → IsFirstFault p text 1
  no_title e = at_title (subst IsNoTitle (sym e) tt)

  pub other_title : (first body : List ℕ) → cut 10 text ≡ Some (first, body) → (first ≡ title → ⊥) → IsFirstFault p text 1
  other_title first body e other = at_title (subst IsNoTitle (sym e) other)

  pub begun : (first body : List ℕ) → cut 10 text ≡ Some (first, body) → first ≡ title → text ≡ title ++ 10 ∷ (lines_text p.names [] ++ body)
  begun first body e is = cut_joins 10 text first body e ∙ ap (λ f. f ++ 10 ∷ body) is

  pub no_lines : IsCertificate p []
  no_lines = record { flat = tt; few = omega arith }

  module _ (ls : List Flat) (rest : List ℕ) (known : IsCertificate p ls) (is : text ≡ title ++ 10 ∷ (lines_text p.names ls ++ rest)) where
    pub missing : cut 10 rest ≡ None → IsFirstFault p text (length ls + 2)
    missing e = behind ls rest known is (subst (CantStand p ls) (sym e) tt)

    module _ (line others : List ℕ) (parts : cut 10 rest ≡ Some (line, others)) where
      rest_is : rest ≡ line ++ 10 ∷ others
      rest_is = cut_joins 10 rest line others parts

      ended : line ≡ last_line → text ≡ certificate_text p.names ls ++ others
      ended last =
          is ∙ ap (λ r. title ++ 10 ∷ (lines_text p.names ls ++ r)) (rest_is ∙ ap (λ t. t ++ 10 ∷ others) last)
          ∙ ap (λ r. title ++ 10 ∷ r) (sym (append_assoc (lines_text p.names ls) (last_line ++ 10 ∷ []) others))

      pub goes_on : (n : ℕ) → n ≡ length ls + 3 → line ≡ last_line → (others ≡ [] → ⊥) → IsFirstFault p text n
      goes_on n e last some = subst (IsFirstFault p text) (sym e) (after_last ls others known (ended last) some)

      pub whole : line ≡ last_line → others ≡ [] → text ≡ certificate_text p.names ls
      whole last none = ended last ∙ ap (λ r. certificate_text p.names ls ++ r) none ∙ append-nil (certificate_text p.names ls)

      pub too_many : (n : ℕ) → n ≡ length ls + 2 → (line ≡ last_line → ⊥) → LINES ≤ length ls → IsFirstFault p text n
      too_many n e other full =
          subst (IsFirstFault p text) (sym e) (behind ls rest known is (subst (CantStand p ls) (sym parts)
          (other, λ l all spelled. absurd (omega (arith, full, all.few, length-append ls (l ∷ []))))))

      pub no_line : (n : ℕ) → n ≡ length ls + 2 → (line ≡ last_line → ⊥) → IsRead (line_text p.names) (IsFlat p) line None → IsFirstFault p text n
      no_line n e other bad =
          subst (IsFirstFault p text) (sym e) (behind ls rest known is (subst (CantStand p ls) (sym parts)
          (other, λ l all spelled. bad l (all_back (IsFlat p) ls (l ∷ []) all.flat).0 spelled)))

      module _ (l : Flat) (good : IsRead (line_text p.names) (IsFlat p) line (Some l)) (room : length ls < LINES) where
        pub one_more : IsCertificate p (ls ++ l ∷ [])
        one_more = record { flat = all_join (IsFlat p) ls (l ∷ []) known.flat (good.0, tt); few = omega (arith, room, length-append ls (l ∷ [])) }

        pub longer : text ≡ title ++ 10 ∷ (lines_text p.names (ls ++ l ∷ []) ++ others)
        longer =
            is ∙ ap (λ r. title ++ 10 ∷ r)
            (ap (λ r. lines_text p.names ls ++ r) (rest_is ∙ ap (λ t. t ++ 10 ∷ others) good.1 ∙ sym (append_assoc (line_text p.names l) (10 ∷ []) others))
            ∙ sym (append_assoc (lines_text p.names ls) (line_text p.names l ++ 10 ∷ []) others)
            ∙ ap (λ r. r ++ others) (ap (λ r. lines_text p.names ls ++ r) (sym (append-nil (line_text p.names l ++ 10 ∷ [])))
            ∙ sym (flat_map-append (λ k. line_text p.names k ++ 10 ∷ []) ls (l ∷ []))))
