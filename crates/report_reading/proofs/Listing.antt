-- Lines that were told, one more at a time.
use Rattle.std.proofs.Common.{◌≡◌, ℕ, ◌+◌, List, [], ◌∷◌, ◌++◌, length, min, refl, sym, ap, subst, ◌∙◌, append_assoc, arith}
use Rattle.std.specs.List.{AllByRecursion}
use Rattle.std.specs.Prelude.{Some, None}
use Rattle.spelling.specs.Spelling.{cut}
use Rattle.spelling.proofs.Cuts.{cut_joins}
use Rattle.word_text.specs.Place.{capped}
use Rattle.presentation.specs.Presented.{Presented}
use Rattle.report_reading.specs.declared.data.ReportData.{ReportData}
use Rattle.report_reading.specs.declared.form.Form.{Form}
use Rattle.report_reading.specs.declared.form.Form.TheVariants.{Whole, Trimmed}
use Rattle.report_reading.specs.Telling.{Told, nothing}
use Rattle.report_reading.specs.Forms.{LineIn, IsLineIn, text_in, lines_in, first_line, FollowsIn, tell_in, TellIn, SaysIn}
use Rattle.report_reading.specs.Reading.{IsTaken, NoneFollows, Begins, IsBody, CantStand, StandsUpTo}

all_append : {X : Type 0} (P : X → Type 0) (xs ys : List X) → AllByRecursion P xs → AllByRecursion P ys → AllByRecursion P (xs ++ ys)
all_append P [] ys a b = b
all_append P (x ∷ xs) ys a b = (a.0, all_append P xs ys a.1 b)

module _ (f : Form) where
  tell_more : (s t u : Told) (ls : List (LineIn f)) (l : LineIn f) → TellIn f s ls t → FollowsIn f t l → u ≡ tell_in f t l → TellIn f s (ls ++ l ∷ []) u
  tell_more s t u [] l is follows made = (subst (λ x. FollowsIn f x l) (sym is) follows, ap (λ x. tell_in f x l) is ∙ sym made)
  tell_more s t u (m ∷ ls) l told follows made = (told.0, tell_more (tell_in f s m) t u ls l told.1 follows made)

  -- one more line behind the others
  text_more : (p : Presented) (ls : List (LineIn f)) (l : LineIn f) (others : List ℕ) → lines_in f p (ls ++ l ∷ []) ++ others
      ≡ lines_in f p ls ++ (text_in f p l ++ 10 ∷ others)
  text_more p [] l others =
      append_assoc (text_in f p l ++ 10 ∷ []) [] others ∙ append_assoc (text_in f p l) (10 ∷ []) others
  text_more p (m ∷ ls) l others =
      append_assoc (text_in f p m ++ 10 ∷ []) (lines_in f p (ls ++ l ∷ [])) others
      ∙ (ap (λ x. (text_in f p m ++ 10 ∷ []) ++ x) (text_more p ls l others)
      ∙ sym (append_assoc (text_in f p m ++ 10 ∷ []) (lines_in f p ls) (text_in f p l ++ 10 ∷ others)))

  length_more : (ls : List (LineIn f)) (l : LineIn f) → length (ls ++ l ∷ []) ≡ length ls + 1
  length_more [] l = refl
  length_more (m ∷ ls) l = let e : length (ls ++ l ∷ []) ≡ length ls + 1 = length_more ls l in omega (arith, e)

capped_more : (b n k : ℕ) → n ≡ capped (b + k) → min (n + 1) 4294967295 ≡ capped (b + (k + 1))
capped_more b n k is = omega (arith, is)

-- these lines were told of the text, the rest is left, and its first line has the number n
pub record IsLeft (f : Form) (p : Presented) (text : List ℕ) (n : ℕ) (t : Told) (rest : List ℕ) : Type 0 where
  pub ls : List (LineIn f)
  pub begins : Begins f p ls t
  pub spelled : text ≡ lines_in f p ls ++ rest
  pub number : n ≡ capped (first_line f + length ls)

none_before : (f : Form) → first_line f ≡ capped (first_line f + 0)
none_before Whole = refl
none_before (Trimmed n) = refl

pub left_all : (f : Form) (p : Presented) (text : List ℕ) (n : ℕ) (t : Told) → n ≡ first_line f → t ≡ nothing → IsLeft f p text n t text
left_all f p text n t first is =
    record { ls = []; begins = record { valid = tt; tells = sym is }; spelled = refl; number = first ∙ none_before f }

pub left_others : (f : Form) (p : Presented) (text : List ℕ) (n m : ℕ) (t u : Told) (rest line others : List ℕ) → IsLeft f p text n t rest
    → cut 10 rest ≡ Some (line, others)
    → IsTaken f p t line u → m ≡ min (n + 1) 4294967295 → IsLeft f p text m u others
left_others f p text n m t u rest line others left cuts taken next =
    let joined : rest ≡ text_in f p taken.line ++ 10 ∷ others = cut_joins 10 rest line others cuts ∙ ap (λ x. x ++ 10 ∷ others) taken.spelled in
    record {
      ls = left.ls ++ taken.line ∷ [];
      begins = record {
        valid = all_append (IsLineIn f p) left.ls (taken.line ∷ []) left.begins.valid (taken.valid, tt);
        tells = tell_more f nothing t u left.ls taken.line left.begins.tells taken.follows taken.is;
      };
      spelled = left.spelled ∙ (ap (λ x. lines_in f p left.ls ++ x) joined ∙ sym (text_more f p left.ls taken.line others));
      number = next ∙ (capped_more (first_line f) n (length left.ls) left.number
          ∙ ap (λ k. capped (first_line f + k)) (sym (length_more f left.ls taken.line)));
    }

pub none_follows : (f : Form) (p : Presented) (text : List ℕ) (n : ℕ) (t : Told) (rest line others : List ℕ) → IsLeft f p text n t rest
    → cut 10 rest ≡ Some (line, others)
    → NoneFollows f p t line → StandsUpTo f p text n
none_follows f p text n t rest line others left cuts none = record {
  ls = left.ls;
  told = t;
  rest = rest;
  begins = left.begins;
  spelled = left.spelled;
  fails = subst (CantStand f p t rest) (sym cuts) none;
  number = left.number;
}

pub no_end : (f : Form) (p : Presented) (text : List ℕ) (n : ℕ) (t : Told) (rest : List ℕ) → IsLeft f p text n t rest → cut 10 rest ≡ None
    → ((d : ReportData) → rest ≡ [] → SaysIn f t d → ⊥) → StandsUpTo f p text n
no_end f p text n t rest left cuts none = record {
  ls = left.ls;
  told = t;
  rest = rest;
  begins = left.begins;
  spelled = left.spelled;
  fails = subst (CantStand f p t rest) (sym cuts) none;
  number = left.number;
}

append_nothing : (xs : List ℕ) → xs ++ [] ≡ xs
append_nothing [] = refl
append_nothing (x ∷ xs) = ap (λ ys. x ∷ ys) (append_nothing xs)

pub is_body : (f : Form) (p : Presented) (text : List ℕ) (n : ℕ) (t : Told) (rest : List ℕ) (d : ReportData) → IsLeft f p text n t rest → rest ≡ []
    → SaysIn f t d
    → IsBody f p text d
is_body f p text n t rest d left empty says = record {
  ls = left.ls;
  told = t;
  begins = left.begins;
  spelled = left.spelled ∙ (ap (λ x. lines_in f p left.ls ++ x) empty ∙ append_nothing (lines_in f p left.ls));
  says = says;
}
