-- Integer powers of a word, up to moves.
use Rattle.std.proofs.Common.{suc, zero, ℤ, pos, negsuc, ◌+ℤ◌, List, [], ◌++◌, length, sym, subst, append_assoc, append-nil}
use Rattle.std.proofs.Math.IntN.{suc_ℤ, pred_ℤ, suc_ℤ-+ℤ, pred_ℤ-+ℤ, +ℤ_idl}
use Rattle.free_words.specs.declared.letter.Letter.{Letter}
use Rattle.free_words.specs.Words.{inverse, copies}
use Rattle.free_words.proofs.WordLemmas.{copies-suc}
use Rattle.free_words.proofs.OverLemmas.{IsOver-copies, IsOver-inverse}
use Rattle.presentation.specs.Presented.{Presented}
use Rattle.derivation.specs.Moves.{IsWordOver, Reaches, Trivial}
use Rattle.derivation.proofs.Reaching.{reaches_self, reaches_on, reaches_back, reaches_behind, reaches_before}
use Rattle.derivation.proofs.TrivialLaws.{trivial_cancel, trivial_cancel_back}

-- the word to the power q
abbrev pub raised : ℤ → List Letter → List Letter
raised (pos k) w = copies k w
raised (negsuc k) w = copies (suc k) (inverse w)

module _ (p : Presented) where
  pub over-raised : (q : ℤ) (w : List Letter) → IsWordOver p w → IsWordOver p (raised q w)
  over-raised (pos k) w over = IsOver-copies (length p.names) k w over
  over-raised (negsuc k) w over = IsOver-copies (length p.names) (suc k) (inverse w) (IsOver-inverse (length p.names) w over)

  -- u (v w) leads to w where u v is trivial
  pub front_gone : (u v w : List Letter) → Trivial p (u ++ v) → Reaches p (u ++ (v ++ w)) w
  front_gone u v w way = subst (λ z. Reaches p z w) (append_assoc u v w) (reaches_before p w (u ++ v) [] way)

  raised_up : (q : ℤ) (w : List Letter) → IsWordOver p w → Reaches p (raised (suc_ℤ q) w) (w ++ raised q w)
  raised_up (pos k) w over = subst (λ z. Reaches p z (w ++ copies k w)) (copies-suc k w) (reaches_self p (w ++ copies k w))
  raised_up (negsuc zero) w over = reaches_back p (w ++ inverse w) [] (trivial_cancel p w over)
  raised_up (negsuc (suc k)) w over =
      let less : List Letter = copies (suc k) (inverse w) in
      reaches_back p (w ++ copies (suc (suc k)) (inverse w)) less
      (subst (λ z. Reaches p (w ++ z) less) (copies-suc (suc k) (inverse w)) (front_gone w (inverse w) less (trivial_cancel p w over)))

  raised_down : (q : ℤ) (w : List Letter) → IsWordOver p w → Reaches p (raised (pred_ℤ q) w) (inverse w ++ raised q w)
  raised_down (pos zero) w over = subst (Reaches p (inverse w)) (sym (append-nil (inverse w))) (reaches_self p (inverse w))
  raised_down (pos (suc k)) w over =
      reaches_back p (inverse w ++ copies (suc k) w) (copies k w)
      (subst (λ z. Reaches p (inverse w ++ z) (copies k w)) (copies-suc k w) (front_gone (inverse w) w (copies k w) (trivial_cancel_back p w over)))
  raised_down (negsuc k) w over =
      subst (λ z. Reaches p z (inverse w ++ copies (suc k) (inverse w))) (copies-suc (suc k) (inverse w))
      (reaches_self p (inverse w ++ copies (suc k) (inverse w)))

  -- one more factor x in front of both sides
  step_on : (x a b c d : List Letter) → Reaches p a (x ++ b) → Reaches p b (c ++ d) → Reaches p a ((x ++ c) ++ d)
  step_on x a b c d first second =
      reaches_on p a (x ++ b) ((x ++ c) ++ d) first (subst (Reaches p (x ++ b)) (sym (append_assoc x c d)) (reaches_behind p x b (c ++ d) second))

  pub raised-add : (q s : ℤ) (w : List Letter) → IsWordOver p w → Reaches p (raised (q +ℤ s) w) (raised q w ++ raised s w)
  raised-add (pos zero) s w over = subst (λ z. Reaches p (raised z w) (raised s w)) (sym (+ℤ_idl s)) (reaches_self p (raised s w))
  raised-add (pos (suc k)) s w over =
      subst (λ z. Reaches p (raised z w) ((copies k w ++ w) ++ raised s w)) (sym (suc_ℤ-+ℤ (pos k) s))
      (subst (λ z. Reaches p (raised (suc_ℤ (pos k +ℤ s)) w) (z ++ raised s w)) (copies-suc k w)
      (step_on w (raised (suc_ℤ (pos k +ℤ s)) w) (raised (pos k +ℤ s) w) (copies k w) (raised s w) (raised_up (pos k +ℤ s) w over)
      (raised-add (pos k) s w over)))
  raised-add (negsuc zero) s w over =
      subst (λ z. Reaches p (raised z w) (inverse w ++ raised s w)) (sym (pred_ℤ-+ℤ (pos 0) s))
      (subst (λ z. Reaches p (raised (pred_ℤ z) w) (inverse w ++ raised s w)) (sym (+ℤ_idl s)) (raised_down s w over))
  raised-add (negsuc (suc k)) s w over =
      let v : List Letter = inverse w in
      subst (λ z. Reaches p (raised z w) ((copies (suc k) v ++ v) ++ raised s w)) (sym (pred_ℤ-+ℤ (negsuc k) s))
      (subst (λ z. Reaches p (raised (pred_ℤ (negsuc k +ℤ s)) w) (z ++ raised s w)) (copies-suc (suc k) v)
      (step_on v (raised (pred_ℤ (negsuc k +ℤ s)) w) (raised (negsuc k +ℤ s) w) (copies (suc k) v) (raised s w) (raised_down (negsuc k +ℤ s) w over)
      (raised-add (negsuc k) s w over)))
