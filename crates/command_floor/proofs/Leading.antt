-- From what a reader of a text gives to the answer that is due.
use Rattle.std.proofs.Common.{◌≡◌, ℕ, ◌≤◌, List, length, Option, Some, None, Result, Ok, inl, inr, sym, subst}
use Rattle.std.specs.Prelude.{IfSome}
use Rattle.word_text.specs.declared.fault.TextFault.{TextFault}
use Rattle.command_floor.specs.Answers.{Answer}
use Rattle.command_floor.specs.Files.{ReadLeads, TextLeads, FileLeads, FileFails, BytesLead}

-- a text that has no value leads to its answer, whatever would come next
text_fails : {X : Type 0} (limit : ℕ) (name bytes : List ℕ) (read : List ℕ → Result X TextFault) (next : X → Answer → Type 0) (a : Answer)
    → FileFails ⊥ limit name (Some bytes) read a → TextLeads limit name bytes read next a
text_fails limit name bytes read next a (inl h) = absurd h.0
text_fails limit name bytes read next a (inr (inl h)) = inl h
text_fails limit name bytes read next a (inr (inr h)) =
    inr (h.0, subst (λ (r : Result _ TextFault). ReadLeads name r next a) (sym h.1.1) h.1.2)

pub fails_lead : {X : Type 0} (counted later : Type 0) → (counted → later) → (limit : ℕ) (name : List ℕ) (told : Option (List ℕ))
    (read : List ℕ → Result X TextFault) (next : X → Answer → Type 0) (a : Answer)
    → FileFails counted limit name told read a → FileLeads later limit name told read next a
fails_lead counted later on limit name told read next a (inl h) = inl (on h.0, h.1)
fails_lead counted later on limit name None read next a (inr h) = inr tt
fails_lead counted later on limit name (Some bytes) read next a (inr h) = inr (text_fails limit name bytes read next a (inr h))

-- a text that has a value leads to what comes next
pub gives_lead : {X : Type 0} (counted : Type 0) (limit : ℕ) (name : List ℕ) (told : Option (List ℕ))
    (read : List ℕ → Result X TextFault) (next : X → Answer → Type 0) (x : X) (a : Answer)
    → IfSome told (λ bytes. (length bytes ≤ limit) × (read bytes ≡ Ok x)) → next x a
    → FileLeads counted limit name told read next a
gives_lead counted limit name None read next x a h on = inr tt
gives_lead counted limit name (Some bytes) read next x a h on =
    inr (inr (h.0, subst (λ (r : Result _ TextFault). ReadLeads name r next a) (sym h.1) on))

-- bytes that were read lead to what comes next
pub bytes_lead : (counted : Type 0) (limit : ℕ) (name : List ℕ) (told : Option (List ℕ)) (items : List ℕ) (next : List ℕ → Answer → Type 0) (a : Answer)
    → length items ≤ limit → IfSome told (λ bytes. items ≡ bytes) → next items a → BytesLead counted limit name told next a
bytes_lead counted limit name None items next a le is on = inr tt
bytes_lead counted limit name (Some bytes) items next a le is on =
    inr (inr (subst (λ (b : List ℕ). length b ≤ limit) is le, subst (λ (b : List ℕ). next b a) is on))
