use Rattle.std.proofs.Common.{◌≡◌, Err, subst, List, ℕ, codes}
use Rattle.word_text.specs.Machine.{finding}
use Rattle.word_text.specs.Place.{word_text, ReadsText}
use Rattle.command_floor.proofs.Wording.{text_refused}
use Rattle.command_floor.proofs.files.command_word.Goals as goal

pub returns-in-Err : goal.returns-in-Err
returns-in-Err c =
    let find = finding c.args.p.now.names in
    let P : List ℕ → Type 0 = λ text. ReadsText text (word_text find text) (Err c.in-Err.fault) in
    let exact : P c.as_bytes.result.now = c.in-Err.ensures.exact in
    let same : c.as_bytes.result.now ≡ c.args.text.now = cc in
    record {
      gives = text_refused (codes "word") c.args.text.now (word_text find c.args.text.now) c.in-Err.fault c.refusal.result (subst P same exact)
          c.refusal.ensures.refuses;
      cause = c.refusal.ensures.cause;
      over = tt;
    }
