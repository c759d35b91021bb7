-- The answers of a report, by the numbers of session and question, and their proofs.
use Rattle.std.specs.Prelude.{ℕ, zero, suc, ◌==◌, Bool, true, false, ◌&&◌, not, if◌then◌else◌, List, length, filter, take}
use Rattle.std.specs.Prelude.{Option, Some, None, option_map, option_and_then, slice_get, slice_index_or, []}
use Rattle.free_words.specs.declared.letter.Letter.{Letter}
use Rattle.module_vec.specs.declared.steps.Step.{Step}
use Rattle.session_text.specs.Questions.{subjects}
use Rattle.report_reading.specs.declared.replies.ReplyData.{ReplyData}
use Rattle.report_reading.specs.Telling.{is_open}
use Rattle.check_commands.specs.declared.flat.ProofNumber.{ProofNumber}

-- an answer of the session: made while the log grew, or behind the end
abbrev pub is_of : ℕ → Bool → ReplyData → Bool
is_of session true r = (r.session == session) && r.live
is_of session false r = (r.session == session) && not r.live

-- The answers of a session of one kind, in their order. Those that were made while the log grew are the answers to its
-- questions 1, 2, 3 and so on; those behind the end are the answers to the questions that were left open, in order too.
abbrev pub answers_of : ℕ → Bool → List ReplyData → List ReplyData
answers_of session live rs = filter (is_of session live) rs

-- how many answers leave their question open
abbrev pub left_open : List ReplyData → ℕ
left_open rs = length (filter (λ r. is_open r.verdict) rs)

-- where a question is left open by the answer to it, it is answered behind the end: behind the answers to those before
-- it
abbrev pub last_answer : ℕ → ℕ → List ReplyData → ReplyData → Option ReplyData
last_answer session place rs r =
    if is_open r.verdict then slice_get (answers_of session false rs)
    (left_open (take place (answers_of session true rs)))
    else Some r

-- the last answer to the session's question at a place
abbrev pub reply_at : ℕ → ℕ → List ReplyData → Option ReplyData
reply_at session place rs =
    option_and_then (last_answer session place rs) (slice_get (answers_of session true rs) place)

-- the last answer to a question with this number, from 1
abbrev pub reply_to : ℕ → ℕ → List ReplyData → Option ReplyData
reply_to session zero rs = None
reply_to session (suc place) rs = reply_at session place rs

-- a subject of the answer with its proof
abbrev pub proof_at : ReplyData → ℕ → Option (List Letter × List Step)
proof_at r zero = None
proof_at r (suc j) = option_map (λ steps. (slice_index_or (subjects r.question) j [], steps)) (slice_get r.proofs j)

-- the subject that is asked for, with its proof: only a yes has proofs, one for each subject
abbrev pub proof_in : ProofNumber → List ReplyData → Option (List Letter × List Step)
proof_in at rs = option_and_then (λ r. proof_at r at.subject) (reply_to at.session at.question rs)
