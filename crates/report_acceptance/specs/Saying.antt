-- What a written report says when it is read.
use Rattle.std.specs.List.{range_with_len, flat_map}
use Rattle.std.specs.Prelude.{◌≡◌, ℕ, true, false, ◌==◌, if◌then◌else◌, List, [], ◌∷◌, ◌++◌, length, map, Option, Some}
use Rattle.std.specs.Prelude.{None, Result, Ok, Err}
use Rattle.session_text.specs.declared.question.Question.{Question}
use Rattle.basis_entry.specs.Entries.{BasisEntry}
use Rattle.basis_entry.specs.Seals.{item_count}
use Rattle.report_text.specs.Histories.{Reply, Answered, SessionAnswers, History}
use Rattle.report_reading.specs.declared.entry.EntryData.{EntryData}
use Rattle.report_reading.specs.declared.replies.ReplyData.{ReplyData}
use Rattle.report_reading.specs.declared.data.ReportData.{ReportData}
use Rattle.report_reading.specs.declared.fault.ReportFault.{ReportFault}
use Rattle.report_reading.specs.declared.fault.ReportFault.TheVariants.{Line as AtLine, NoMemory}

abbrev pub entry_data : BasisEntry → EntryData
entry_data e = record { recipe = e.recipe; vector = e.vector }

-- ---- the answers while the log grew

abbrev pub live_reply : ℕ → Answered → ReplyData
live_reply s a = record {
  session = s;
  question = a.question;
  live = true;
  front = a.live.front;
  verdict = a.live.verdict;
  proofs = a.live.proofs;
}

-- the answer of session s, if it was made at the front
abbrev pub replied_at : ℕ → ℕ → Answered → List ReplyData
replied_at front s a = if a.live.front == front then live_reply s a ∷ [] else []

-- by session and question, what was answered at the front
abbrev pub replies_at : List SessionAnswers → ℕ → List ReplyData
replies_at ss front = flat_map (λ s. flat_map (replied_at front s.number) s.answers) ss

-- ---- the answers behind the end

abbrev pub closing_reply : ℕ → Question → Option Reply → List ReplyData
closing_reply s q None = []
closing_reply s q (Some r) = record {
  session = s;
  question = q;
  live = false;
  front = r.front;
  verdict = r.verdict;
  proofs = r.proofs;
} ∷ []

abbrev pub closed_in : ℕ → Answered → List ReplyData
closed_in s a = closing_reply s a.question a.closing

-- by session and question
abbrev pub closing_replies : List SessionAnswers → List ReplyData
closing_replies ss = flat_map (λ s. flat_map (closed_in s.number) s.answers) ss

-- ---- all of it

-- the entries are numbered from 0; the answers stand by their fronts, and behind them those behind the end
abbrev pub data_of : History → ReportData
data_of h = record {
  version = 1;
  items = item_count h.entries h.seal;
  from = range_with_len 0 (length h.entries);
  entries = map entry_data h.entries;
  replies = flat_map (replies_at h.sessions) (range_with_len 1 (item_count h.entries h.seal))
      ++ closing_replies h.sessions;
  end = h.end;
}

-- what was written is read, unless memory ran out
abbrev pub IsReadBack : History → Result ReportData ReportFault → Type 0
IsReadBack h (Ok d) = d ≡ data_of h
IsReadBack h (Err (AtLine n)) = ⊥
IsReadBack h (Err NoMemory) = Unit {0}
