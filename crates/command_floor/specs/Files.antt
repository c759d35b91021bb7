-- What a text that a command reads leads to.
use Rattle.std.specs.Prelude.{◌≡◌, ◌≢◌, ℕ, ◌<◌, ◌≤◌, List, length, Option, IfSome, Result, Ok, Err, Vec, codes, ◌⊎◌}
use Rattle.std.specs.declared.alloc.Global.{Global}
use Rattle.command_floor.specs.declared.answer.Halt.{Halt}
use Rattle.command_floor.specs.declared.answer.Halt.TheVariants.{Says, NoMemory}
use Rattle.word_text.specs.declared.fault.Fault.{Fault}
use Rattle.word_text.specs.declared.fault.TextFault.{TextFault}
use Rattle.word_text.specs.declared.fault.ReadFault as read
use Rattle.word_text.specs.declared.fault.ReadFault.TheVariants as faults
use Rattle.free_words.specs.declared.letter.Letter.{Letter}
use Rattle.word_text.specs.Machine.{finding}
use Rattle.word_text.specs.Place.{placed, word_text}
use Rattle.presentation.specs.Presented.{Presented}
use Rattle.command_floor.specs.declared.status.Status.TheVariants.{Done, Open, ReadFault}
use Rattle.command_floor.specs.Answers.{Answer, unread, too_long, refused}

-- a reader whose faults have a line and a column
abbrev pub at_lines : {X : Type 0} → List ℕ → Result X Fault → Result X TextFault
at_lines bytes (Ok x) = Ok x
at_lines bytes (Err e) = Err (placed bytes e)

abbrev pub in_lines : {X : Type 0} → (List ℕ → Result X Fault) → List ℕ → Result X TextFault
in_lines read bytes = at_lines bytes (read bytes)

-- a text that was parsed: its first fault is the answer, or its value goes on
abbrev pub ReadLeads : {X : Type 0} → List ℕ → Result X TextFault → (X → Answer → Type 0) → Answer → Type 0
ReadLeads name (Err f) next a = a ≡ refused name f
ReadLeads name (Ok x) next a = next x a

-- a text of at most so many bytes is parsed
abbrev pub TextLeads : {X : Type 0} → ℕ → List ℕ → List ℕ → (List ℕ → Result X TextFault) → (X → Answer → Type 0)
    → Answer → Type 0
TextLeads limit name bytes read next a =
    ((limit < length bytes) × (a ≡ too_long name limit)) ⊎ ((length bytes ≤ limit) × ReadLeads name (read bytes) next a)

-- The text under a name is read whole and then parsed. Reading it failed, which the shelf has counted; or, where the
-- shelf tells the bytes, they lead to the answer.
abbrev pub FileLeads : {X : Type 0} → Type 0 → ℕ → List ℕ → Option (List ℕ) → (List ℕ → Result X TextFault)
    → (X → Answer → Type 0) → Answer → Type 0
FileLeads counted limit name told read next a =
    (counted × (a ≡ unread name)) ⊎ IfSome told (λ bytes. TextLeads limit name bytes read next a)

-- what reading a text whole answers: its bytes, at most so many, or what is wrong
abbrev pub Loaded : Type 0 → ℕ → List ℕ → Option (List ℕ) → Result (Vec ℕ Global) Halt → Type 0
Loaded counted limit name told (Ok v) = (length v.items ≤ limit) × IfSome told (λ bytes. v.items ≡ bytes)
Loaded counted limit name told (Err (Says a)) =
    (counted × (a ≡ unread name)) ⊎ (IfSome told (λ bytes. limit < length bytes) × (a ≡ too_long name limit))
Loaded counted limit name told (Err NoMemory) = Unit {0}

-- why a text has no value
abbrev pub FileFails : {X : Type 0} → Type 0 → ℕ → List ℕ → Option (List ℕ) → (List ℕ → Result X TextFault)
    → Answer → Type 0
FileFails counted limit name told read a =
    (counted × (a ≡ unread name)) ⊎ IfSome told (λ bytes.
    ((limit < length bytes) × (a ≡ too_long name limit)) ⊎ ((length bytes ≤ limit)
    × ((f : TextFault) × (read bytes ≡ Err f) × (a ≡ refused name f))))

-- what reading a text whole and parsing it answers: its value, as `view` shows it, or what is wrong
abbrev pub FileGives : {X Y : Type 0} → (Y → X) → Type 0 → ℕ → List ℕ → Option (List ℕ) → (List ℕ → Result X TextFault)
    → Result Y Halt → Type 0
FileGives view counted limit name told read (Ok y) = IfSome told (λ bytes. (length bytes ≤ limit)
    × (read bytes ≡ Ok (view y)))
FileGives view counted limit name told read (Err (Says a)) = FileFails counted limit name told read a
FileGives view counted limit name told read (Err NoMemory) = Unit {0}

-- the answer to what is wrong with a text
abbrev pub Refuses : List ℕ → read.ReadFault → Halt → Type 0
Refuses name (faults.Text f) (Says a) = a ≡ refused name f
Refuses name faults.NoMemory (Says a) = ⊥
Refuses name fault NoMemory = Unit {0}

-- a command that goes no further has done nothing and reports nothing, and says that a text could not be read only
-- where the shelf has counted it
abbrev pub HasCause : Type 0 → Halt → Type 0
HasCause counted (Says a) = (a.status ≢ Done) × (a.status ≢ Open) × (a.status ≡ ReadFault → counted)
HasCause counted NoMemory = Unit {0}

-- what reading a text that is at hand answers: its value, or what is wrong with the text, which has this name
abbrev pub TextGives : {X : Type 0} → List ℕ → Result X TextFault → Result X Halt → Type 0
TextGives name read (Ok x) = read ≡ Ok x
TextGives name read (Err (Says a)) = (f : TextFault) × (read ≡ Err f) × (a ≡ refused name f)
TextGives name read (Err NoMemory) = Unit {0}

-- what reading a word of the command line answers
abbrev pub WordGives : {X : Type 0} → Result X TextFault → Result X Halt → Type 0
WordGives read given = TextGives (codes "word") read given

-- the word of the command line as a text
abbrev pub read_word : Presented → List ℕ → Result (List Letter) TextFault
read_word p text = in_lines (word_text (finding p.names)) text

-- what a command gives: the answer that is due, unless memory runs out
abbrev pub CommandEnd : (Answer → Type 0) → Result Answer Halt → Type 0
CommandEnd due (Ok a) = due a
CommandEnd due (Err (Says a)) = due a
CommandEnd due (Err NoMemory) = Unit {0}

-- The bytes under a name are read whole, at most so many. Reading it failed, which the shelf has counted; or,
-- where the shelf tells the bytes, they lead to the answer.
abbrev pub BytesLead : Type 0 → ℕ → List ℕ → Option (List ℕ) → (List ℕ → Answer → Type 0) → Answer → Type 0
BytesLead counted limit name told next a =
    (counted × (a ≡ unread name)) ⊎ IfSome told (λ bytes. ((limit < length bytes) × (a ≡ too_long name limit))
    ⊎ ((length bytes ≤ limit) × next bytes a))
