-- What a command answers: a status and a text of whole lines.
use Rattle.std.specs.Prelude.{◌≢◌, ℕ, List, ◌++◌, codes, decimal}
use Rattle.command_floor.specs.declared.status.Status.{Status}
use Rattle.command_floor.specs.declared.status.Status.TheVariants.{WordsRefused, TextRefused, ReadFault, WriteFault}
use Rattle.command_floor.specs.declared.status.Status.TheVariants.{NoMemory}
use Rattle.word_text.specs.declared.fault.TextFault.{TextFault}
use Rattle.word_text.specs.declared.fault.TextKind.{TextKind}
use Rattle.word_text.specs.declared.fault.TextKind.TheVariants.{BadByte, Expected, TooManyNames, RepeatedName}
use Rattle.word_text.specs.declared.fault.TextKind.TheVariants.{UnknownName, TooManyRelators, ExponentTooLarge}
use Rattle.word_text.specs.declared.fault.TextKind.TheVariants.{ModulusOutOfRange, WordTooLong, TooManyQuestions}
use Rattle.word_text.specs.declared.fault.TextKind.TheVariants.{TooManyLetters, NoSession}

pub record Answer : Type 0 where
  pub status : Status
  pub text : List ℕ

-- a status that an answer may have: not that of a failure which leaves no answer
abbrev pub IsSaid : Status → Type 0
IsSaid status = (status ≢ WriteFault) × (status ≢ NoMemory)

-- the words of the command line are outside the table of commands
abbrev pub refused_words : Answer
refused_words = record { status = WordsRefused; text = codes "refused words\n" }

-- the text under this name could not be read
abbrev pub unread : List ℕ → Answer
unread name = record { status = ReadFault; text = codes "read fault " ++ name ++ codes "\n" }

-- the text under this name has more bytes than its limit
abbrev pub too_long : List ℕ → ℕ → Answer
too_long name limit = record {
  status = TextRefused;
  text =
      codes "refused " ++ name ++ codes " too long " ++ decimal limit ++ codes "\n";
}

-- the name that a kind of fault has in an answer
abbrev pub kind_text : TextKind → List ℕ
kind_text BadByte = codes "bad-byte"
kind_text Expected = codes "expected"
kind_text TooManyNames = codes "too-many-names"
kind_text RepeatedName = codes "repeated-name"
kind_text UnknownName = codes "unknown-name"
kind_text TooManyRelators = codes "too-many-relators"
kind_text ExponentTooLarge = codes "exponent-too-large"
kind_text ModulusOutOfRange = codes "modulus-out-of-range"
kind_text WordTooLong = codes "word-too-long"
kind_text TooManyQuestions = codes "too-many-questions"
kind_text TooManyLetters = codes "too-many-letters"
kind_text NoSession = codes "no-session"

-- the text under this name, or the word of the command line, has this first fault
abbrev pub refused : List ℕ → TextFault → Answer
refused name f = record {
  status = TextRefused;
  text = codes "refused " ++ name ++ codes " line " ++ decimal f.line ++ codes " column " ++ decimal f.column
      ++ codes " " ++ kind_text f.kind ++ codes "\n";
}

-- in this line of the session under this name, the image of this relator is too long
abbrev pub image_too_long : List ℕ → ℕ → ℕ → Answer
image_too_long name line relator = record {
  status = TextRefused;
  text = codes "refused " ++ name ++ codes " line " ++ decimal line ++ codes " image-too-long " ++ decimal relator
      ++ codes "\n";
}
