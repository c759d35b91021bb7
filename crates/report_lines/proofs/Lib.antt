-- texts of two parts, and numbers
pub mod Pairs
pub mod Numbers
-- the parts of lines
pub mod QuestionTexts
pub mod MadeTexts
pub mod TaskTexts
pub mod StopTexts
-- ends, verdicts and answers
pub mod EndTexts
pub mod VerdictTexts
pub mod AnswerTexts
-- lines
pub mod LineTexts
pub mod ReadingBack
-- lines of trimmed reports
pub mod TrimmedTexts
