-- lines, one after another
pub mod LineTexts
