-- single steps
pub mod StepTexts
-- lists of steps
pub mod StepLists
-- back again
pub mod ReadingBack
