-- cutting at separators
pub mod Cuts
-- numbers, and the bytes that they lack
pub mod Numbers
pub mod Lacking
