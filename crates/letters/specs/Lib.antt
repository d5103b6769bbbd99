-- Sets of letters, and the order in which letters are shown.
pub mod LetterSet
pub mod Order
