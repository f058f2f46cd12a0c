pub mod CountLemmas
pub mod ReadingLemmas
pub mod WritingLemmas
pub mod WrittenLemmas
