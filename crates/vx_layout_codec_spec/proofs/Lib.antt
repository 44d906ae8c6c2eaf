pub mod SpelledAgain
pub mod ParsedBack
